-- How the checks of a call, in their order, lead to its answer.
use Rattle.std.specs.Prelude.{◌≡◌, ℕ, ◌<◌, ◌⊎◌, List, [], ◌∷◌, Result, MatchResult}

-- A check of a call: the number that it refuses with, and when it refuses.
pub record Check : Type 1 where
  pub refusal : ℕ
  pub when : Type 0

infix 70 ◌if◌
abbrev pub ◌if◌ : ℕ → Type 0 → Check
n if p = record { refusal = n; when = p }

-- None of the checks refuses.
abbrev pub Passes : List Check → Type 0
Passes [] = Unit {0}
Passes (c ∷ cs) = (c.when → ⊥) × Passes cs

-- The first of the checks that refuses does so with the number n.
abbrev pub Refuses : List Check → ℕ → Type 0
Refuses [] n = ⊥
Refuses (c ∷ cs) n = (c.when × (c.refusal ≡ n)) ⊎ ((c.when → ⊥) × Refuses cs n)

-- A call is accepted exactly when no check refuses, and `so` holds of its answer then; else it
-- answers the number of the first check that refuses, and `left` holds.
abbrev pub Checked : {T R : Type 0} → (R → ℕ) → List Check → Type 0 → (T → Type 0) → Result T R → Type 0
Checked number checks left so answer = MatchResult answer (λ x. Passes checks × so x) (λ e. Refuses checks (number e) × left)

-- A number is not from lo to hi.
abbrev pub IsOutOfRange : ℕ → ℕ → ℕ → Type 0
IsOutOfRange lo hi n = (n < lo) ⊎ (hi < n)
