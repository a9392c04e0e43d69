-- What moves make of a sequence of symbols.
use Rattle.std.specs.Prelude.{◌≡◌, ℕ, ◌<◌, Bool, true, false, ◌||◌, List, [], ◌∷◌, ◌++◌}
use Rattle.std.specs.List.{AllByRecursion}
use Rattle.charts.specs.Meaning.{Moves}

-- Every symbol of the sequence is below k.
abbrev pub Symbols : ℕ → List ℕ → Type 0
Symbols k q = AllByRecursion (λ a. a < k) q

-- The state after a sequence, from the state s.
abbrev pub run_from : Moves → ℕ → ℕ → List ℕ → ℕ
run_from m h s [] = s
run_from m h s (a ∷ q) = run_from m h (m.step h s a) q

-- The state after a sequence, from the start.
abbrev pub end_state : Moves → ℕ → List ℕ → ℕ
end_state m h q = run_from m h (m.start h) q

-- Whether the state after a sequence, from the start, alarms.
abbrev pub alarms_after : Moves → ℕ → List ℕ → Bool
alarms_after m h q = m.alarm h (end_state m h q)

-- Whether a state after one of the steps from s alarms; s itself is not looked at.
abbrev pub stops_from : Moves → ℕ → ℕ → List ℕ → Bool
stops_from m h s [] = false
stops_from m h s (a ∷ q) = m.alarm h (m.step h s a) || stops_from m h (m.step h s a) q

-- Whether a sequence is stopped: a state after one of its steps from the start alarms.
abbrev pub stopped : Moves → ℕ → List ℕ → Bool
stopped m h q = stops_from m h (m.start h) q

-- Some courses are read first; then, after some course of q, the state alarms. The states that the
-- first courses lead to, up to the one in which q begins, are not looked at.
pub record AlarmsWithin (m : Moves) (h : ℕ) (first q : List ℕ) : Type 0 where
  pub front : List ℕ
  pub symbol : ℕ
  pub rest : List ℕ
  pub is : q ≡ front ++ symbol ∷ rest
  pub alarms : alarms_after m h (first ++ (front ++ symbol ∷ [])) ≡ true
