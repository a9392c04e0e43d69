-- The law of a zone rule over whole sequences.
use Rattle.std.specs.Prelude.{◌≡◌, ℕ, ◌+◌, ◌-◌, ◌≤◌, true, ◌↔◌, List, [], ◌∷◌, length, drop}
use Rattle.charts.specs.Edge.{member}
use Rattle.charts.specs.Meaning.{Moves}
use Rattle.charts.specs.Runs.{Symbols, alarms_after}
use Rattle.charts.specs.Zone.{bit}
use Rattle.charts.specs.declared.edge.Edge.{Edge}

-- How many of some courses are members at the limit h.
abbrev pub members : Edge → ℕ → List ℕ → ℕ
members edge h [] = 0
members edge h (a ∷ q) = bit (member edge h a) + members edge h q

-- The last m courses of a sequence; all of them where it has fewer.
abbrev pub last : ℕ → List ℕ → List ℕ
last m q = drop (length q - m) q

-- At each limit from 1 to 1,023 the state after a sequence of symbols below 16 alarms exactly when at
-- least k of its last m symbols are members.
pub record AlarmsByMembers (k m : ℕ) (edge : Edge) (z : Moves) : Type 0 where
  pub exactly : (h : ℕ) → 1 ≤ h → h ≤ 1023 → (q : List ℕ) → Symbols 16 q → (alarms_after z h q ≡ true) ↔ (k ≤ members edge h (last m q))
