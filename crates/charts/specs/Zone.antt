-- The meaning of a zone rule, and when its parameters are refused.
use Rattle.std.specs.Prelude.{◌≡◌, ℕ, ◌+◌, ◌*◌, ◌%◌, ◌^◌, ◌<◌, Bool, false, if◌then◌else◌, ◌&&◌, List, [], ◌∷◌, count_ones, nat_le, nat_lt}
use Rattle.charts.specs.Checks.{Check, ◌if◌, IsOutOfRange}
use Rattle.charts.specs.Edge.{edge_fits, member}
use Rattle.charts.specs.Meaning.{Meaning}
use Rattle.charts.specs.Ranges.{valid, within}
use Rattle.charts.specs.declared.edge.Edge.{Edge}

-- The checks of k, m and an edge.
abbrev pub zone_checks : ℕ → ℕ → Edge → List Check
zone_checks k m edge =
    23 if IsOutOfRange 1 8 k
    ∷ 23 if IsOutOfRange 1 8 m
    ∷ 27 if (m < k)
    ∷ 23 if (edge_fits edge ≡ false)
    ∷ []

-- A membership as a bit.
abbrev pub bit : Bool → ℕ
bit b = if b then 1 else 0

-- The states are the last m memberships as bits, the newest lowest, and at the start there is none; a
-- state alarms when at least k of its bits are ones.
abbrev pub zone : ℕ → ℕ → Edge → Meaning
zone k m edge =
    let n : ℕ → ℕ = λ h. if valid h then 2 ^ m else 0 in
    record {
      count = n;
      moves = record {
        start = λ h. 0;
        step = λ h s a. if within (n h) s a then (2 * s + bit (member edge h a)) % 2 ^ m else 0;
        alarm = λ h s. nat_lt s (n h) && nat_le k (count_ones s);
      };
    }
