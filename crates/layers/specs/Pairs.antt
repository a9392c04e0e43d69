-- Charts whose state is a pair, coded as one number.
use Rattle.std.specs.Prelude.{ℕ, ◌+◌, ◌*◌, ◌/◌, ◌%◌, Bool, if◌then◌else◌, ◌&&◌, nat_le, nat_lt}
use Rattle.charts.specs.Meaning.{Meaning}
use Rattle.charts.specs.Ranges.{within}

-- Two states side by side at a limit: how many there are of each, where they start, the left one
-- after a left state and a symbol, the right one after both states and a symbol, and which pairs
-- alarm.
pub record Pairs : Type 0 where
  pub lefts : ℕ → ℕ
  pub rights : ℕ → ℕ
  pub left_start : ℕ → ℕ
  pub right_start : ℕ → ℕ
  pub left_step : ℕ → ℕ → ℕ → ℕ
  pub right_step : ℕ → ℕ → ℕ → ℕ → ℕ
  pub alarm : ℕ → ℕ → ℕ → Bool

-- A number of states as a state count: 0 above 1,024.
abbrev pub counted : ℕ → ℕ
counted n = if nat_le n 1024 then n else 0

-- The chart of such pairs: the left state x and the right state y have the code x * W + y, where W is
-- how many right states there are.
abbrev pub coded : Pairs → Meaning
coded v =
    let n : ℕ → ℕ = λ h. counted (v.lefts h * v.rights h) in
    record {
      count = n;
      moves = record {
        start = λ h. if nat_lt 0 (n h) then v.left_start h * v.rights h + v.right_start h else 0;
        step = λ h s a. if within (n h) s a then v.left_step h (s / v.rights h) a * v.rights h + v.right_step h (s / v.rights h) (s % v.rights h) a else 0;
        alarm = λ h s. nat_lt s (n h) && v.alarm h (s / v.rights h) (s % v.rights h);
      };
    }
