-- The meaning of a cusum.
use Rattle.std.specs.Prelude.{ℕ, ◌+◌, min, if◌then◌else◌, ◌&&◌, List, ℤ, pos, negsuc, ◌+ℤ◌, ◌==◌, nat_le, nat_lt, slice_index_or}
use Rattle.charts.specs.Meaning.{Meaning}
use Rattle.charts.specs.Ranges.{valid}

-- A number, raised to 0.
abbrev pub raised : ℤ → ℕ
raised (pos n) = n
raised (negsuc n) = 0

-- States 0 to h, from 0; a step adds the symbol's score, raised to 0 and cut to h; state h alarms.
abbrev pub cusum : List ℤ → Meaning
cusum scores = record {
  count = λ h. if valid h then h + 1 else 0;
  moves = record {
    start = λ h. 0;
    step = λ h s a. if valid h && nat_le s h && nat_lt a 16 then min h (raised (pos s +ℤ slice_index_or scores a (pos 0))) else 0;
    alarm = λ h s. valid h && (s == h);
  };
}
