-- The meaning of a union.
use Rattle.std.specs.Prelude.{◌||◌}
use Rattle.charts.specs.Meaning.{Meaning}
use Rattle.layers.specs.Pairs.{Pairs, coded}

-- Two charts at the same limit as pairs: each steps as it does alone, and either's alarm is one.
abbrev pub both : Meaning → Meaning → Pairs
both p q = record {
  lefts = p.count;
  rights = q.count;
  left_start = p.moves.start;
  right_start = q.moves.start;
  left_step = p.moves.step;
  right_step = λ h x y a. q.moves.step h y a;
  alarm = λ h x y. p.moves.alarm h x || q.moves.alarm h y;
}

-- The union: the chart of these pairs.
abbrev pub union : Meaning → Meaning → Meaning
union p q = coded (both p q)
