-- The meaning of a reset.
use Rattle.std.specs.Prelude.{if◌then◌else◌}
use Rattle.charts.specs.Meaning.{Meaning}

-- A step is the step below, from the start below where the state alarms and from the state elsewhere;
-- the rest is as below.
abbrev pub reset : Meaning → Meaning
reset p = record {
  count = p.count;
  moves = record {
    start = p.moves.start;
    step = λ h s a. p.moves.step h (if p.moves.alarm h s then p.moves.start h else s) a;
    alarm = p.moves.alarm;
  };
}
