-- A bed, as what it asks of its limit, and its design.
use Rattle.std.specs.Prelude.{◌≡◌, ℕ, [], ◌∷◌, replicate, pos, negsuc}
use Rattle.charts.specs.Cusum.{cusum}
use Rattle.charts.specs.Meaning.{Meaning}
use Rattle.stoplimit.specs.declared.bed.Bed.{Bed}
use Rattle.stoplimit.specs.declared.design.Design.{Design}
use Rattle.tables.specs.Figures.{Requirements, good_total, off_total, good_caught, off_caught, mildest}
use Rattle.tables.specs.Fit.{Least}

-- What a bed asks.
abbrev pub requirements : Bed → Requirements
requirements b = record {
  good = b.good.weights;
  off = b.off.weights;
  cost = b.cost;
  good_courses = b.good.courses;
  off_courses = b.off.courses;
  false_stops = b.false_stops;
  catches = b.catches;
  lowest = b.lowest;
  highest = b.highest;
}

-- The cusum with the scores -1 0 1, and 0 for the other symbols.
abbrev pub worked_cusum : Meaning
worked_cusum = cusum (negsuc 0 ∷ pos 0 ∷ pos 1 ∷ replicate 13 (pos 0))

-- What the worked bed asks.
abbrev pub worked_bed : Requirements
worked_bed = record {
  good = 2 ∷ 1 ∷ 1 ∷ [];
  off = 1 ∷ 1 ∷ 2 ∷ [];
  cost = 0 ∷ 1 ∷ 3 ∷ [];
  good_courses = 3;
  off_courses = 2;
  false_stops = 150000;
  catches = 250000;
  lowest = 1;
  highest = 6;
}

-- A design holds the figures of its limit h.
pub record Figured (m : Meaning) (r : Requirements) (h : ℕ) (d : Design) : Type 0 where
  pub limit_is : d.limit ≡ h
  pub good_is : d.good.stopped ≡ good_caught m r h
  pub good_of : d.good.all ≡ good_total r
  pub off_is : d.off.stopped ≡ off_caught m r h
  pub off_of : d.off.all ≡ off_total r
  pub mildest_is : d.mildest ≡ mildest m r h

-- A design holds the least fit limit of the range, and the figures there.
pub record Designed (m : Meaning) (r : Requirements) (d : Design) : Type 0 where
  pub least : Least m r d.limit
  pub figures : Figured m r d.limit d
