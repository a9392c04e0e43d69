-- What can be claimed of a chart and what a task asks.
use Rattle.std.specs.Prelude.{◌≡◌, ℕ, List}
use Rattle.std.specs.List.{AllByRecursion}
use Rattle.charts.specs.Meaning.{Meaning}
use Rattle.tables.specs.Figures.{Requirements, Figures, good_total, off_total, good_caught, figures}
use Rattle.tables.specs.Fit.{Least, NoneFit}

-- A claim of figures or limits.
pub data Claim : Type 0 where
  -- at a limit the figures are these
  figures_are : ℕ → Figures → Claim
  -- the totals are these, of the good and of the off sequences
  totals_are : ℕ → ℕ → Claim
  -- at a limit good caught is this number, of a total
  good_is : ℕ → ℕ → ℕ → Claim
  -- this is the least fit limit of the range
  least_is : ℕ → Claim
  -- no limit of the range is fit
  none_is_fit : Claim

-- A claim is true of the definitions.
abbrev pub TrueOf : Meaning → Requirements → Claim → Type 0
TrueOf m r (figures_are h f) = figures m r h ≡ f
TrueOf m r (totals_are good off) = (good_total r ≡ good) × (off_total r ≡ off)
TrueOf m r (good_is h good total) = (good_caught m r h ≡ good) × (good_total r ≡ total)
TrueOf m r (least_is h) = Least m r h
TrueOf m r none_is_fit = NoneFit m r

-- A chart, what a task asks, and what is claimed of the two.
pub record Bed : Type 0 where
  pub chart : Meaning
  pub asks : Requirements
  pub claims : List Claim

-- Every claim of every bed is true.
abbrev pub AllTrue : List Bed → Type 0
AllTrue beds = AllByRecursion (λ b. AllByRecursion (TrueOf b.chart b.asks) b.claims) beds
