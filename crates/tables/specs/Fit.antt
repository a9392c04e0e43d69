-- Which limits are fit for a chart and what a task asks.
use Rattle.std.specs.Prelude.{ℕ, ◌*◌, ◌<◌, ◌≤◌}
use Rattle.charts.specs.Meaning.{Meaning}
use Rattle.tables.specs.Figures.{Requirements, good_total, off_total, good_caught, off_caught}

-- The limit h is fit: the chart has states there, few enough good sequences are stopped, and enough
-- off sequences are.
pub record Fit (m : Meaning) (r : Requirements) (h : ℕ) : Type 0 where
  pub some_states : 1 ≤ m.count h
  pub few_states : m.count h ≤ 1024
  pub few_stops : good_caught m r h * 1000000 ≤ r.false_stops * good_total r
  pub enough_catches : r.catches * off_total r ≤ off_caught m r h * 1000000

-- h is the least fit limit of the range.
pub record Least (m : Meaning) (r : Requirements) (h : ℕ) : Type 0 where
  pub from_lowest : r.lowest ≤ h
  pub to_highest : h ≤ r.highest
  pub fit : Fit m r h
  pub none_below : (g : ℕ) → r.lowest ≤ g → g < h → Fit m r g → ⊥

-- No limit of the range is fit.
abbrev pub NoneFit : Meaning → Requirements → Type 0
NoneFit m r = (h : ℕ) → r.lowest ≤ h → h ≤ r.highest → Fit m r h → ⊥
