-- What a task asks of a limit, and the figures of a chart for it.
use Rattle.std.specs.Prelude.{ℕ, ◌^◌, Bool, true, if◌then◌else◌, List, [], ◌∷◌, map, sum, Option, ◌==◌}
use Rattle.charts.specs.Meaning.{Meaning}
use Rattle.weights.specs.declared.values.Can.{Can}
use Rattle.weights.specs.declared.values.Cost.{Cost}
use Rattle.weights.specs.Kinds.{cost, costs, present, can, cans}
use Rattle.tables.specs.Exact.{naturals}
use Rattle.tables.specs.Table.{caught_from}

-- What a task asks: the weights of the symbols in good and in off courses and their costs, how many
-- courses of each, the budgets in parts per million (the most good sequences that may be stopped,
-- the least off sequences that must be), and the range of the limit.
pub record Requirements : Type 0 where
  pub good : List ℕ
  pub off : List ℕ
  pub cost : List ℕ
  pub good_courses : ℕ
  pub off_courses : ℕ
  pub false_stops : ℕ
  pub catches : ℕ
  pub lowest : ℕ
  pub highest : ℕ

-- The weight of all good sequences, and of all off ones.
abbrev pub good_total : Requirements → ℕ
good_total r = sum r.good ^ r.good_courses

abbrev pub off_total : Requirements → ℕ
off_total r = sum r.off ^ r.off_courses

-- The weight of the good sequences that the chart stops at the limit h, and of the off ones.
unfoldable pub good_caught : Meaning → Requirements → ℕ → ℕ
good_caught m r h = caught_from naturals m.moves h (m.moves.start h) r.good r.good_courses

unfoldable pub off_caught : Meaning → Requirements → ℕ → ℕ
off_caught m r h = caught_from naturals m.moves h (m.moves.start h) r.off r.off_courses

-- The costs of the symbols as weights: absent where the off weight is 0.
abbrev pub cost_weight : ℕ → ℕ → Cost
cost_weight w c = if w == 0 then costs.zero else cost c

abbrev pub cost_weights : List ℕ → List ℕ → List Cost
cost_weights [] cs = []
cost_weights (w ∷ ws) [] = []
cost_weights (w ∷ ws) (c ∷ cs) = cost_weight w c ∷ cost_weights ws cs

-- Yes for each symbol, but no where the off weight is 0.
abbrev pub can_weight : ℕ → Can
can_weight w = if w == 0 then cans.zero else can true

abbrev pub can_weights : List ℕ → List Can
can_weights ws = map can_weight ws

-- The mildest cost: the join in costs, which is the least, over the sequences of the off courses that
-- the chart stops at the limit h; none where it is absent.
unfoldable pub mildest : Meaning → Requirements → ℕ → Option ℕ
mildest m r h = present (caught_from costs m.moves h (m.moves.start h) (cost_weights r.off r.cost) r.off_courses)

-- Can-stop: the same join in yes or no.
unfoldable pub can_stop : Meaning → Requirements → ℕ → Bool
can_stop m r h = (caught_from cans m.moves h (m.moves.start h) (can_weights r.off) r.off_courses).value

-- The four figures.
pub record Figures : Type 0 where
  pub caught_good : ℕ
  pub caught_off : ℕ
  pub mildest_cost : Option ℕ
  pub stop_possible : Bool

-- The figures of a chart for what a task asks, at the limit h.
abbrev pub figures : Meaning → Requirements → ℕ → Figures
figures m r h = record {
  caught_good = good_caught m r h;
  caught_off = off_caught m r h;
  mildest_cost = mildest m r h;
  stop_possible = can_stop m r h;
}
