-- The worked beds, as one list.
use Rattle.std.specs.Prelude.{ℕ, true, false, List, [], ◌∷◌, replicate, pos, negsuc, Some, None}
use Rattle.charts.specs.Cusum.{cusum}
use Rattle.charts.specs.Meaning.{Meaning}
use Rattle.layers.specs.Confirm.{confirm}
use Rattle.layers.specs.HeadStart.{head_start}
use Rattle.layers.specs.Reset.{reset}
use Rattle.tables.specs.Figures.{Requirements}
use Rattle.worked_examples.specs.Claims.{Bed, figures_are, totals_are, good_is, least_is, none_is_fit}

-- The cusum with the scores -1 0 1, and 0 for the other symbols.
abbrev pub worked_cusum : Meaning
worked_cusum = cusum (negsuc 0 ∷ pos 0 ∷ pos 1 ∷ replicate 13 (pos 0))

-- What the worked task asks with n good courses and at most a parts per million of false stops.
abbrev pub worked_task : ℕ → ℕ → Requirements
worked_task n a = record {
  good = 2 ∷ 1 ∷ 1 ∷ [];
  off = 1 ∷ 1 ∷ 2 ∷ [];
  cost = 0 ∷ 1 ∷ 3 ∷ [];
  good_courses = n;
  off_courses = 2;
  false_stops = a;
  catches = 250000;
  lowest = 1;
  highest = 6;
}

-- The cusum at the limits 1, 2 and 3, with three budgets of false stops, and under its layers.
abbrev pub worked_beds : List Bed
worked_beds =
    record {
      chart = worked_cusum;
      asks = worked_task 3 150000;
      claims =
          totals_are 64 16
          ∷ figures_are 1 (record { caught_good = 37; caught_off = 12; mildest_cost = Some 3; stop_possible = true })
          ∷ figures_are 2 (record { caught_good = 8; caught_off = 4; mildest_cost = Some 6; stop_possible = true })
          ∷ figures_are 3 (record { caught_good = 1; caught_off = 0; mildest_cost = None; stop_possible = false })
          ∷ least_is 2
          ∷ [];
    }
    ∷ record { chart = worked_cusum; asks = worked_task 3 125000; claims = least_is 2 ∷ [] }
    ∷ record { chart = worked_cusum; asks = worked_task 3 124999; claims = none_is_fit ∷ [] }
    ∷ record { chart = confirm 2 worked_cusum; asks = worked_task 3 150000; claims = good_is 1 14 64 ∷ [] }
    ∷ record { chart = confirm 2 (reset worked_cusum); asks = worked_task 3 150000; claims = good_is 1 7 64 ∷ [] }
    ∷ record { chart = head_start 2 2 worked_cusum; asks = worked_task 1 150000; claims = good_is 1 2 4 ∷ [] }
    ∷ []
