use Rattle.std.proofs.Common.{◌+◌, sym, refl, arith}
use Rattle.tables.specs.Row.{held}
use Rattle.tables.proofs.RollCourses.{sided_even, sided_odd, roll_more}
use Rattle.tables.proofs.chain.Chain.course.Goals as goal

pub returns-in-First-clause-rolled : goal.returns-in-First-clause-rolled
returns-in-First-clause-rolled g c =
    let chain = c.args.self in
    let first = held c.args.first.now in
    let second = held c.args.second.now in
    let row = held c.fill_from.new.self in
    roll_more g.S.Semiring.kind g.met.S.Semiring.laws (g.C.Chart.meaning chain.chart.now) (g.C.Chart.sound chain.chart.now) chain.limit chain.weights.now chain.count chain.counted chain.some chain.few
    c.args.done first second first row first row c.args.caught c.fill_from.result c.requires.rolled (sided_even c.args.done first second (sym c.in-First.ensures)) (sided_odd (c.args.done + 1) first row (λ e. omega (arith, c.in-First.ensures))) refl c.fill_from.ensures.past c.fill_from.ensures.cells c.fill_from.ensures.alarm

pub returns-in-Second-clause-rolled : goal.returns-in-Second-clause-rolled
returns-in-Second-clause-rolled g c =
    let chain = c.args.self in
    let first = held c.args.first.now in
    let second = held c.args.second.now in
    let row = held c.fill_from-in-Second.new.self in
    roll_more g.S.Semiring.kind g.met.S.Semiring.laws (g.C.Chart.meaning chain.chart.now) (g.C.Chart.sound chain.chart.now) chain.limit chain.weights.now chain.count chain.counted chain.some chain.few
    c.args.done first second row second second row c.args.caught c.fill_from-in-Second.result c.requires.rolled (sided_odd c.args.done first second (λ e. omega (arith, c.in-Second.ensures))) (sided_even (c.args.done + 1) row second (omega (arith, c.in-Second.ensures))) c.fill_from-in-Second.ensures.past refl c.fill_from-in-Second.ensures.cells c.fill_from-in-Second.ensures.alarm
