use Rattle.std.proofs.Common.{◌≡◌, ℕ, length, get_or, sym, ap, ◌∙◌}
use Rattle.std.proofs.lemmas.List.{get_or_read}
use Rattle.tables.specs.Fill.{freed, alarmed, free_share, alarm_share}
use Rattle.tables.proofs.FillTurns.{guarded_zero, turn_more, turn_none}
use Rattle.tables.proofs.chain.Chain.spread.Goals as goal
use Rattle.tables.proofs.chain.Chain.spread.Goals.{then-not-is_zero, else-not-is_zero}

pub loop-symbol-preserved : goal.loop-symbol-preserved
loop-symbol-preserved g c =
    let k = g.S.Semiring.kind in
    let l = g.met.S.Semiring.laws in
    let m = (g.C.Chart.meaning c.args.self.chart.now).moves in
    let h = c.args.self.limit in
    let w = c.args.self.weights.now in
    let s = c.args.state in
    let x = c.args.value in
    let a = c.loop-symbol.symbol in
    let cell = λ (t : ℕ). free_share k m h w t s x in
    let alarm = alarm_share k m h w s x in
    let weight : get_or w a k.zero ≡ c.weight-item.result = sym (get_or_read w a c.weight-item.result c.loop-symbol-test.true c.weight-item.is k.zero) in
    elim c.if-not-is_zero.branch [
      | then-not-is_zero t ↦
          let share = ap (k.product x) weight ∙ sym t.product-share.ensures in
          turn_more k l cell alarm c.args.row.now c.args.caught a c.loop-symbol.row c.loop-symbol.caught c.loop-symbol.invariant
          (λ i. freed k m h i s a t.product-share.result) (alarmed k m h s a t.product-share.result) (λ i. ap (freed k m h i s a) share) (ap (alarmed k m h s a) share)
          t.place-caught.new.row c.if-not-is_zero.row t.place-caught.result c.if-not-is_zero.caught t.row-is t.caught-is (ap length (sym t.row-is) ∙ c.if-not-is_zero.auto.row) t.place-caught.ensures.cells t.place-caught.ensures.alarm
      | else-not-is_zero t ↦
          let share = ap (k.product x) (weight ∙ c.is_zero.ensures.0 t.if-not-is_zero.false) ∙ l.product_zero x in
          turn_none k l cell alarm c.args.row.now c.args.caught a c.loop-symbol.row c.loop-symbol.caught c.loop-symbol.invariant
          (λ i. ap (freed k m h i s a) share ∙ guarded_zero k _) (ap (alarmed k m h s a) share ∙ guarded_zero k _)
          c.if-not-is_zero.row c.if-not-is_zero.caught t.row-is t.caught-is
    ]
