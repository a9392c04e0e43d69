use Rattle.std.proofs.Common.{◌≡◌, ℕ, ◌<◌, get_or, length, sym, ap, ◌∙◌, arith}
use Rattle.std.proofs.lemmas.List.{get_or_read, get_or-take, length-take-le}
use Rattle.tables.specs.Fill.{into, alarming}
use Rattle.tables.proofs.FillTurns.{turn_more, turn_none, filled}
use Rattle.tables.proofs.TableRecurrence.{into_additive, alarming_additive}
use Rattle.tables.proofs.chain.Chain.advance.Goals as goal
use Rattle.tables.proofs.chain.Chain.advance.Goals.{then-not-is_zero, else-not-is_zero}

pub loop-state-preserved : goal.loop-state-preserved
loop-state-preserved g c =
    let k = g.S.Semiring.kind in
    let l = g.met.S.Semiring.laws in
    let m = (g.C.Chart.meaning c.args.self.chart.now).moves in
    let h = c.args.self.limit in
    let w = c.args.self.weights.now in
    let n = c.args.self.count in
    let from = c.args.from.now in
    let s = c.loop-state.state in
    let v = c.value-item.result in
    let cell = λ (t i : ℕ). into k m h w t i (get_or from i k.zero) in
    let alarm = λ (i : ℕ). alarming k m h w i (get_or from i k.zero) in
    let below : s < n = omega (arith, length-take-le n from c.requires.source) in
    let value : get_or from s k.zero ≡ v = sym (get_or_read from s v (omega (arith, c.requires.source)) (c.value-item.is ∙ get_or-take n from s v below) k.zero) in
    elim c.if-not-is_zero.branch [
      | then-not-is_zero t ↦
          turn_more k l cell alarm c.clear.new.row c.pass_on-sum.result s c.loop-state.row c.loop-state.sum c.loop-state.invariant
          (λ i. into k m h w i s v) (alarming k m h w s v) (λ i. ap (into k m h w i s) value) (ap (alarming k m h w s) value)
          t.spread-sum.new.row c.if-not-is_zero.row t.spread-sum.result c.if-not-is_zero.sum t.row-is t.sum-is (ap length (sym t.row-is) ∙ c.if-not-is_zero.auto.row) t.spread-sum.ensures.cells t.spread-sum.ensures.alarm
      | else-not-is_zero t ↦
          let none = value ∙ c.is_zero.ensures.0 t.if-not-is_zero.false in
          turn_none k l cell alarm c.clear.new.row c.pass_on-sum.result s c.loop-state.row c.loop-state.sum c.loop-state.invariant
          (λ i. ap (into k m h w i s) none ∙ (into_additive k l m h w i s).at_zero) (ap (alarming k m h w s) none ∙ (alarming_additive k l m h w s).at_zero)
          c.if-not-is_zero.row c.if-not-is_zero.sum t.row-is t.sum-is
    ]

pub returns-clause-cells : goal.returns-clause-cells
returns-clause-cells g c t b =
    let k = g.S.Semiring.kind in
    let m = (g.C.Chart.meaning c.args.self.chart.now).moves in
    let n = c.args.self.count in
    let from = c.args.from.now in
    let long : length c.clear.new.row ≡ n = c.clear.auto.row ∙ length-take-le n c.args.row.now c.requires.room in
    filled k g.met.S.Semiring.laws (λ t s. into k m c.args.self.limit c.args.self.weights.now t s (get_or from s k.zero))
    c.loop-state.state n c.clear.new.row c.loop-state.row _ (omega (arith, length-take-le n from c.requires.source)) (c.loop-state.auto.row ∙ long) c.loop-state.invariant.0 t b (c.clear.ensures t (omega (arith, long)))
