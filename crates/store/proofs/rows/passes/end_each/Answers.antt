use Rattle.std.proofs.Common.{◌-◌, get_or, arith, ap, ◌∙◌}
use Rattle.portions.specs.declared.Slot.{Slot}
use Rattle.portions.specs.Slots.{reads}
use Rattle.portions.specs.Totals.{total_more}
use Rattle.store.specs.Ending.{refund_in, loss_in}
use Rattle.store.proofs.rows.passes.end_each.Goals as goal

pub loop-row-preserved : goal.loop-row-preserved
loop-row-preserved g c =
    let d : Slot = record { month = 0; entered = 0; left = 0; terms = 0 } in
    let rows = c.args.rows.now in
    let i = c.loop-row.row-index in
    let s = c.loop-row.invariant in
    let r = c.from-refunded.ensures ∙ c.end-r.ensures.refunded ∙ ap g.K.Kind.refund c.of.ensures in
    let l = c.from-lost.ensures ∙ c.end-r.ensures.lost ∙ ap (λ p. p.left - g.K.Kind.refund p) c.of.ensures in
    let within = g.met.K.Kind.within (reads g.K.Kind.term (get_or rows i d)) in (
      omega (arith, s.0, total_more (refund_in g.K.Kind) rows i d c.loop-row-test.true, r),
      omega (arith, s.1, total_more (loss_in g.K.Kind) rows i d c.loop-row-test.true, l),
      omega (arith, s.2, r, within),
      omega (arith, s.3, l, within),
    )
