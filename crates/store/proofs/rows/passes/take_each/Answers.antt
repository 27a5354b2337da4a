use Rattle.std.proofs.Common.{◌∙◌}
use Rattle.std.proofs.lemmas.List.{length-set}
use Rattle.portions.specs.declared.Slot.{Slot}
use Rattle.store.proofs.Drawn.{drawn_more}
use Rattle.store.proofs.Exact.{exact_set}
use Rattle.store.proofs.rows.passes.take_each.Goals as goal

pub loop-i-preserved : goal.loop-i-preserved
loop-i-preserved g c =
    let d : Slot = record { month = 0; entered = 0; left = 0; terms = 0 } in
    let s = c.loop-i.invariant in (
      drawn_more g.K.Kind.term c.args.rows.now c.loop-i.rows c.args.takings.now c.loop-i.i d c.taken.result c.loop-i-test.true c.requires s.1 s.0 c.taken.ensures.holds,
      length-set c.loop-i.rows c.loop-i.i c.taken.result ∙ s.1,
      λ all. exact_set g.K.Kind c.loop-i.rows c.loop-i.i c.taken.result (s.2 all) c.taken.ensures.exact,
    )
