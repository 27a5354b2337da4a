use Rattle.std.proofs.Common.{◌++◌, refl, ◌∙◌}
use Rattle.settlement.specs.Metering.{own_stores, other_stores}
use Rattle.accounts.specs.Coefficients.{tenths}
use Rattle.accounts.specs.Metered.{course}
use Rattle.accounts.proofs.DrawnSlots.{drawn_nowhere, then_each}
use Rattle.accounts.proofs.Covered.{covers_next}
use Rattle.accounts.proofs.metering.Meters.cover_all.Goals as goal

pub loop-zone-init : goal.loop-zone-init
loop-zone-init g c = (refl, drawn_nowhere c.args.self.now.stores, c.requires.ready)

pub loop-zone-preserved : goal.loop-zone-preserved
loop-zone-preserved g c =
    let e = c.cover.ensures in
    let inv = c.loop-zone.invariant in
    let was = course c.loop-zone.self in
    let next = covers_next (g.R.Rule.gives c.args.rule.now) (tenths c.args.coefficient) (own_stores ++ other_stores) c.loop-zone.zone-index _ was (course c.cover.new.self) c.loop-zone-test.true e.course in
    (next ∙ inv.0, then_each _ _ _ inv.1 e.slots, e.ready)
