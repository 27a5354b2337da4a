use Rattle.accounts.proofs.DrawnSlots.{drawn_at}
use Rattle.accounts.proofs.metering.Meters.draw.Goals as goal

pub returns-clause-slots : goal.returns-clause-slots
returns-clause-slots g c = drawn_at c.args.self.now.stores c.args.from _ _ c.of_mut.ensures.value c.draw_store.ensures.slots
