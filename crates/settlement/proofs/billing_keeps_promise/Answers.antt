use Rattle.settlement.proofs.Billed.{billing_keeps}
use Rattle.settlement.proofs.billing_keeps_promise.Goals as goal

pub returns : goal.returns
returns c = billing_keeps
