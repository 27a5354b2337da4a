use Rattle.settlement.proofs.Metered.{metering_keeps}
use Rattle.settlement.proofs.metering_keeps_promise.Goals as goal

pub returns : goal.returns
returns c = metering_keeps
