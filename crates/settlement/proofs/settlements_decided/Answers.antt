use Rattle.settlement.proofs.Metered.{meter_decided}
use Rattle.settlement.proofs.Billed.{bill_decided}
use Rattle.settlement.proofs.settlements_decided.Goals as goal

pub returns : goal.returns
returns c = record { metering = meter_decided; billing = bill_decided }
