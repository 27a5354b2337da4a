use Rattle.settlement.proofs.Unopened.{metering_shut, billing_shut}
use Rattle.settlement.proofs.shut_until_opened.Goals as goal

pub returns : goal.returns
returns c = record { metering = metering_shut; billing = billing_shut }
