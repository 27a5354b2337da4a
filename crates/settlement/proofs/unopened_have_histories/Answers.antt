use Rattle.histories.proofs.Unopened.{unopened_have_histories}
use Rattle.settlement.specs.Accounts.{machine}
use Rattle.settlement.specs.Metering.{metering}
use Rattle.settlement.specs.Billing.{billing}
use Rattle.settlement.proofs.unopened_have_histories.Goals as goal

pub returns : goal.returns
returns c = record { metering = unopened_have_histories (machine metering) metering.closed; billing = unopened_have_histories (machine billing) billing.closed }
