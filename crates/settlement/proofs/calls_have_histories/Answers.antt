use Rattle.histories.proofs.Runs.{have_histories}
use Rattle.settlement.specs.Accounts.{machine}
use Rattle.settlement.specs.Metering.{metering}
use Rattle.settlement.specs.Billing.{billing}
use Rattle.settlement.proofs.calls_have_histories.Goals as goal

pub returns : goal.returns
returns c = record { metering = have_histories (machine metering); billing = have_histories (machine billing) }
