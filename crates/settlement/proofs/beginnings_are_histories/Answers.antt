use Rattle.histories.proofs.Runs.{beginnings}
use Rattle.settlement.specs.Accounts.{machine}
use Rattle.settlement.specs.Metering.{metering}
use Rattle.settlement.specs.Billing.{billing}
use Rattle.settlement.proofs.beginnings_are_histories.Goals as goal

pub returns : goal.returns
returns c = record { metering = beginnings (machine metering); billing = beginnings (machine billing) }
