use Rattle.histories.proofs.Runs.{history_decides}
use Rattle.settlement.specs.Accounts.{machine}
use Rattle.settlement.specs.Metering.{metering}
use Rattle.settlement.specs.Billing.{billing}
use Rattle.settlement.proofs.histories_decide.Goals as goal

pub returns : goal.returns
returns c = record { metering = history_decides (machine metering); billing = history_decides (machine billing) }
