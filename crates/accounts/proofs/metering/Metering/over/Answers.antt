use Rattle.std.proofs.Common.{rules}
use Rattle.settlement.proofs.Unopened.{metering_shut}
use Rattle.accounts.specs.Metered.{meters}
use Rattle.accounts.proofs.Unopened.{as_made}
use Rattle.accounts.proofs.metering.Metering.over.Goals as goal

pub returns-clause-unopened : goal.returns-clause-unopened
returns-clause-unopened c = as_made meters metering_shut _ _ (search rules) (search rules)
