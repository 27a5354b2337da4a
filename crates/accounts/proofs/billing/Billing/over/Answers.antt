use Rattle.std.proofs.Common.{rules}
use Rattle.settlement.proofs.Unopened.{billing_shut}
use Rattle.accounts.specs.Billed.{bills}
use Rattle.accounts.proofs.Unopened.{as_made}
use Rattle.accounts.proofs.billing.Billing.over.Goals as goal

pub returns-clause-unopened : goal.returns-clause-unopened
returns-clause-unopened c = as_made bills billing_shut _ _ (search rules) (search rules)
