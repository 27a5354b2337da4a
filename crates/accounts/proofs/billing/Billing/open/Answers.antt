use Rattle.std.proofs.Common.{rules, Ok, refl}
use Rattle.settlement.specs.Billing.{billing}
use Rattle.settlement.proofs.Billed.{billing_keeps}
use Rattle.settlement.proofs.Keeps.{keeps_open}
use Rattle.settlement.proofs.Unopened.{billing_shut}
use Rattle.store.specs.Held.{room}
use Rattle.accounts.specs.Billed.{billed, bill_opening, bills}
use Rattle.accounts.proofs.Unopened.{open_stays}
use Rattle.accounts.proofs.billing.Billing.open.Goals as goal

pub returns-in_err-may_open-clause-answer : goal.returns-in_err-may_open-clause-answer
returns-in_err-may_open-clause-answer c = search rules

pub returns-in_err-may_open-clause-state : goal.returns-in_err-may_open-clause-state
returns-in_err-may_open-clause-state c = search rules

pub returns-in_err-may_open-clause-promised : goal.returns-in_err-may_open-clause-promised
returns-in_err-may_open-clause-promised c = keeps_open billing billing_keeps (billed c.args.self.now) _ (bill_opening (room c.args.self.now.store) c.args.month c.args.percentage) c.from_residual.result (returns-in_err-may_open-clause-answer c) (returns-in_err-may_open-clause-state c)

pub returns-in_err-may_open-clause-unopened : goal.returns-in_err-may_open-clause-unopened
returns-in_err-may_open-clause-unopened c = open_stays bills billing_shut c.args.self.now _ (bill_opening (room c.args.self.now.store) c.args.month c.args.percentage) c.from_residual.result (returns-in_err-may_open-clause-answer c) (returns-in_err-may_open-clause-state c) refl

pub returns-clause-promised : goal.returns-clause-promised
returns-clause-promised c = keeps_open billing billing_keeps (billed c.args.self.now) _ (bill_opening (room c.args.self.now.store) c.args.month c.args.percentage) (Ok tt) (search rules) (search rules)
