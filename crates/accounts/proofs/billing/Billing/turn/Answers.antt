use Rattle.std.proofs.Common.{rules, Ok, refl}
use Rattle.settlement.specs.Accounts.Call.{turn}
use Rattle.settlement.specs.Billing.{billing}
use Rattle.settlement.proofs.Billed.{billing_keeps}
use Rattle.settlement.proofs.Keeps.{keeps_call}
use Rattle.settlement.proofs.Unopened.{billing_shut}
use Rattle.accounts.specs.Billed.{billed, bills}
use Rattle.accounts.proofs.Unopened.{same_slots, stays}
use Rattle.accounts.proofs.billing.Billing.turn.Goals as goal

pub returns-in_err-next-clause-answer : goal.returns-in_err-next-clause-answer
returns-in_err-next-clause-answer c = search rules

pub returns-in_err-next-clause-state : goal.returns-in_err-next-clause-state
returns-in_err-next-clause-state c = search rules

pub returns-in_err-next-clause-promised : goal.returns-in_err-next-clause-promised
returns-in_err-next-clause-promised c = keeps_call billing billing_keeps (billed c.args.self.now) _ turn tt c.from_residual.result (returns-in_err-next-clause-answer c) (returns-in_err-next-clause-state c)

pub returns-in_err-next-clause-unopened : goal.returns-in_err-next-clause-unopened
returns-in_err-next-clause-unopened c = stays bills billing_shut c.args.self.now _ turn tt c.from_residual.result (returns-in_err-next-clause-answer c) (returns-in_err-next-clause-state c) (λ e. refl)

pub returns-clause-answer : goal.returns-clause-answer
returns-clause-answer c = search rules

pub returns-clause-state : goal.returns-clause-state
returns-clause-state c = search rules

pub returns-clause-slots : goal.returns-clause-slots
returns-clause-slots c = search rules

pub returns-clause-promised : goal.returns-clause-promised
returns-clause-promised c = keeps_call billing billing_keeps (billed c.args.self.now) _ turn tt (Ok c.in_ok-ended.ended) (returns-clause-answer c) (returns-clause-state c)

pub returns-clause-unopened : goal.returns-clause-unopened
returns-clause-unopened c = stays bills billing_shut c.args.self.now _ turn tt (Ok c.in_ok-ended.ended) (returns-clause-answer c) (returns-clause-state c) (same_slots _ _ _ (returns-clause-slots c))
