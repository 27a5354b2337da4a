use Rattle.std.proofs.Common.{rules, Ok, refl, arith}
use Rattle.std.proofs.lemmas.Grind.{common_steps}
use Rattle.settlement.specs.Accounts.Call.{turn}
use Rattle.settlement.specs.Metering.{metering}
use Rattle.settlement.proofs.Metered.{metering_keeps}
use Rattle.settlement.proofs.Keeps.{keeps_call}
use Rattle.settlement.proofs.Unopened.{metering_shut}
use Rattle.accounts.specs.Metered.{metered, meters}
use Rattle.accounts.proofs.Unopened.{each_same_slots, stays}
use Rattle.accounts.proofs.metering.Metering.turn.Goals as goal

pub returns-in_err-next-clause-answer : goal.returns-in_err-next-clause-answer
returns-in_err-next-clause-answer c = grind (arith, common_steps)

pub returns-in_err-next-clause-state : goal.returns-in_err-next-clause-state
returns-in_err-next-clause-state c = grind (arith, common_steps)

pub returns-in_err-next-clause-promised : goal.returns-in_err-next-clause-promised
returns-in_err-next-clause-promised c = keeps_call metering metering_keeps (metered c.args.self.now) _ turn tt c.from_residual.result (returns-in_err-next-clause-answer c) (returns-in_err-next-clause-state c)

pub returns-in_err-next-clause-unopened : goal.returns-in_err-next-clause-unopened
returns-in_err-next-clause-unopened c = stays meters metering_shut c.args.self.now _ turn tt c.from_residual.result (returns-in_err-next-clause-answer c) (returns-in_err-next-clause-state c) (λ e. refl)

pub returns-clause-answer : goal.returns-clause-answer
returns-clause-answer c = grind (arith, common_steps)

pub returns-clause-state : goal.returns-clause-state
returns-clause-state c = grind (arith, common_steps)

pub returns-clause-slots : goal.returns-clause-slots
returns-clause-slots c = search rules

pub returns-clause-promised : goal.returns-clause-promised
returns-clause-promised c = keeps_call metering metering_keeps (metered c.args.self.now) _ turn tt (Ok c.in_ok-ended.ended) (returns-clause-answer c) (returns-clause-state c)

pub returns-clause-unopened : goal.returns-clause-unopened
returns-clause-unopened c = stays meters metering_shut c.args.self.now _ turn tt (Ok c.in_ok-ended.ended) (returns-clause-answer c) (returns-clause-state c) (each_same_slots _ _ _ (returns-clause-slots c))
