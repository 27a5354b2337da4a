use Rattle.std.proofs.Common.{rules, Ok, Err}
use Rattle.settlement.specs.Accounts.{refusal}
use Rattle.settlement.specs.Accounts.Call.{enter}
use Rattle.settlement.specs.Metering.{metering}
use Rattle.settlement.proofs.Metered.{metering_keeps}
use Rattle.settlement.proofs.Keeps.{keeps_enter}
use Rattle.settlement.proofs.Unopened.{metering_shut}
use Rattle.accounts.specs.Metered.{metered, meters}
use Rattle.accounts.proofs.Refused.{handed_back}
use Rattle.accounts.proofs.Unopened.{each_same_slots, enter_stays}
use Rattle.accounts.proofs.metering.Metering.enter.Goals as goal

pub returns-in-Err-clause-answer : goal.returns-in-Err-clause-answer
returns-in-Err-clause-answer c = handed_back (refusal metering (enter c.args.sums) (metered c.args.self.now)) c.in-Err.fault c.args.sums c.in-Err.ensures.answer

pub returns-in-Err-clause-state : goal.returns-in-Err-clause-state
returns-in-Err-clause-state c = search rules

pub returns-in-Err-clause-slots : goal.returns-in-Err-clause-slots
returns-in-Err-clause-slots c = search rules

pub returns-in-Err-clause-promised : goal.returns-in-Err-clause-promised
returns-in-Err-clause-promised c = keeps_enter metering metering_keeps (metered c.args.self.now) _ c.args.sums (Err (record { fault = c.in-Err.fault; sums = c.args.sums })) (returns-in-Err-clause-answer c) (returns-in-Err-clause-state c)

pub returns-in-Err-clause-unopened : goal.returns-in-Err-clause-unopened
returns-in-Err-clause-unopened c = enter_stays meters metering_shut c.args.self.now _ c.args.sums (Err (record { fault = c.in-Err.fault; sums = c.args.sums })) (returns-in-Err-clause-answer c) (returns-in-Err-clause-state c) (each_same_slots _ _ _ (returns-in-Err-clause-slots c))

pub returns-in-Ok-clause-answer : goal.returns-in-Ok-clause-answer
returns-in-Ok-clause-answer c = search rules

pub returns-in-Ok-clause-state : goal.returns-in-Ok-clause-state
returns-in-Ok-clause-state c = search rules

pub returns-in-Ok-clause-slots : goal.returns-in-Ok-clause-slots
returns-in-Ok-clause-slots c = search rules

pub returns-in-Ok-clause-promised : goal.returns-in-Ok-clause-promised
returns-in-Ok-clause-promised c = keeps_enter metering metering_keeps (metered c.args.self.now) _ c.args.sums (Ok tt) (returns-in-Ok-clause-answer c) (returns-in-Ok-clause-state c)

pub returns-in-Ok-clause-unopened : goal.returns-in-Ok-clause-unopened
returns-in-Ok-clause-unopened c = enter_stays meters metering_shut c.args.self.now _ c.args.sums (Ok tt) (returns-in-Ok-clause-answer c) (returns-in-Ok-clause-state c) (each_same_slots _ _ _ (returns-in-Ok-clause-slots c))
