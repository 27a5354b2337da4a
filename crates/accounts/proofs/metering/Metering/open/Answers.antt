use Rattle.std.proofs.Common.{Ok, refl, arith}
use Rattle.std.proofs.lemmas.Grind.{common_steps}
use Rattle.settlement.specs.Metering.{metering}
use Rattle.settlement.proofs.Metered.{metering_keeps}
use Rattle.settlement.proofs.Keeps.{keeps_open}
use Rattle.settlement.proofs.Unopened.{metering_shut}
use Rattle.accounts.specs.Means.{fewest}
use Rattle.accounts.specs.Metered.{metered, meter_opening, meters}
use Rattle.accounts.proofs.Unopened.{open_stays}
use Rattle.accounts.proofs.metering.Metering.open.Goals as goal

pub returns-in_err-period-clause-answer : goal.returns-in_err-period-clause-answer
returns-in_err-period-clause-answer c = grind (arith, common_steps)

pub returns-in_err-period-clause-state : goal.returns-in_err-period-clause-state
returns-in_err-period-clause-state c = grind (arith, common_steps)

pub returns-in_err-period-clause-promised : goal.returns-in_err-period-clause-promised
returns-in_err-period-clause-promised c = keeps_open metering metering_keeps (metered c.args.self.now) _ (meter_opening (fewest c.args.self.now.meters.stores) c.args.month c.args.power c.args.months) c.from_residual.result (returns-in_err-period-clause-answer c) (returns-in_err-period-clause-state c)

pub returns-in_err-period-clause-unopened : goal.returns-in_err-period-clause-unopened
returns-in_err-period-clause-unopened c = open_stays meters metering_shut c.args.self.now _ (meter_opening (fewest c.args.self.now.meters.stores) c.args.month c.args.power c.args.months) c.from_residual.result (returns-in_err-period-clause-answer c) (returns-in_err-period-clause-state c) refl

pub returns-clause-promised : goal.returns-clause-promised
returns-clause-promised c = keeps_open metering metering_keeps (metered c.args.self.now) _ (meter_opening (fewest c.args.self.now.meters.stores) c.args.month c.args.power c.args.months) (Ok tt) (grind (arith, common_steps)) (grind (arith, common_steps))
