use Rattle.std.proofs.Common.{Some, ap, ◌∙◌}
use Rattle.desk.specs.State.Account.{metered, billed}
use Rattle.desk.specs.Accounts.{sums_entered}
use Rattle.desk.proofs.Calls.{entered_came, on_metering, on_billing, same_fewest}
use Rattle.desk.proofs.account_calls.Accounts.enter.Goals as goal

pub returns-in-Some-Metering : goal.returns-in-Some-Metering
returns-in-Some-Metering c =
    let a = c.enter.ensures in
    let sort = rw c.in-Some-Metering.is at c.in-Some-Metering.field-0-is in
    let opened = c.in-Some-Metering.is ∙ ap Some sort in
    on_metering (sums_entered c.args.sums) c.args.self.now _ _ opened (entered_came metered c.args.sums _ _ _ _ _ _ _ (λ b f gives. gives) a.answer c.map_err.ensures.cases a.state) (same_fewest _ _ _ a.slots)

pub returns-in-Some-Billing : goal.returns-in-Some-Billing
returns-in-Some-Billing c =
    let a = c.enter-in-Some-Billing.ensures in
    let sort = rw c.in-Some-Billing.is at c.in-Some-Billing.field-0-is in
    let opened = c.in-Some-Billing.is ∙ ap Some sort in
    on_billing (sums_entered c.args.sums) c.args.self.now _ _ opened (entered_came billed c.args.sums _ _ _ _ _ _ _ (λ b f gives. gives) a.answer c.map_err-in-Some-Billing.ensures.cases a.state) a.slots.same_room
