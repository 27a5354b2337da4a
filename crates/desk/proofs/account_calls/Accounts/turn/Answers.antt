use Rattle.std.proofs.Common.{[], Some, Err, ap, ◌∙◌}
use Rattle.std.proofs.lemmas.Result.{err_from_is_err_and}
use Rattle.desk.specs.State.Account.{metered, billed}
use Rattle.desk.specs.Accounts.{account_turned}
use Rattle.desk.specs.Means.{said_with}
use Rattle.desk.proofs.Calls.{refused_some, refused_came, stays, on_metering, on_billing, same_fewest}
use Rattle.desk.proofs.account_calls.Accounts.turn.Goals as goal

pub returns-in_err-turn-in-Some-Metering : goal.returns-in_err-turn-in-Some-Metering
returns-in_err-turn-in-Some-Metering c =
    let p = err_from_is_err_and c.from_residual.result c.from_residual.ensures.1 in
    let a = c.in_err-turn-in-Some-Metering.ensures in
    let e = refused_some _ _ _ a.answer in
    let sort = rw c.in-Some-Metering.is at c.in-Some-Metering.field-0-is in
    let opened = c.in-Some-Metering.is ∙ ap Some sort in
    on_metering account_turned c.args.self.now _ _ opened (refused_came _ _ _ _ _ _ _ e (ap (said_with []) p.1 ∙ ap Err p.2) (ap metered (stays _ _ _ _ _ e a.state))) (same_fewest _ _ _ a.slots)

pub returns-in_err-refunded-in-Some-Billing : goal.returns-in_err-refunded-in-Some-Billing
returns-in_err-refunded-in-Some-Billing c =
    let p = err_from_is_err_and c.from_residual-in_err-refunded-in-Some-Billing.result c.from_residual-in_err-refunded-in-Some-Billing.ensures.1 in
    let a = c.in_err-refunded-in-Some-Billing.ensures in
    let e = refused_some _ _ _ a.answer in
    let sort = rw c.in-Some-Billing.is at c.in-Some-Billing.field-0-is in
    let opened = c.in-Some-Billing.is ∙ ap Some sort in
    on_billing account_turned c.args.self.now _ _ opened (refused_came _ _ _ _ _ _ _ e (ap (said_with []) p.1 ∙ ap Err p.2) (ap billed (stays _ _ _ _ _ e a.state))) a.slots.same_room
