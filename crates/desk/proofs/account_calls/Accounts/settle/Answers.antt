use Rattle.std.proofs.Common.{drop, Some, Err, ap, ◌∙◌}
use Rattle.std.proofs.lemmas.Result.{err_from_is_err_and}
use Rattle.settlement.specs.declared.answers.Settlement.{Settlement}
use Rattle.settlement.specs.declared.answers.Payment.{Payment}
use Rattle.desk.specs.State.Account.{metered, billed}
use Rattle.desk.specs.Accounts.{account_settled}
use Rattle.desk.specs.Means.{said_with}
use Rattle.desk.proofs.Calls.{accepted_none, refused_some, accepted_came, refused_came, changes, stays, on_metering, on_billing, same_fewest, first_lines, other_lines, same_settled, same_paid}
use Rattle.desk.proofs.account_calls.Accounts.settle.Goals as goal

pub returns-in_err-settlement-in-Some-Metering-clause-called : goal.returns-in_err-settlement-in-Some-Metering-clause-called
returns-in_err-settlement-in-Some-Metering-clause-called c =
    let p = err_from_is_err_and c.from_residual.result c.from_residual.ensures.1 in
    let a = c.in_err-settlement-in-Some-Metering.ensures in
    let e = refused_some _ _ _ a.answer in
    let sort = rw c.in-Some-Metering.is at c.in-Some-Metering.field-0-is in
    let opened = c.in-Some-Metering.is ∙ ap Some sort in
    on_metering (account_settled _) c.args.self.now _ _ opened (refused_came _ _ _ _ _ _ _ e (ap (said_with _) p.1 ∙ ap Err p.2) (ap metered (stays _ _ _ _ _ e a.state))) (same_fewest _ _ _ a.slots)

pub returns-in_err-settlement-in-Some-Metering-clause-lines : goal.returns-in_err-settlement-in-Some-Metering-clause-lines
returns-in_err-settlement-in-Some-Metering-clause-lines c =
    let a = c.in_err-settlement-in-Some-Metering.ensures in
    ap (drop _) (stays _ _ _ _ _ (refused_some _ _ _ a.answer) a.lines)

pub returns-in_ok-settlement-in-Some-Metering-clause-called : goal.returns-in_ok-settlement-in-Some-Metering-clause-called
returns-in_ok-settlement-in-Some-Metering-clause-called c =
    let a = c.in_ok-settlement-in-Some-Metering.ensures in
    let e = accepted_none _ _ _ a.answer in
    let count = ap (λ (s : Settlement). s.lines) e.1 in
    let written = changes _ _ _ _ e.0 a.lines in
    let sort = rw c.in-Some-Metering.is at c.in-Some-Metering.field-0-is in
    let opened = c.in-Some-Metering.is ∙ ap Some sort in
    on_metering (account_settled _) c.args.self.now _ _ opened (accepted_came _ _ _ _ _ _ e.0 (same_settled _ _ _ _ (first_lines _ _ _ _ count written) e.1) (ap metered (changes _ _ _ _ e.0 a.state))) (same_fewest _ _ _ a.slots)

pub returns-in_ok-settlement-in-Some-Metering-clause-lines : goal.returns-in_ok-settlement-in-Some-Metering-clause-lines
returns-in_ok-settlement-in-Some-Metering-clause-lines c =
    let a = c.in_ok-settlement-in-Some-Metering.ensures in
    let e = accepted_none _ _ _ a.answer in
    other_lines _ _ _ _ (ap (λ (s : Settlement). s.lines) e.1) (changes _ _ _ _ e.0 a.lines)

pub returns-in_err-payment-in-Some-Billing-clause-called : goal.returns-in_err-payment-in-Some-Billing-clause-called
returns-in_err-payment-in-Some-Billing-clause-called c =
    let p = err_from_is_err_and c.from_residual-in_err-payment-in-Some-Billing.result c.from_residual-in_err-payment-in-Some-Billing.ensures.1 in
    let a = c.in_err-payment-in-Some-Billing.ensures in
    let e = refused_some _ _ _ a.answer in
    let sort = rw c.in-Some-Billing.is at c.in-Some-Billing.field-0-is in
    let opened = c.in-Some-Billing.is ∙ ap Some sort in
    on_billing (account_settled _) c.args.self.now _ _ opened (refused_came _ _ _ _ _ _ _ e (ap (said_with _) p.1 ∙ ap Err p.2) (ap billed (stays _ _ _ _ _ e a.state))) a.slots.same_room

pub returns-in_ok-payment-in-Some-Billing-clause-called : goal.returns-in_ok-payment-in-Some-Billing-clause-called
returns-in_ok-payment-in-Some-Billing-clause-called c =
    let a = c.in_ok-payment-in-Some-Billing.ensures in
    let e = accepted_none _ _ _ a.answer in
    let count = ap (λ (p : Payment). p.lines) e.1 in
    let written = changes _ _ _ _ e.0 a.lines in
    let sort = rw c.in-Some-Billing.is at c.in-Some-Billing.field-0-is in
    let opened = c.in-Some-Billing.is ∙ ap Some sort in
    on_billing (account_settled _) c.args.self.now _ _ opened (accepted_came _ _ _ _ _ _ e.0 (same_paid _ _ _ _ (first_lines _ _ _ _ count written) e.1) (ap billed (changes _ _ _ _ e.0 a.state))) a.slots.same_room
