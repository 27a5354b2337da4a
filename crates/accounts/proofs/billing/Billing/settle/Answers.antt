use Rattle.std.proofs.Common.{rules, refl, ◌≡◌, ◌≤◌, Ok, length, ◌∙◌, arith}
use Rattle.portions.specs.Listed.{listed}
use Rattle.portions.specs.Sums.{sum}
use Rattle.store.proofs.Lawful.{lawful_rule}
use Rattle.settlement.specs.Accounts.Call.{settle}
use Rattle.settlement.specs.Billing.{billing, paid, payment}
use Rattle.settlement.proofs.Billed.{billing_keeps}
use Rattle.settlement.proofs.Keeps.{keeps_call}
use Rattle.settlement.proofs.Unopened.{billing_shut}
use Rattle.accounts.specs.Means.{deposit_kind, deposits}
use Rattle.accounts.specs.Billed.{billed, bills}
use Rattle.accounts.proofs.Facts.{few_open}
use Rattle.accounts.proofs.Paid.{payment_is}
use Rattle.accounts.proofs.Unopened.{same_slots, stays}
use Rattle.accounts.proofs.billing.Billing.settle.Goals as goal

pub returns-in_err-next-clause-answer : goal.returns-in_err-next-clause-answer
returns-in_err-next-clause-answer g c = search rules

pub returns-in_err-next-clause-state : goal.returns-in_err-next-clause-state
returns-in_err-next-clause-state g c = search rules

pub returns-in_err-next-clause-promised : goal.returns-in_err-next-clause-promised
returns-in_err-next-clause-promised g c =
    let r = c.args.rule.now in
    let rule = g.R.Rule.gives r in
    let law = lawful_rule rule (g.met.R.Rule.sized r) (g.met.R.Rule.bounded r) (g.met.R.Rule.full r) in
    keeps_call billing billing_keeps (billed c.args.self.now) _ (settle rule (length c.args.lines.now)) law c.from_residual.result (returns-in_err-next-clause-answer g c) (returns-in_err-next-clause-state g c)

pub returns-in_err-next-clause-unopened : goal.returns-in_err-next-clause-unopened
returns-in_err-next-clause-unopened g c =
    let r = c.args.rule.now in
    let rule = g.R.Rule.gives r in
    let law = lawful_rule rule (g.met.R.Rule.sized r) (g.met.R.Rule.bounded r) (g.met.R.Rule.full r) in
    stays bills billing_shut c.args.self.now _ (settle rule (length c.args.lines.now)) law c.from_residual.result (returns-in_err-next-clause-answer g c) (returns-in_err-next-clause-state g c) (λ e. refl)

pub write_lines-count-requires-clause-room : goal.write_lines-count-requires-clause-room
write_lines-count-requires-clause-room g c =
    let room : 13 ≤ length c.args.lines.now = search rules in
    omega (arith, room, few_open deposit_kind c.draw_store.new.store)

pub returns-clause-answer : goal.returns-clause-answer
returns-clause-answer g c =
    let b = billed c.args.self.now in
    let rule = g.R.Rule.gives c.args.rule.now in
    let e = c.draw_store.ensures in
    let used : c.in_ok-used.used ≡ sum (paid rule b) = search rules in
    let paid' : c.paid-payment.result ≡ payment rule b = c.paid-payment.ensures ∙ payment_is rule b (deposits c.draw_store.new.store) e.state (listed c.lefts-before.result) c.lefts-before.ensures _ _ used c.write_lines-count.ensures.count in
    search rules

pub returns-clause-state : goal.returns-clause-state
returns-clause-state g c = search rules

pub returns-clause-slots : goal.returns-clause-slots
returns-clause-slots g c = search rules

pub returns-clause-promised : goal.returns-clause-promised
returns-clause-promised g c =
    let r = c.args.rule.now in
    let rule = g.R.Rule.gives r in
    let law = lawful_rule rule (g.met.R.Rule.sized r) (g.met.R.Rule.bounded r) (g.met.R.Rule.full r) in
    keeps_call billing billing_keeps (billed c.args.self.now) _ (settle rule (length c.args.lines.now)) law (Ok c.paid-payment.result) (returns-clause-answer g c) (returns-clause-state g c)

pub returns-clause-unopened : goal.returns-clause-unopened
returns-clause-unopened g c =
    let r = c.args.rule.now in
    let rule = g.R.Rule.gives r in
    let law = lawful_rule rule (g.met.R.Rule.sized r) (g.met.R.Rule.bounded r) (g.met.R.Rule.full r) in
    stays bills billing_shut c.args.self.now _ (settle rule (length c.args.lines.now)) law (Ok c.paid-payment.result) (returns-clause-answer g c) (returns-clause-state g c) (same_slots _ _ _ (returns-clause-slots g c))
