use Rattle.std.proofs.Common.{◌≡◌, length, ℤ, Ok, Err, Result, sym, ap, ◌∙◌, subst, w32, to_z, of_z, rules}
use Rattle.std.proofs.lemmas.Result.{err_from_is_err_and}
use Rattle.records.specs.Records.{Rec, record_model}
use Rattle.answers.specs.declared.kinds.Answer.{Answer}
use Rattle.answers.specs.Said.Said.{nothing}
use Rattle.desk.specs.declared.step_fault.StepFault.{StepFault}
use Rattle.desk.specs.declared.step_fault.StepFault.TheVariants.{Refused}
use Rattle.desk.specs.Books.{price_refusal, price_in_range, with_monthly}
use Rattle.desk.specs.Steps.{book_step, change, taken}
use Rattle.desk.specs.Means.{Came, Means, Took, memory_of}
use Rattle.desk.proofs.steps.Desk.take.Goals as goal

pub returns-in_err-set_month_price-in-MonthPrice-clause-taken : goal.returns-in_err-set_month_price-in-MonthPrice-clause-taken
returns-in_err-set_month_price-in-MonthPrice-clause-taken c s means =
    let q : to_z w32 (of_z w32 c.in-MonthPrice.price) ≡ c.in-MonthPrice.price = search rules in
    let p = err_from_is_err_and c.from_residual-in_err-set_month_price-in-MonthPrice.result c.from_residual-in_err-set_month_price-in-MonthPrice.ensures.1 in
    let came = subst (λ (z : ℤ). Came (book_step (change (λ _. price_refusal (price_in_range z)) (with_monthly z)) s) (Err c.in_err-set_month_price-in-MonthPrice.field-0.0) (Means c.set_month_price.new.self)) q (c.in_err-set_month_price-in-MonthPrice.ensures.came s means) in
    let memory = memory_of c.args.self.now (length c.args.lines.now) in
    subst (λ (o : Result Answer StepFault). Took memory s (record_model c.args.said.now) o c.args.lines.now (Means c.set_month_price.new.self)) (sym (p.1 ∙ ap Err p.2))
    (subst (λ (rec : Rec). Took memory s rec (Err (Refused c.in_err-set_month_price-in-MonthPrice.field-0.0)) c.args.lines.now (Means c.set_month_price.new.self)) (sym (ap record_model c.in-MonthPrice.is)) came)

pub returns-in_ok-set_month_price-in-MonthPrice-clause-taken : goal.returns-in_ok-set_month_price-in-MonthPrice-clause-taken
returns-in_ok-set_month_price-in-MonthPrice-clause-taken c s means =
    let q : to_z w32 (of_z w32 c.in-MonthPrice.price) ≡ c.in-MonthPrice.price = search rules in
    subst (λ (rec : Rec). Came (taken (memory_of c.args.self.now (length c.args.lines.now)) s rec) (Ok nothing) (Means c.set_month_price.new.self)) (sym (ap record_model c.in-MonthPrice.is))
    (subst (λ (z : ℤ). Came (book_step (change (λ _. price_refusal (price_in_range z)) (with_monthly z)) s) (Ok nothing) (Means c.set_month_price.new.self)) q (c.in_ok-set_month_price-in-MonthPrice.ensures.came s means))
