use Rattle.std.proofs.Common.{◌≡◌, ℤ, subst, inr, ap, ◌∙◌, arith}
use Rattle.std.proofs.lemmas.Grind.{common_steps}
use Rattle.std.proofs.lemmas.Result.{err_from_is_err_and}
use Rattle.faults.specs.declared.BookFault.TheVariants.{PriceOutOfRange}
use Rattle.hours.specs.Price.{AllPriced, Priced}
use Rattle.month_sums.specs.Lines.{refused_in}
use Rattle.month_sums.proofs.Outs.{first_out}
use Rattle.month_sums.proofs.sums.source_of.Goals as goal

pub returns-in_err-upper-clause-refusal : goal.returns-in_err-upper-clause-refusal
returns-in_err-upper-clause-refusal c =
    let f = c.first_refused.ensures in
    let e = c.in_err-upper.field-0.0 in
    let r = err_from_is_err_and c.from_residual-in_err-upper.result c.from_residual-in_err-upper.ensures.1 in
    let made : (AllPriced c.args.prices.items → ⊥) × (e ≡ refused_in c.hour_line-line.result PriceOutOfRange) = grind (arith, common_steps) in
    let out = first_out _ _ _ c.deref.ensures.value f.within f.before f.found made.0 in
    let same : c.in_ok-lower.lower.price ≡ c.args.price = grind (arith, common_steps) in
    let priced = subst (λ (z : ℤ). Priced z) same c.in_ok-lower.lower.range in
    rw (r.1, r.2) (inr (priced, (c.first_refused.result, out, made.1 ∙ ap (λ n. refused_in n PriceOutOfRange) c.hour_line-line.ensures)))
