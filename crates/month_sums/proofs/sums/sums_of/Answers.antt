use Rattle.std.proofs.Common.{◌≡◌, List, [], ℤ, Ok, Err, Result, subst, inr, get_or, rules}
use Rattle.std.proofs.lemmas.Result.{IfOk-weaker}
use Rattle.std.specs.Result.{IfErr, IfOk, IsErrAnd, MatchResult, result_err}
use Rattle.hours.specs.Marks.{each_zone}
use Rattle.hours.specs.Price.{AllPriced, Priced}
use Rattle.hours.specs.Whole.{MonthSummed}
use Rattle.hours.specs.declared.sums.MonthSums.{MonthSums}
use Rattle.hours.specs.declared.whole.MonthRefused.{MonthRefused}
use Rattle.month_sums.specs.Lines.{line_of_refusal, refused_in}
use Rattle.month_sums.specs.Told.{EachPriced, SumsOf, Told, month_refused, prices_in}
use Rattle.month_sums.specs.declared.complaint.Complaint.{Complaint}
use Rattle.month_sums.specs.declared.input.Input.{Input}
use Rattle.month_sums.proofs.Carried.{carried, refusal_carried}
use Rattle.month_sums.proofs.sums.sums_of.Goals as goal

-- the prices of the source are those of the input, and so in range
priced_of : (z w : ℤ) (ps qs : List ℤ) → z ≡ w → ps ≡ qs → Priced z → AllPriced ps → Priced w × AllPriced qs
priced_of z w ps qs e l p a = (subst (λ (n : ℤ). Priced n) e p, subst (λ (xs : List ℤ). AllPriced xs) l a)

sums_kept : (x : Input) (r : Result MonthSums MonthRefused) (q : Result MonthSums Complaint) → EachPriced x → month_refused x ≡ result_err r
    → IfOk r (λ s. MonthSummed x.terms.month x.marks x.terms.sale (prices_in x) x.hours.readings.items s.month s.totals)
    → MatchResult r (λ y. q ≡ Ok y) (λ f. IsErrAnd q (λ e. e ≡ refused_in (line_of_refusal f.fault (each_zone (get_or x.marks 0 [])) f.read) f.fault))
    → IfOk q (λ s. SumsOf x s.month s.totals)
sums_kept x (Ok s) q p m h e = rw e (record { priced = p; accepted = m; summed = h })
sums_kept x (Err f) (Ok s) p m h e = absurd e
sums_kept x (Err f) (Err g) p m h e = tt

told_of : (x : Input) (r : Result MonthSums MonthRefused) (q : Result MonthSums Complaint) → EachPriced x → month_refused x ≡ result_err r
    → MatchResult r (λ y. q ≡ Ok y) (λ f. IsErrAnd q (λ e. e ≡ refused_in (line_of_refusal f.fault (each_zone (get_or x.marks 0 [])) f.read) f.fault))
    → IfErr q (λ e. Told x e)
told_of x (Ok y) q p m h = rw h tt
told_of x (Err f) (Ok y) p m h = absurd h
told_of x (Err f) (Err e) p m h = inr (p, (f, m, h))

pub returns-clause-sums : goal.returns-clause-sums
returns-clause-sums c =
    let s = c.in_ok-source.ensures in
    let x = c.args.input in
    let o = c.in_ok-source.source in
    let price : o.lower.price ≡ x.terms.price = search rules in
    let p : EachPriced x = priced_of _ _ _ _ price s.upper.1 o.lower.range o.upper.range in
    let accepted = refusal_carried x.terms.month x.marks x.terms.sale _ _ _ _ _ _ _ _ _ s.upper.0 s.upper.1 s.lower.0 price c.as_slice.ensures.value c.sum_month.ensures.refusal in
    let sums = IfOk-weaker c.sum_month.result _ (λ y. MonthSummed x.terms.month x.marks x.terms.sale (prices_in x) x.hours.readings.items y.month y.totals)
    (λ y h. carried x.terms.month x.marks x.terms.sale _ _ _ _ _ _ _ _ _ _ s.upper.0 s.upper.1 s.lower.0 price c.as_slice.ensures.value h)
    c.sum_month.ensures.sums in
    sums_kept x c.sum_month.result c.map_err.result p accepted sums (search rules)

pub returns-clause-refusal : goal.returns-clause-refusal
returns-clause-refusal c =
    let s = c.in_ok-source.ensures in
    let x = c.args.input in
    let o = c.in_ok-source.source in
    let price : o.lower.price ≡ x.terms.price = search rules in
    let p : EachPriced x = priced_of _ _ _ _ price s.upper.1 o.lower.range o.upper.range in
    let told =
    refusal_carried x.terms.month x.marks x.terms.sale _ _ _ _ _ _ _ _ _ s.upper.0 s.upper.1 s.lower.0 price c.as_slice.ensures.value c.sum_month.ensures.refusal in
    told_of x c.sum_month.result c.map_err.result p told (search rules)
