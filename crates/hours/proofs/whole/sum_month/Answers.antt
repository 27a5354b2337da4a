use Rattle.std.proofs.Common.{◌≡◌, Err, Result, length, sym, ap, ◌∙◌, subst, rules}
use Rattle.std.specs.Result.{IfOk, result_err}
use Rattle.std.proofs.lemmas.Result.{err_from_is_err_and}
use Rattle.hours.specs.Opening.{Opened}
use Rattle.hours.specs.Whole.{MonthSummed, month_refusal}
use Rattle.hours.specs.declared.book.Book.{Book}
use Rattle.hours.specs.declared.sums.MonthSums.{MonthSums}
use Rattle.hours.specs.declared.whole.MonthRefused.{MonthRefused}
use Rattle.hours.proofs.Months.{by_result}
use Rattle.hours.proofs.Closing.{finished_month, unfinished_month, asked_month}
use Rattle.hours.proofs.whole.sum_month.Goals as goal

pub returns : goal.returns
returns g c =
    let G = g.S.PriceSource in
    let s = G.state c.args.source.now in
    let m = c.args.month in
    let marks = c.args.tariff.marks in
    let sale = c.args.tariff.sale in
    let rs = c.args.readings.now in
    let b = c.in_ok-book.book in
    let b' = c.read_all.new.book in
    let e = c.in_ok-read_all.ensures in
    let o : Opened m marks sale b.terms b.tally =
    by_result c.open.result
    (λ x q.
    let k : ◌≡◌ {A = Book} x b = let e = rw q at c.in_ok-book.ensures.cases in cc in
    subst (λ (y : Book). Opened m marks sale y.terms y.tally) k (rw q at c.open.ensures.opened))
    (λ f q. absurd (rw q at c.in_ok-book.ensures.cases)) in
    let Comes : Result MonthSums MonthRefused → Type 0 =
    λ r. (result_err r ≡ month_refusal m marks sale (G.gives s m) rs)
    × IfOk r (λ x. MonthSummed m marks sale (G.gives s m) rs x.month x.totals) in
    let comes : Comes c.map_err-2.result =
    by_result c.finish.result
    (λ x q.
    let k = rw q at c.map_err-2.ensures.cases in
    let f = rw q at c.finish.ensures.sums in
    subst Comes (sym k) (finished_month G s m marks sale rs b.terms b'.terms b.tally b'.tally x.month x.totals o e.terms e.refusal e.history f))
    (λ u q.
    let f = rw q at c.finish.ensures.sums in
    let p = err_from_is_err_and c.map_err-2.result (rw q at c.map_err-2.ensures.cases) in
    let d : ◌≡◌ {A = MonthRefused} p.0 (record { read = length rs; fault = u.fault }) = search rules in
    subst Comes (sym (p.1 ∙ ap Err d))
    (unfinished_month G s m marks sale rs b.terms b'.terms b.tally b'.tally u.fault o e.terms e.refusal e.history f.0 f.1, tt)) in
    record { refusal = comes.0; sums = comes.1; asked = asked_month G s m marks sale rs b.terms b.tally _ o e.asked }
