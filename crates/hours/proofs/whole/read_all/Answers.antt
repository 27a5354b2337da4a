use Rattle.std.proofs.Common.{◌≡◌, ℕ, Err, Result, sym, ap, ◌∙◌, subst, rules}
use Rattle.std.specs.Result.{is_ok, result_err}
use Rattle.std.proofs.lemmas.Bool.{false≢true}
use Rattle.std.proofs.lemmas.Result.{IfOk-from_err, err_from_is_err_and}
use Rattle.faults.specs.declared.BookFault.{BookFault}
use Rattle.hours.specs.declared.whole.MonthRefused.{MonthRefused}
use Rattle.hours.proofs.Months.{ReadStep, reading_at, read_to_more, read_to_refused, still_ok, by_result}
use Rattle.hours.proofs.whole.read_all.Goals as goal

-- a reading is refused, and the month with it after i readings
abbrev Refused : Result (Unit {0}) BookFault → MonthRefused → ℕ → Type 0
Refused r d i = (f : BookFault) × ((r ≡ Err f) × (d ≡ record { read = i; fault = f }))

pub loop-read-preserved : goal.loop-read-preserved
loop-read-preserved g c =
    let e = c.read.ensures in
    let r = reading_at c.args.readings.now c.loop-read.read-counter in
    let Step : Result (Unit {0}) BookFault → Type 0 =
    λ a. ReadStep g.S.PriceSource (g.S.PriceSource.state c.loop-read.source) c.loop-read.book.terms c.loop-read.book.tally r.import r.export a c.read.new.self.terms c.read.new.self.tally (g.S.PriceSource.state c.read.new.source) in
    let step : Step c.read.result = record { answered = e.answer; terms = e.terms; asked = e.asked; history = e.history } in
    let ok = still_ok c.read.result c.map_err.result c.in_ok-map_err.field-0 c.map_err.ensures.variant c.in_ok-map_err.was in
    read_to_more g.S.PriceSource g.met.S.PriceSource.steady c.args.book.now.terms (g.S.PriceSource.state c.args.source.now) c.args.readings.now c.loop-read.read-counter
    c.loop-read.book.terms c.read.new.self.terms c.loop-read.book.tally c.read.new.self.tally (g.S.PriceSource.state c.loop-read.source) (g.S.PriceSource.state c.read.new.source)
    c.loop-read.invariant c.loop-read-test.true (subst Step ok step)

pub returns-in_err-map_err : goal.returns-in_err-map_err
returns-in_err-map_err g c =
    let e = c.read.ensures in
    let i = c.loop-read.read-counter in
    let r = reading_at c.args.readings.now i in
    let Step : Result (Unit {0}) BookFault → Type 0 =
    λ a. ReadStep g.S.PriceSource (g.S.PriceSource.state c.loop-read.source) c.loop-read.book.terms c.loop-read.book.tally r.import r.export a c.read.new.self.terms c.read.new.self.tally (g.S.PriceSource.state c.read.new.source) in
    let step : Step c.read.result = record { answered = e.answer; terms = e.terms; asked = e.asked; history = e.history } in
    let err : Refused c.read.result c.in_err-map_err.field-0.0 i =
    by_result c.read.result (λ u o. absurd (false≢true (ap is_ok (sym c.in_err-map_err.was) ∙ c.map_err.ensures.variant ∙ ap is_ok o)))
    (λ f q. let k = rw q at c.in_err-map_err.ensures.cases in (f, (q, search rules))) in
    let p = err_from_is_err_and c.from_residual.result c.from_residual.ensures.1 in
    let o =
    read_to_refused g.S.PriceSource c.args.book.now.terms (g.S.PriceSource.state c.args.source.now) c.args.readings.now i err.0
    c.loop-read.book.terms c.read.new.self.terms c.loop-read.book.tally c.read.new.self.tally (g.S.PriceSource.state c.loop-read.source) (g.S.PriceSource.state c.read.new.source)
    c.loop-read.invariant c.loop-read-test.true (subst Step err.1.0 step) in
    let q : c.from_residual.result ≡ Err (record { read = i; fault = err.0 }) = p.1 ∙ ap Err (p.2 ∙ err.1.1) in
    record { refusal = ap result_err q ∙ o.refusal; terms = o.terms; history = IfOk-from_err c.from_residual.result _ c.from_residual.ensures.0; asked = o.asked }
