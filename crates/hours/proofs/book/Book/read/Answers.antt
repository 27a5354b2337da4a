use Rattle.std.proofs.Common.{◌≡◌, None, Err, ap, ◌∙◌, refl, rules}
use Rattle.std.proofs.lemmas.Result.{err_from_is_err_and}
use Rattle.hours.specs.Reading.{reading}
use Rattle.hours.specs.Source.{next_price, next_state}
use Rattle.hours.proofs.History.{unneeded_alike}
use Rattle.hours.proofs.Calls.{reading_comes, refusal_comes, if_asked, if_unasked, needed, not_needed, unneeded}
use Rattle.hours.proofs.book.Book.read.Goals as goal
use Rattle.hours.proofs.book.Book.read.Goals.{then-reading, else-reading}

pub returns-in_err-zone : goal.returns-in_err-zone
returns-in_err-zone g c =
    let G = g.S.PriceSource in
    let s = G.state c.args.source.now in
    let t = c.args.self.now.terms in
    let y = c.args.self.now.tally in
    let i = c.args.reading.import in
    let e = c.args.reading.export in
    let p = err_from_is_err_and c.from_residual.result c.from_residual.ensures.1 in
    let a = refusal_comes t y i e (next_price G s t y) _ _ c.in_err-zone.ensures (p.1 ∙ ap Err p.2) in
    let n = not_needed t y i e _ c.in_err-zone.ensures in
    record { answer = a.answer; terms = refl; tally = a.tally; asked = if_unasked _ _ _ n; history = a.history }

pub returns : goal.returns
returns g c =
    let G = g.S.PriceSource in
    let s = G.state c.args.source.now in
    let t = c.args.self.now.terms in
    let y = c.args.self.now.tally in
    let i = c.args.reading.import in
    let e = c.args.reading.export in
    let z = c.in_ok-zone.ensures in
    let same : reading t y i e c.if-reading.price ≡ reading t y i e (next_price G s t y) = elim c.if-reading.branch [
      | then-reading w ↦ ap (reading t y i e) (search rules)
      | else-reading w ↦ ap (reading t y i e) w.price-is ∙ unneeded_alike t y i e None (next_price G s t y) (unneeded t y i e _ z w.if-reading.false)
    ] in
    let asked : G.state c.if-reading.source ≡ next_state G s t y i e = elim c.if-reading.branch [
      | then-reading w ↦
          let n = needed t y i e _ z w.if-reading.true in
          let after : G.state w.ask-price.new.self ≡ G.asked s t.month.number y.hours = search rules in
          ap G.state w.source-is ∙ after ∙ if_asked _ _ _ n
      | else-reading w ↦
          let n = unneeded t y i e _ z w.if-reading.false in
          ap G.state w.source-is ∙ if_unasked _ _ _ n
    ] in
    let done = c.join.ensures in
    let a = reading_comes t y i e (next_price G s t y) c.if-reading.price _ _ same done.answer done.tally done.bounded in
    record { answer = a.answer; terms = done.terms; tally = a.tally; asked = asked; history = a.history }
