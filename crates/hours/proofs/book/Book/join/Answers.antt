use Rattle.std.proofs.Common.{◌≡◌, None, sym, ap, ◌∙◌, rules}
use Rattle.std.proofs.lemmas.Option.{none-some}
use Rattle.hours.specs.Balance.{balance, energy_given, energy_taken}
use Rattle.hours.specs.Price.{worth}
use Rattle.hours.specs.Reading.{joined_at, read_refusal, hours_of}
use Rattle.hours.proofs.History.{accepted, joins}
use Rattle.hours.proofs.book.Book.join.Goals as goal
use Rattle.hours.proofs.book.Book.join.Goals.{in-Some, in-None-2}

pub returns-clause-tally : goal.returns-clause-tally
returns-clause-tally c =
    let t = c.args.self.now.terms in
    let y = c.args.self.now.tally in
    let i = c.args.reading.import in
    let e = c.args.reading.export in
    let value : c.add_hour.new.self ≡ joined_at t y i e c.match-price.rate =
    let z = c.requires.zone.zone in
    let taken : c.taken.result ≡ energy_taken (balance i e) = c.taken.ensures ∙ ap energy_taken c.balance-balance.ensures in
    let given : c.given.result ≡ energy_given (balance i e) = c.given.ensures ∙ ap energy_given c.balance-balance.ensures in
    search rules in
    let none : read_refusal (hours_of t) y.hours i e c.args.price ≡ None = elim c.match-price.branch [
      | in-Some w ↦ accepted t y i e _ c.args.price c.requires.zone (λ q. absurd (none-some _ (sym q ∙ w.in-Some.is)))
      | in-None-2 w ↦ accepted t y i e _ c.args.price c.requires.zone (λ _. w.if-reading.false)
    ] in
    let rate : c.match-price.rate ≡ worth c.args.price = elim c.match-price.branch [ in-Some w ↦ search rules | in-None-2 w ↦ search rules ] in
    joins t y i e c.match-price.rate c.args.price _ none rate value
