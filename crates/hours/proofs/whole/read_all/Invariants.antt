use Rattle.hours.proofs.Months.{ReadTo}
use Rattle.hours.proofs.whole.read_all.Given as goal

abbrev pub invariant-loop-read : goal.invariant-loop-read
invariant-loop-read g l = ReadTo g.S.PriceSource l.initial.book.terms (g.S.PriceSource.state l.initial.source) l.readings l.read-counter l.book.terms l.book.tally (g.S.PriceSource.state l.source)
