use Rattle.std.proofs.Common.{sym, ap, ◌∙◌}
use Rattle.records.specs.Readings.{reading_model}
use Rattle.records.proofs.First.{fewer}
use Rattle.desk.proofs.Stretches.{goes_on, refused}
use Rattle.desk.proofs.book.OpenBook.read_on.Goals as goal

pub loop-next-smaller : goal.loop-next-smaller
loop-next-smaller c = fewer _ _ (sym c.next_reading.ensures ∙ ap reading_model c.in-Some.is)

pub loop-next-preserved : goal.loop-next-preserved
loop-next-preserved c = goes_on _ _ _ _ c.loop-next.invariant _ _ _ (sym c.next_reading.ensures ∙ ap reading_model c.in-Some.is) c.read.ensures (sym c.is_err.ensures.value ∙ c.if-is_err.false)

pub returns-then-is_err-clause-read : goal.returns-then-is_err-clause-read
returns-then-is_err-clause-read c = refused _ _ _ _ c.loop-next.invariant _ _ _ (sym c.next_reading.ensures ∙ ap reading_model c.in-Some.is) c.read.ensures (sym c.is_err.ensures.value ∙ c.if-is_err.true)
