use Rattle.std.proofs.Common.{length}
use Rattle.desk.proofs.Stretches.{Went}
use Rattle.desk.proofs.book.OpenBook.read_on.Given as goal

abbrev pub invariant-loop-next : goal.invariant-loop-next
invariant-loop-next l = Went l.fn.self l.bytes l.self l.rest

abbrev pub decreases-loop-next : goal.decreases-loop-next
decreases-loop-next l = length l.rest
