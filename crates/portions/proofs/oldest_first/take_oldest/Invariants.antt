use Rattle.portions.specs.Listed.{listed}
use Rattle.portions.specs.Takes.{Serving}
use Rattle.portions.proofs.oldest_first.take_oldest.Given as goal

abbrev pub invariant-loop-amount : goal.invariant-loop-amount
invariant-loop-amount l = Serving (listed l.left) (listed l.takings) l.wanted l.amount-index l.rest
