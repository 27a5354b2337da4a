use Rattle.portions.specs.Listed.{listed}
use Rattle.portions.specs.Takes.{Sharing}
use Rattle.portions.proofs.proportional.take_shares.Given as goal

abbrev pub invariant-loop-amount : goal.invariant-loop-amount
invariant-loop-amount l = Sharing (listed l.left) (listed l.takings) l.w l.t l.amount-index l.before
