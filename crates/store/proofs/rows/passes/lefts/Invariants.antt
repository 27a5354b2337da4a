use Rattle.std.proofs.Common.{◌≡◌, map, take}
use Rattle.portions.specs.Slots.{reads}
use Rattle.portions.specs.Listed.{listed}
use Rattle.store.proofs.rows.passes.lefts.Given as goal

abbrev pub invariant-loop-row : goal.invariant-loop-row
invariant-loop-row g l = listed l.all ≡ map (λ p. p.left) (map (reads g.K.Kind.term) (take l.row-index l.rows))
