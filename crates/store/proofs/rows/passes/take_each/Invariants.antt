use Rattle.std.proofs.Common.{◌≡◌, map, length, take}
use Rattle.portions.specs.Slots.{reads}
use Rattle.ledger.specs.Steps.{taking}
use Rattle.store.specs.Exact.{Exact}
use Rattle.store.proofs.rows.passes.take_each.Given as goal

abbrev pub invariant-loop-i : goal.invariant-loop-i
invariant-loop-i g l =
    (map (reads g.K.Kind.term) l.rows ≡ taking (take l.i l.takings) (map (reads g.K.Kind.term) l.initial.rows)) × (length l.rows ≡ length l.initial.rows) ×
    (Exact g.K.Kind l.initial.rows → Exact g.K.Kind l.rows)
