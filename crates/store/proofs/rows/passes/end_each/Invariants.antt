use Rattle.std.proofs.Common.{◌≡◌, ◌*◌, ◌^◌, ◌≤◌, take}
use Rattle.portions.specs.Sums.{total}
use Rattle.store.specs.Ending.{refund_in, loss_in}
use Rattle.store.proofs.rows.passes.end_each.Given as goal

abbrev pub invariant-loop-row : goal.invariant-loop-row
invariant-loop-row g l =
    (l.refunded ≡ total (refund_in g.K.Kind) (take l.row-index l.rows)) × (l.lost ≡ total (loss_in g.K.Kind) (take l.row-index l.rows)) ×
    (l.refunded ≤ 2 ^ 32 * l.row-index) × (l.lost ≤ 2 ^ 32 * l.row-index)
