-- The ledger that a store's fields mean.
use Rattle.std.proofs.Common.{ℕ, Bool, map}
use Rattle.portions.specs.declared.Kind.{Ghosts}
use Rattle.portions.specs.Slots.{reads}
use Rattle.ledger.specs.Ledger.{Ledger}
use Rattle.store.specs.declared.rows.Rows.{Rows}
use Rattle.store.specs.declared.totals.Totals.{Totals}
use Rattle.store.specs.Held.{held}

abbrev pub read_off : {K T : Type 0} → Ghosts K T → Rows → Bool → ℕ → Totals → Ledger T
read_off k rows opened month totals = record {
  opened = opened;
  month = month;
  portions = map (reads k.term) (held rows);
  entered = totals.entered;
  used = totals.used;
  refunded = totals.refunded;
  lost = totals.lost;
}
