-- Calls on a store inside an account that the store does not refuse.
use Rattle.std.proofs.Common.{◌≡◌, ℕ, ◌<◌, ◌≤◌, true, None}
use Rattle.std.proofs.lemmas.Bool.{le-leb, lt-ltb}
use Rattle.ledger.specs.Ledger.{Ledger}
use Rattle.ledger.specs.Calls.{draw_refusal, turn_refusal}

module _ {T : Type 0} (l : Ledger T) (ready : l.opened ≡ true) where
  pub draw_allowed : (wanted : ℕ) → wanted ≤ 1000000000 → draw_refusal wanted l ≡ None
  draw_allowed wanted small = simp (ready, le-leb wanted 1000000000 small)

  pub turn_allowed : l.month < 1199 → turn_refusal l ≡ None
  turn_allowed early = simp (ready, lt-ltb l.month 1199 early)
