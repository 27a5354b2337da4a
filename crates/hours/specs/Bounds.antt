-- The bounds that the terms, the totals and the sums of a book keep, so that nothing in them can overflow.
use Rattle.std.specs.Prelude.{◌≡◌, ℕ, ◌+◌, ◌*◌, ◌<◌, ◌≤◌, List, length, sum, slice_index}
use Rattle.hours.specs.declared.sums.Totals.{Totals}

-- three sale prices, each at most 1,000,000 gr per MWh
abbrev pub Cheap : List ℕ → Type 0
Cheap sale = (length sale ≡ 3) × ((z : ℕ) → z < 3 → slice_index sale z ≤ 1000000)

-- how far a book has read: the hours, and their totals
pub record Progress : Type 0 where
  pub hours : ℕ
  pub totals : Totals

-- an hour brings at most 100,000 Wh, of import or of export, in one of three zones, at a price of at most 1,000,000 gr per MWh
abbrev pub Bounded : ℕ → Totals → Type 0
Bounded hours y =
    (length y.import ≡ 3) × (length y.export ≡ 3) × (sum y.import + sum y.export ≤ 100000 * hours)
    × (y.charge ≤ 1000000 * sum y.import) × (y.value ≤ 1000000 * sum y.export)
