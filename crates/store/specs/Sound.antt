-- What holds of every store.
use Rattle.std.specs.Prelude.{◌≡◌, ℕ, ◌+◌, ◌-◌, ◌*◌, ◌≤◌, Bool, true, false, cond, List, [], ◌∷◌, length, map, take, nat_le}
use Rattle.portions.specs.Portions.{Portion}
use Rattle.portions.specs.Slots.{plain}
use Rattle.ledger.specs.Ledger.{has, left_in}
use Rattle.store.specs.declared.rows.Rows.{Rows}
use Rattle.store.specs.declared.totals.Totals.{Totals}

-- whether the months of the portions rise from `low` on and are below `end`
abbrev pub rises : {T : Type 0} → ℕ → ℕ → List (Portion T) → Bool
rises low end [] = nat_le low end
rises low end (p ∷ ps) = cond (nat_le low p.month) (rises (p.month + 1) end ps) false

-- the first month that is still to be entered
abbrev pub due : {T : Type 0} → ℕ → List (Portion T) → ℕ
due m ps = cond (has m ps) (m + 1) m

-- the portions in use, whatever the kind reads as their terms
abbrev pub kept : Rows → List (Portion ℕ)
kept rows = map plain (take rows.filled rows.slots.now)

-- how many months a portion is open: its kind's life and one more, and none before the store is open
abbrev pub span : ℕ → Bool → ℕ
span life opened = cond opened (life + 1) 0

-- there is a slot for each portion that can be open, and the portions are of the last `span` months, rising
abbrev pub Placed : ℕ → Rows → Bool → ℕ → Type 0
Placed life rows opened month =
    (span life opened ≤ length rows.slots.now) ×
    (rises (month + 1 - span life opened) (month + 1) (kept rows) ≡ true)

-- what was entered is used, refunded, lost or left, and is no more than the months up to now can have brought
abbrev pub Counted : Rows → ℕ → Totals → Type 0
Counted rows month totals =
    (totals.used + totals.refunded + totals.lost + left_in (kept rows) ≡ totals.entered) ×
    (totals.entered ≤ 100000000 * due month (kept rows)) × (month ≤ 1199)

-- a store is sound
abbrev pub Sound : ℕ → Rows → Bool → ℕ → Totals → Type 0
Sound life rows opened month totals = Placed life rows opened month × Counted rows month totals
