-- What holds of every account.
use Rattle.std.specs.Prelude.{◌≡◌, ℕ, ◌≤◌, true, false, List, length}
use Rattle.ledger.specs.Ledger.{Ledger, has}
use Rattle.settlement.specs.declared.states.MonthState.{MonthState}
use Rattle.settlement.specs.declared.states.Period.{Period}
use Rattle.settlement.specs.declared.zones.Zones.{Zones}
use Rattle.settlement.specs.Bounds.{most_pending}
use Rattle.accounts.specs.Means.{EnergyStore, energies}

-- at most so much in each zone
abbrev pub Within : ℕ → Zones ℕ → Type 0
Within n e = (e.one ≤ n) × (e.two ≤ n) × (e.three ≤ n)

-- the stores are open together, and have one month
abbrev pub Together : Zones EnergyStore → Type 0
Together s =
    ((energies s.two).opened ≡ (energies s.one).opened) × ((energies s.three).opened ≡ (energies s.one).opened) ×
    ((energies s.two).month ≡ (energies s.one).month) × ((energies s.three).month ≡ (energies s.one).month)

-- what is pending is at most what its months can have brought
abbrev pub Few : MonthState → Period → Zones EnergyStore → Zones ℕ → Type 0
Few state period s pending = Within (most_pending state period (energies s.one).month) pending

-- a ledger has no portion of its month
abbrev pub FreeIn : {T : Type 0} → Ledger T → Type 0
FreeIn l = has l.month l.portions ≡ false

-- no store has one
abbrev pub Free : Zones EnergyStore → Type 0
Free s = FreeIn (energies s.one) × FreeIn (energies s.two) × FreeIn (energies s.three)

-- each store is open
abbrev pub Ready : Zones EnergyStore → Type 0
Ready s = ((energies s.one).opened ≡ true) × ((energies s.two).opened ≡ true) × ((energies s.three).opened ≡ true)

-- there is an amount for each portion of each store
abbrev pub Known : Zones (List ℕ) → Zones (Ledger (Unit {0})) → Type 0
Known before stores =
    (length stores.one.portions ≤ length before.one) × (length stores.two.portions ≤ length before.two) × (length stores.three.portions ≤ length before.three)
