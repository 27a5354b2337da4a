-- Calls are accepted and refused as they should be, said of the history alone.
use Rattle.std.specs.Prelude.{◌≡◌, ℕ, ◌<◌, ◌≤◌, ◌⊎◌}
use Rattle.faults.specs.Numbers.{store_number}
use Rattle.faults.specs.declared.StoreFault.{StoreFault}
use Rattle.ledger.specs.Kinds.{Kind}
use Rattle.ledger.specs.Calls.Call.{open_for, enter, draw, turn}
use Rattle.histories.specs.Histories.{Always}
use Rattle.histories.specs.Histories.Event.{did, refused}
use Rattle.ledger.specs.History.{Event, History, reached, entered, drew, turned}
use Rattle.ledger.specs.Told.{WasEntered}

module _ {T : Type 0} where
  -- the current month has its portion
  abbrev pub HasPortion : ℕ → History T → Type 0
  HasPortion m₀ h = (amount : ℕ) × (terms : T) × WasEntered m₀ h (reached m₀ h) amount terms

  -- an opening is accepted as it should be: over a slot more than the life has months, for a month from 47 to 1,199
  abbrev pub OpenedRightly : Kind T → ℕ → ℕ → Type 0
  OpenedRightly kind slots month = (kind.life < slots) × (47 ≤ month) × (month ≤ 1199)

  -- an opening is refused as it should be
  abbrev pub OpeningRefused : Kind T → ℕ → ℕ → StoreFault → Type 0
  OpeningRefused kind slots month fault =
      ((store_number fault ≡ 1) × (slots ≤ kind.life)) ⊎ ((store_number fault ≡ 2) × (kind.life < slots) × ((month < 47) ⊎ (1199 < month)))

  -- after the calls h this event is accepted or refused as it should be, by the smallest number that applies
  abbrev pub Rightly : Kind T → ℕ → History T → Event T → Type 0
  Rightly kind m₀ h (entered amount terms) = (amount ≤ 100000000) × (HasPortion m₀ h → ⊥)
  Rightly kind m₀ h (drew d answer) = d.wanted ≤ 1000000000
  Rightly kind m₀ h (turned refunded lost) = reached m₀ h < 1199
  Rightly kind m₀ h (did (open_for slots month) _) = ⊥
  Rightly kind m₀ h (refused (open_for slots month) fault) = OpeningRefused kind slots month fault
  Rightly kind m₀ h (refused (enter amount terms) fault) =
      ((store_number fault ≡ 3) × (100000000 < amount)) ⊎ ((store_number fault ≡ 4) × (amount ≤ 100000000) × HasPortion m₀ h)
  Rightly kind m₀ h (refused (draw d) fault) = (store_number fault ≡ 5) × (1000000000 < d.wanted)
  Rightly kind m₀ h (refused turn fault) = (store_number fault ≡ 6) × (reached m₀ h ≡ 1199)

  -- every call was accepted or refused as it should have been
  abbrev pub AllRightly : Kind T → ℕ → History T → Type 0
  AllRightly kind m₀ h = Always (Rightly kind m₀) h
