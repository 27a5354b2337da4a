-- Calls are accepted and refused as they should be, said of the history alone.
use Rattle.std.specs.Prelude.{◌≡◌, ℕ, ◌<◌, ◌≤◌, Bool, true, false, ◌⊎◌, ◌≢◌}
use Rattle.faults.specs.Numbers.{account_number}
use Rattle.histories.specs.Histories.{Always}
use Rattle.histories.specs.Histories.Event.{did, refused}
use Rattle.settlement.specs.declared.standing.Standing.{Standing}
use Rattle.settlement.specs.declared.states.MonthState.TheVariants.{Waiting, Entered, Settled}
use Rattle.settlement.specs.Accounts.{Workings}
use Rattle.settlement.specs.Accounts.Call.{open_for, enter, settle, turn}
use Rattle.settlement.specs.History.{Event, History, reached, month_state, entered, settled, turned}

module _ {O A S Z T : Type 0} (works : Workings O A S Z T) where
  -- the month reached
  abbrev pub month_now : O → History O S → ℕ
  month_now o h = reached (works.own_month o) h

  -- whether a period ends with it
  abbrev pub ends_now : O → History O S → Bool
  ends_now o h = works.ends_in o (month_now o h)

  -- where an account stands that was opened so and has had the calls h
  abbrev pub stands : O → History O S → Standing
  stands o h = record { opened = true; month = month_now o h; state = month_state h; ends = ends_now o h }

  -- of the numbers that apply to an opening this is the smallest
  abbrev pub Smallest : O → ℕ → Type 0
  Smallest opening n = works.Applies opening n × ((k : ℕ) → works.Applies opening k → n ≤ k)

  -- an opening is accepted as it should be: no number applies
  abbrev pub OpenedRightly : O → Type 0
  OpenedRightly opening = (n : ℕ) → works.Applies opening n → ⊥

  -- after the calls h this event is accepted or refused as it should be, by the smallest number that applies
  abbrev pub Rightly : O → History O S → Event O S → Type 0
  Rightly o h (entered sums) = (sums.month ≡ month_now o h) × (month_state h ≡ Waiting)
  Rightly o h (settled rule lines answer) = (month_state h ≡ Entered) × (ends_now o h ≡ true) × (works.fewest_lines ≤ lines)
  Rightly o h (turned refunded lost) = (month_now o h < 1199) × (((month_state h ≡ Entered) × (ends_now o h ≡ false)) ⊎ (month_state h ≡ Settled))
  Rightly o h (did (open_for opening) _) = ⊥
  Rightly o h (refused (open_for opening) fault) = Smallest opening (account_number fault)
  Rightly o h (refused (enter sums) fault) =
      ((account_number fault ≡ 24) × (sums.month ≢ month_now o h))
      ⊎ ((account_number fault ≡ 25) × (sums.month ≡ month_now o h) × (month_state h ≢ Waiting))
  Rightly o h (refused (settle rule lines) fault) =
      ((account_number fault ≡ 26) × (month_state h ≡ Waiting))
      ⊎ (((account_number fault ≡ 27) × (month_state h ≡ Entered) × (ends_now o h ≡ false))
      ⊎ (((account_number fault ≡ 29) × (month_state h ≡ Settled))
      ⊎ ((account_number fault ≡ 30) × (month_state h ≡ Entered) × (ends_now o h ≡ true) × (lines < works.fewest_lines))))
  Rightly o h (refused turn fault) =
      ((account_number fault ≡ 6) × (1199 ≤ month_now o h))
      ⊎ (((account_number fault ≡ 26) × (month_now o h < 1199) × (month_state h ≡ Waiting))
      ⊎ ((account_number fault ≡ 28) × (month_now o h < 1199) × (month_state h ≡ Entered) × (ends_now o h ≡ true)))

  -- every call was accepted or refused as it should have been
  abbrev pub AllRightly : O → History O S → Type 0
  AllRightly o h = Always (Rightly o) h
