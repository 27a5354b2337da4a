-- Calls are accepted and refused as they should be, in the words of the history.
use Rattle.std.proofs.Common.{◌≡◌, ℕ, ◌<◌, ◌≤◌, Bool, true, false, eqb, ltb, leb, ◌⊎◌, ◌∷◌, Some, None, Option, sym, refl, ap, ◌∙◌, inl, inr, arith}
use Rattle.std.specs.Option.{option_or}
use Rattle.std.specs.Result.{result_err}
use Rattle.std.proofs.lemmas.Bool.{eqb-true, eqb-false, leb-true, leb-false, ltb-true, ltb-false}
use Rattle.faults.specs.declared.AccountFault.{AccountFault}
use Rattle.faults.specs.declared.AccountFault.TheVariants.{InStore, OtherMonth, TooFewLines, AlreadyEntered, NothingEntered, PeriodGoesOn, NotSettled, AlreadySettled}
use Rattle.faults.specs.declared.StoreFault.TheVariants.{LastMonth}
use Rattle.faults.specs.Numbers.{account_number}
use Rattle.histories.specs.Histories.Event.{did, refused}
use Rattle.histories.proofs.Runs.{always}
use Rattle.histories.specs.Machines.{asks}
use Rattle.settlement.specs.declared.standing.Standing.{Standing}
use Rattle.settlement.specs.declared.states.MonthState.{MonthState}
use Rattle.settlement.specs.declared.states.MonthState.TheVariants.{Waiting, Entered, Settled}
use Rattle.settlement.specs.declared.states.Call.TheVariants.{Enter, Settle, Turn}
use Rattle.settlement.specs.Table.{table}
use Rattle.settlement.specs.Standing.{enter_refusal, settle_refusal, turn_refusal}
use Rattle.settlement.specs.Accounts.{Workings, machine}
use Rattle.settlement.specs.Accounts.Call.{open_for, enter, settle, turn}
use Rattle.settlement.specs.History.{Event, History, Had, month_state, entered, settled, turned}
use Rattle.settlement.specs.Refusals.{month_now, ends_now, stands, Smallest, Rightly, AllRightly}
use Rattle.settlement.proofs.Tables.{asked, no_fault, option_or_none, enters_in, settles_in, turns_in}

-- where an account stands, by its parts
pub standing_is : (opened : Bool) (state state' : MonthState) (month month' : ℕ) (o' : Bool) (end : Bool) → opened ≡ o' → state ≡ state' → month ≡ month' →
    ◌≡◌ {A = Standing} (record { opened = opened; month = month; state = state; ends = end }) (record { opened = o'; month = month'; state = state'; ends = end })
standing_is opened state state' month month' o' end e f g = cc

-- a refused call failed this demand, or a later one
failed : (b : Bool) (fault f : AccountFault) (o : Option AccountFault) → asks b fault o ≡ Some f → ((f ≡ fault) × (b ≡ false)) ⊎ ((b ≡ true) × (o ≡ Some f))
failed true fault f o h = inr (refl, h)
failed false fault f o h = inl (cc, refl)

either : (x y : Option AccountFault) (f : AccountFault) → option_or x y ≡ Some f → (x ≡ Some f) ⊎ ((x ≡ None) × (y ≡ Some f))
either (Some fault) y f h = inl h
either None y f h = inr (refl, h)

-- the number of a refusal that is known
number_of : (fault f : AccountFault) → ◌≡◌ {A = Option AccountFault} (Some fault) (Some f) → account_number f ≡ account_number fault
number_of fault f e = let is : f ≡ fault = cc in ap account_number is

other : {P : Type 0} (s : MonthState) → s ≡ Entered → s ≡ Waiting → P
other s e f = let z : ◌≡◌ {A = ℕ} 0 1 = cc in absurd (omega arith)

past : {P : Type 0} (s : MonthState) → s ≡ Settled → s ≡ Waiting → P
past s e f = let z : ◌≡◌ {A = ℕ} 0 1 = cc in absurd (omega arith)

-- what the table refuses, by number
enter_barred : (state : MonthState) (end : Bool) (f : AccountFault) → result_err (table state Enter end) ≡ Some f → (account_number f ≡ 25) × (state ≡ Waiting → ⊥)
enter_barred Waiting end f e = no_fault f e
enter_barred Entered end f e = (number_of AlreadyEntered f e, λ w. other Entered refl w)
enter_barred Settled end f e = (number_of AlreadyEntered f e, λ w. past Settled refl w)

abbrev SettleBarred : MonthState → Bool → AccountFault → Type 0
SettleBarred state end f =
    ((account_number f ≡ 26) × (state ≡ Waiting)) ⊎ (((account_number f ≡ 27) × (state ≡ Entered) × (end ≡ false)) ⊎ ((account_number f ≡ 29) × (state ≡ Settled)))

settle_barred : (state : MonthState) (end : Bool) (f : AccountFault) → result_err (table state Settle end) ≡ Some f → SettleBarred state end f
settle_barred Waiting end f e = inl (number_of NothingEntered f e, refl)
settle_barred Entered true f e = no_fault f e
settle_barred Entered false f e = inr (inl (number_of PeriodGoesOn f e, refl, refl))
settle_barred Settled end f e = inr (inr (number_of AlreadySettled f e, refl))

turn_barred : (state : MonthState) (end : Bool) (f : AccountFault) → result_err (table state Turn end) ≡ Some f → ((account_number f ≡ 26) × (state ≡ Waiting)) ⊎ ((account_number f ≡ 28) × (state ≡ Entered) × (end ≡ true))
turn_barred Waiting end f e = inl (number_of NothingEntered f e, refl)
turn_barred Entered true f e = inr (number_of NotSettled f e, refl, refl)
turn_barred Entered false f e = no_fault f e
turn_barred Settled end f e = no_fault f e

module _ {O A S Z T : Type 0} (works : Workings O A S Z T) (o : O) (h : History O S) where
  abbrev here : Standing
  here = stands works o h

  entered_rightly : (m : ℕ) → enter_refusal here m ≡ None → (m ≡ month_now works o h) × (month_state h ≡ Waiting)
  entered_rightly m e =
      let a = asked (eqb m (month_now works o h)) OtherMonth _ e in
      (eqb-true m (month_now works o h) a.0, enters_in (month_state h) (ends_now works o h) a.1)

  settled_rightly : (fewest lines : ℕ) → settle_refusal here fewest lines ≡ None → (month_state h ≡ Entered) × (ends_now works o h ≡ true) × (fewest ≤ lines)
  settled_rightly fewest lines e =
      let a = option_or_none (result_err (table (month_state h) Settle (ends_now works o h))) _ e in
      let b = settles_in (month_state h) (ends_now works o h) a.0 in
      (b.0, b.1, leb-true fewest lines (asked (leb fewest lines) TooFewLines None a.1).0)

  turned_rightly : turn_refusal here ≡ None → (month_now works o h < 1199) × (((month_state h ≡ Entered) × (ends_now works o h ≡ false)) ⊎ (month_state h ≡ Settled))
  turned_rightly e =
      let a = asked (ltb (month_now works o h) 1199) (InStore LastMonth) _ e in
      (ltb-true (month_now works o h) 1199 a.0, turns_in (month_state h) (ends_now works o h) a.1)

  enter_refused : (m : ℕ) (f : AccountFault) → enter_refusal here m ≡ Some f →
      ((account_number f ≡ 24) × (m ≡ month_now works o h → ⊥)) ⊎ ((account_number f ≡ 25) × (m ≡ month_now works o h) × (month_state h ≡ Waiting → ⊥))
  enter_refused m f e =
      elim (failed (eqb m (month_now works o h)) OtherMonth f _ e) [
        | inl x ↦ inl (ap account_number x.0, eqb-false m (month_now works o h) x.1)
        | inr x ↦ let b = enter_barred (month_state h) (ends_now works o h) f x.1 in inr (b.0, eqb-true m (month_now works o h) x.0, b.1)
      ]

  settle_refused : (fewest lines : ℕ) (f : AccountFault) → settle_refusal here fewest lines ≡ Some f →
      ((account_number f ≡ 26) × (month_state h ≡ Waiting)) ⊎ (((account_number f ≡ 27) × (month_state h ≡ Entered) × (ends_now works o h ≡ false))
      ⊎ (((account_number f ≡ 29) × (month_state h ≡ Settled)) ⊎ ((account_number f ≡ 30) × (month_state h ≡ Entered) × (ends_now works o h ≡ true) × (lines < fewest))))
  settle_refused fewest lines f e =
      elim (either (result_err (table (month_state h) Settle (ends_now works o h))) _ f e) [
        | inl x ↦ elim (settle_barred (month_state h) (ends_now works o h) f x) [ inl y ↦ inl y | inr y ↦ elim y [ inl z ↦ inr (inl z) | inr z ↦ inr (inr (inl z)) ] ]
        | inr x ↦
            let b = settles_in (month_state h) (ends_now works o h) x.0 in
            elim (failed (leb fewest lines) TooFewLines f None x.1) [ inl y ↦ inr (inr (inr (ap account_number y.0, b.0, b.1, leb-false fewest lines y.1))) | inr y ↦ no_fault f y.1 ]
      ]

  turn_refused : (f : AccountFault) → turn_refusal here ≡ Some f →
      ((account_number f ≡ 6) × (1199 ≤ month_now works o h))
      ⊎ (((account_number f ≡ 26) × (month_now works o h < 1199) × (month_state h ≡ Waiting)) ⊎ ((account_number f ≡ 28) × (month_now works o h < 1199) × (month_state h ≡ Entered) × (ends_now works o h ≡ true)))
  turn_refused f e =
      elim (failed (ltb (month_now works o h) 1199) (InStore LastMonth) f _ e) [
        | inl x ↦ inl (ap account_number x.0, ltb-false (month_now works o h) 1199 x.1)
        | inr x ↦
            let early = ltb-true (month_now works o h) 1199 x.0 in
            elim (turn_barred (month_state h) (ends_now works o h) f x.1) [ inl y ↦ inr (inl (y.0, early, y.1)) | inr y ↦ inr (inr (y.0, early, y.1, y.2)) ]
      ]

module _ {O A S Z T : Type 0} (works : Workings O A S Z T) (told : (o : O) (h : History O S) (a : A) → Had works o h a → works.standing a ≡ stands works o h)
    (opens : (opening : O) (fault : AccountFault) → works.open_refusal opening ≡ Some fault → Smallest works opening (account_number fault)) where
  -- what is found at an account is found where its calls have brought it
  moved : (o : O) (h : History O S) (a : A) → Had works o h a → (f : Standing → Option AccountFault) (r : Option AccountFault) → f (works.standing a) ≡ r → f (stands works o h) ≡ r
  moved o h a had f r e = ap f (sym (told o h a had)) ∙ e

  -- the event that ends a history was accepted or refused as it should have been
  rightly : (o : O) (h : History O S) (e : Event O S) (a : A) → Had works o (e ∷ h) a → Rightly works o h e
  rightly o h (entered sums) a had = entered_rightly works o h sums.month (moved o h had.0 had.1 (λ s. enter_refusal s sums.month) None had.2.0)
  rightly o h (settled rule lines answer) a had = settled_rightly works o h works.fewest_lines lines (moved o h had.0 had.1 (λ s. settle_refusal s works.fewest_lines lines) None had.2.0)
  rightly o h (turned refunded lost) a had = turned_rightly works o h (moved o h had.0 had.1 turn_refusal None had.2.0)
  rightly o h (did (open_for opening) _) a had = had.2.3
  rightly o h (refused (open_for opening) fault) a had = opens opening fault had.2.0
  rightly o h (refused (enter sums) fault) a had = enter_refused works o h sums.month fault (moved o h had.0 had.1 (λ s. enter_refusal s sums.month) (Some fault) had.2.0)
  rightly o h (refused (settle rule lines) fault) a had =
      settle_refused works o h works.fewest_lines lines fault (moved o h had.0 had.1 (λ s. settle_refusal s works.fewest_lines lines) (Some fault) had.2.0)
  rightly o h (refused turn fault) a had = turn_refused works o h fault (moved o h had.0 had.1 turn_refusal (Some fault) had.2.0)

  pub all_rightly : (o : O) (h : History O S) (a : A) → Had works o h a → AllRightly works o h
  all_rightly o = always (machine works) o (Rightly works o) (rightly o)
