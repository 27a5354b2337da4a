-- What an accepted call says of the account that it met.
use Rattle.std.proofs.Common.{◌≡◌, ℕ, ◌+◌, ◌%◌, ◌<◌, ◌≤◌, Bool, true, false, eqb, ltb, leb, ◌⊎◌, Some, None, Option, sym, refl, inl, inr, arith}
use Rattle.std.specs.Option.{option_or}
use Rattle.std.specs.Result.{result_err}
use Rattle.std.proofs.lemmas.Bool.{eqb-false, leb-true, ltb-true}
use Rattle.faults.specs.declared.AccountFault.{AccountFault}
use Rattle.hours.specs.declared.sums.MonthSums.{MonthSums}
use Rattle.ledger.specs.Rules.{Rule}
use Rattle.histories.specs.Machines.{asks}
use Rattle.settlement.specs.declared.states.MonthState.{MonthState}
use Rattle.settlement.specs.declared.states.MonthState.TheVariants.{Waiting, Entered, Settled}
use Rattle.settlement.specs.declared.states.Call.TheVariants.{Enter, Settle, Turn}
use Rattle.settlement.specs.declared.states.Period.{Period}
use Rattle.settlement.specs.declared.states.Period.TheVariants.{Monthly, TwoMonthly, HalfYearly}
use Rattle.settlement.specs.Table.{ends, table}
use Rattle.settlement.specs.Bounds.{months_before}
use Rattle.settlement.specs.Accounts.{Workings, refusal}
use Rattle.settlement.specs.Accounts.Call.{enter, settle, turn}

-- no call is both refused and accepted
pub never : {P : Type 0} (fault : AccountFault) → ◌≡◌ {A = Option AccountFault} (Some fault) None → P
never fault e = let z : ◌≡◌ {A = ℕ} 0 1 = cc in absurd (omega arith)

-- an accepted call met every demand
pub asked : (b : Bool) (fault : AccountFault) (o : Option AccountFault) → asks b fault o ≡ None → (b ≡ true) × (o ≡ None)
asked true fault o e = (refl, e)
asked false fault o e = never fault e

-- nothing is no refusal
pub no_fault : {P : Type 0} (f : AccountFault) → ◌≡◌ {A = Option AccountFault} None (Some f) → P
no_fault f e = never f (sym e)

pub option_or_none : (x y : Option AccountFault) → option_or x y ≡ None → (x ≡ None) × (y ≡ None)
option_or_none (Some fault) y e = never fault e
option_or_none None y e = (refl, e)

-- an accepted opening is for a month from 47 to 1,199, over more than 12 slots, and met whatever else it was asked
pub opens_in : (slots m : ℕ) (f g h : AccountFault) (rest : Option AccountFault) → asks (ltb 12 slots) f (asks (leb 47 m) g (asks (leb m 1199) h rest)) ≡ None → (47 ≤ m) × (m ≤ 1199) × (12 < slots) × (rest ≡ None)
opens_in slots m f g h rest e =
    let a = asked (ltb 12 slots) _ _ e in
    let b = asked (leb 47 m) _ _ a.1 in
    let c = asked (leb m 1199) _ _ b.1 in
    (leb-true 47 m b.0, leb-true m 1199 c.0, ltb-true 12 slots a.0, c.1)

-- the states in which the table lets a call through
pub enters_in : (state : MonthState) (end : Bool) → result_err (table state Enter end) ≡ None → state ≡ Waiting
enters_in Waiting end e = refl
enters_in Entered end e = never _ e
enters_in Settled end e = never _ e

pub settles_in : (state : MonthState) (end : Bool) → result_err (table state Settle end) ≡ None → (state ≡ Entered) × (end ≡ true)
settles_in Waiting end e = never _ e
settles_in Entered true e = (refl, refl)
settles_in Entered false e = never _ e
settles_in Settled end e = never _ e

pub turns_in : (state : MonthState) (end : Bool) → result_err (table state Turn end) ≡ None → ((state ≡ Entered) × (end ≡ false)) ⊎ (state ≡ Settled)
turns_in Waiting end e = never _ e
turns_in Entered true e = never _ e
turns_in Entered false e = inl (refl, refl)
turns_in Settled end e = inr refl

module _ {O A S Z T : Type 0} (works : Workings O A S Z T) (a : A) where
  pub enter_waits : (sums : MonthSums) → refusal works (enter sums) a ≡ None → (works.standing a).state ≡ Waiting
  enter_waits sums e = enters_in (works.standing a).state (works.standing a).ends (asked (eqb sums.month (works.standing a).month) _ _ (asked (works.standing a).opened _ _ e).1).1

  pub settle_entered : (rule : Rule) (lines : ℕ) → refusal works (settle rule lines) a ≡ None → (works.standing a).state ≡ Entered
  settle_entered rule lines e = (settles_in (works.standing a).state (works.standing a).ends (option_or_none _ _ (asked (works.standing a).opened _ _ e).1).0).0

  pub turn_early : refusal works turn a ≡ None → (works.standing a).month < 1199
  turn_early e = ltb-true (works.standing a).month 1199 (asked (ltb (works.standing a).month 1199) _ _ (asked (works.standing a).opened _ _ e).1).0

  pub turn_from : refusal works turn a ≡ None → (((works.standing a).state ≡ Entered) × ((works.standing a).ends ≡ false)) ⊎ ((works.standing a).state ≡ Settled)
  turn_from e = turns_in (works.standing a).state (works.standing a).ends (asked (ltb (works.standing a).month 1199) _ _ (asked (works.standing a).opened _ _ e).1).1

-- a period has at most six months, and one more has come before where it goes on
pub before_few : (period : Period) (m : ℕ) → months_before period m ≤ 5
before_few Monthly m = omega arith
before_few TwoMonthly m = omega arith
before_few HalfYearly m = omega arith

pub before_more : (period : Period) (m : ℕ) → ends period m ≡ false → months_before period (m + 1) ≡ months_before period m + 1
before_more Monthly m e = let z : ◌≡◌ {A = ℕ} 0 1 = cc in absurd (omega arith)
before_more TwoMonthly m e = let ne = eqb-false (m % 2) 1 e in omega (arith, ne)
before_more HalfYearly m e = let ne = eqb-false (m % 6) 5 e in omega (arith, ne)
