-- Calls on an account, accepted or refused.
use Rattle.std.proofs.Common.{◌≡◌, ℕ, min, Bool, List, length, take, drop, Some, None, Ok, Err, Option, Result, sym, refl, ap, ◌∙◌, subst, arith}
use Rattle.std.proofs.lemmas.Result.{err_from_is_err_and}
use Rattle.std.specs.Result.{MatchResult, IsErrAnd}
use lib.Seq.{take-append_seam, drop-append_seam}
use Rattle.faults.specs.declared.AccountFault.{AccountFault}
use Rattle.faults.specs.declared.ProgramFault.{ProgramFault}
use Rattle.faults.specs.declared.ProgramFault.TheVariants.{InAccount}
use Rattle.hours.specs.declared.sums.MonthSums.{MonthSums}
use Rattle.settlement.specs.declared.answers.Returned.{Returned}
use Rattle.histories.specs.Machines.{answers, becomes}
use Rattle.settlement.specs.Steps.{hands_back}
use Rattle.answers.specs.Said.{Said}
use Rattle.answers.specs.Said.Said.{nothing, settled, paid}
use Rattle.settlement.specs.declared.answers.Settlement.{Settlement}
use Rattle.settlement.specs.declared.answers.Payment.{Payment}
use Rattle.settlement.specs.declared.answers.Line.{Line}
use Rattle.settlement.specs.Lines.{written}
use Rattle.desk.specs.declared.account_calls.Sort.{Sort}
use Rattle.desk.specs.declared.account_calls.Sort.TheVariants.{Metering, Billing}
use Rattle.accounts.specs.declared.metering.Metering.{Metering as MeteringOf}
use Rattle.accounts.specs.declared.billing.Billing.{Billing as BillingOf}
use Rattle.accounts.specs.Metered as meters
use Rattle.accounts.specs.Billed as bills
use Rattle.desk.specs.declared.account_calls.Accounts.{Accounts}
use Rattle.store.specs.Held.{room}
use Rattle.settlement.specs.declared.zones.Zones.{Zones}
use Rattle.accounts.specs.Means.{EnergyStore, fewest}
use Rattle.accounts.specs.Slots.{EachAccounted}
use Rattle.desk.specs.State.{Account}
use Rattle.desk.specs.State.Account.{metered, billed}
use Rattle.desk.specs.Outcome.{Outcome, by_account}
use Rattle.desk.specs.Means.{AccountCame, Called, Rests, account_in, nothing_said}

module _ {V : Type 0} where
  -- an accepted call has no refusal
  pub accepted_none : (o : Option AccountFault) (v x : V) → Ok x ≡ answers o v → (o ≡ None) × (x ≡ v)
  accepted_none None v x e = (refl, cc)
  accepted_none (Some f) v x e = let z : ◌≡◌ {A = ℕ} 0 1 = cc in absurd (omega arith)

  -- a refused one has it
  pub refused_some : (o : Option AccountFault) (v : V) (f : AccountFault) → Err f ≡ answers o v → o ≡ Some f
  refused_some None v f e = let z : ◌≡◌ {A = ℕ} 0 1 = cc in absurd (omega arith)
  refused_some (Some g) v f e = cc

-- what a refused call leaves is as it was
pub stays : {X : Type 0} (o : Option AccountFault) (f : AccountFault) (new old x : X) → o ≡ Some f → x ≡ becomes o new old → x ≡ old
stays o f new old x e s = s ∙ ap (λ p. becomes p new old) e

-- and an accepted one is new
pub changes : {X : Type 0} (o : Option AccountFault) (new old x : X) → o ≡ None → x ≡ becomes o new old → x ≡ new
changes o new old x e s = s ∙ ap (λ p. becomes p new old) e

module _ {X : Type 0} (o : Option AccountFault) (old : X) (said : Said) (new : X) (r : Result Said ProgramFault) (x : X) where
  -- the outcome of a refused call
  pub refused_came : (f : AccountFault) → o ≡ Some f → r ≡ Err (InAccount f) → x ≡ old → ((by_account o old said new).answer ≡ r) × ((by_account o old said new).after ≡ x)
  refused_came f e er ex = (ap (λ p. (by_account p old said new).answer) e ∙ sym er, ap (λ p. (by_account p old said new).after) e ∙ sym ex)

  -- of an accepted one
  pub accepted_came : o ≡ None → r ≡ Ok said → x ≡ new → ((by_account o old said new).answer ≡ r) × ((by_account o old said new).after ≡ x)
  accepted_came e er ex = (ap (λ p. (by_account p old said new).answer) e ∙ sym er, ap (λ p. (by_account p old said new).after) e ∙ sym ex)

-- a call on the stores leaves as many slots
pub same_fewest : (accepted : Bool) (s s' : Zones EnergyStore) → EachAccounted accepted s s' → fewest s' ≡ fewest s
same_fewest accepted s s' a =
    ap (λ n. min (min n (room s'.two)) (room s'.three)) a.0.same_room
    ∙ ap (λ n. min (min (room s.one) n) (room s'.three)) a.1.same_room
    ∙ ap (λ n. min (min (room s.one) (room s.two)) n) a.2.same_room

-- a call on the metering account, where it is the open one
pub on_metering : (does : Account → Outcome Account) (a : Accounts) (m : MeteringOf) (r : Result Said ProgramFault) → a.opened ≡ Some Metering → AccountCame (does (metered (meters.metered a.metering))) r (metered (meters.metered m)) →
    fewest m.meters.stores ≡ fewest a.metering.meters.stores → Called does r a (record { opened = a.opened; metering = m; billing = a.billing })
on_metering does a m r e came slots = record {
  came = subst (λ (v : Option Sort). AccountCame (does (account_in v (meters.metered a.metering) (bills.billed a.billing))) r (account_in v (meters.metered m) (bills.billed a.billing))) (sym e) came;
  rests = subst (λ (v : Option Sort). Rests v a (record { opened = a.opened; metering = m; billing = a.billing })) (sym e) refl;
  slots = ap (λ (n : ℕ). (n, room a.billing.store)) slots;
}

-- a call on the billing account likewise
pub on_billing : (does : Account → Outcome Account) (a : Accounts) (b : BillingOf) (r : Result Said ProgramFault) → a.opened ≡ Some Billing → AccountCame (does (billed (bills.billed a.billing))) r (billed (bills.billed b)) →
    room b.store ≡ room a.billing.store → Called does r a (record { opened = a.opened; metering = a.metering; billing = b })
on_billing does a b r e came slots = record {
  came = subst (λ (v : Option Sort). AccountCame (does (account_in v (meters.metered a.metering) (bills.billed a.billing))) r (account_in v (meters.metered a.metering) (bills.billed b))) (sym e) came;
  rests = subst (λ (v : Option Sort). Rests v a (record { opened = a.opened; metering = a.metering; billing = b })) (sym e) refl;
  slots = ap (λ (n : ℕ). (fewest a.metering.meters.stores, n)) slots;
}

-- the lines of a settlement, and those after them
pub first_lines : (n : ℕ) (new old lines : List Line) → n ≡ length new → lines ≡ written new old → take n lines ≡ new
first_lines n new old lines en e = ap (take n) e ∙ ap (λ k. take k (written new old)) en ∙ take-append_seam new (drop (length new) old)

pub other_lines : (n : ℕ) (new old lines : List Line) → n ≡ length new → lines ≡ written new old → drop n lines ≡ drop n old
other_lines n new old lines en e = ap (drop n) e ∙ (ap (λ k. drop k (written new old)) en ∙ drop-append_seam new (drop (length new) old)) ∙ ap (λ k. drop k old) (sym en)

-- an enter that was accepted, or that handed the sums back with a refusal
pub entered_came : {X : Type 0} (of : X → Account) (sums : MonthSums) (o : Option AccountFault) (old new x : X) (back : Result (Unit {0}) Returned) (r : Result (Unit {0}) ProgramFault) (Gives : Returned → ProgramFault → Type 0) →
    ((b : Returned) (f : ProgramFault) → Gives b f → f ≡ InAccount b.fault) → back ≡ hands_back sums o → MatchResult back (λ v. r ≡ Ok v) (λ b. IsErrAnd r (Gives b)) → x ≡ becomes o new old →
    AccountCame (by_account o (of old) nothing (of new)) (nothing_said r) (of x)
entered_came of sums None old new x (Ok tt) r Gives gives e cases s = (sym (ap nothing_said cases), sym (ap of s))
entered_came of sums None old new x (Err b) r Gives gives e cases s = let z : ◌≡◌ {A = ℕ} 0 1 = cc in absurd (omega arith)
entered_came of sums (Some f) old new x (Ok tt) r Gives gives e cases s = let z : ◌≡◌ {A = ℕ} 0 1 = cc in absurd (omega arith)
entered_came of sums (Some f) old new x (Err b) r Gives gives e cases s =
    let p = err_from_is_err_and r cases in
    let q : b ≡ record { fault = f; sums = sums } = cc in
    (sym (ap nothing_said p.1 ∙ ap Err (gives b _ p.2 ∙ ap (λ (b : Returned). InAccount b.fault) q)), sym (ap of s))

-- the same lines with the same answer
pub same_settled : (lines lines' : List Line) (answer answer' : Settlement) → lines ≡ lines' → answer ≡ answer' → ◌≡◌ {A = Result Said ProgramFault} (Ok (settled lines answer)) (Ok (settled lines' answer'))
same_settled lines lines' answer answer' e f = cc

pub same_paid : (lines lines' : List Line) (answer answer' : Payment) → lines ≡ lines' → answer ≡ answer' → ◌≡◌ {A = Result Said ProgramFault} (Ok (paid lines answer)) (Ok (paid lines' answer'))
same_paid lines lines' answer answer' e f = cc
