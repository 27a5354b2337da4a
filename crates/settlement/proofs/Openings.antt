-- Openings are accepted and refused as they should be, in plain numbers.
use Rattle.std.proofs.Common.{◌≡◌, ◌≢◌, ℕ, ◌<◌, ◌≤◌, Bool, true, false, leb, ltb, ◌⊎◌, Some, None, Option, is_some, refl, subst, inl, inr, [], ◌∷◌, arith}
use Rattle.std.proofs.lemmas.Bool.{leb-true, leb-false, ltb-true, ltb-false, ne_eqb}
use Rattle.faults.specs.declared.AccountFault.{AccountFault}
use Rattle.faults.specs.declared.AccountFault.TheVariants.{InStore, MonthOutOfRange}
use Rattle.faults.specs.declared.StoreFault.TheVariants.{TooFewSlots}
use Rattle.faults.specs.Numbers.{account_number}
use Rattle.histories.specs.Machines.{asks}
use Rattle.settlement.specs.Table.{period_of}
use Rattle.settlement.specs.Accounts.{Workings}
use Rattle.settlement.specs.History.{History, Had}
use Rattle.settlement.specs.Refusals.{Smallest, OpenedRightly}
use Rattle.settlement.specs.Metering as meter
use Rattle.settlement.specs.Metering.{MeterOpening, metering}
use Rattle.settlement.specs.Billing as bill
use Rattle.settlement.specs.Billing.{BillOpening, billing}
use Rattle.settlement.proofs.Tables.{asked, no_fault, opens_in}

-- a number of months has no period only if it is none of three
unknown : (n : ℕ) → is_some (period_of n) ≡ false → (n ≢ 1) × (n ≢ 2) × (n ≢ 6)
unknown n none = (is_not 1 none_of, is_not 2 none_of, is_not 6 none_of)
  where
    none_of : true ≡ false → ⊥
    none_of x = absurd (cc)

    is_not : (k : ℕ) → (is_some (period_of k) ≡ false → ⊥) → n ≢ k
    is_not k some e = some (subst (λ x. is_some (period_of x) ≡ false) e none)

-- and has one only if it is one of them
known : (n : ℕ) → is_some (period_of n) ≡ true → n ≢ 1 → n ≢ 2 → n ≢ 6 → ⊥
known n some a b c = let no : false ≡ true = simp (ne_eqb n 1 a, ne_eqb n 2 b, ne_eqb n 6 c) at some in absurd (cc)

-- what has had calls was opened for what it may be
pub opened_so : {O A S Z T : Type 0} (works : Workings O A S Z T) (o : O) (h : History O S) (a : A) → Had works o h a → works.open_refusal o ≡ None
opened_so works o [] a had = had.0
opened_so works o (e ∷ h) a had = opened_so works o h had.0 had.1

module _ {O A S Z T : Type 0} (works : Workings O A S Z T) (o : O) (f : AccountFault) where
  -- a refusal is for the first demand, if that failed, or for a later one
  first_failed : (b : Bool) (fault : AccountFault) (rest : Option AccountFault) → (b ≡ false → Smallest works o (account_number fault)) → (b ≡ true → rest ≡ Some f → Smallest works o (account_number f)) →
      asks b fault rest ≡ Some f → Smallest works o (account_number f)
  first_failed true fault rest fails on e = on refl e
  first_failed false fault rest fails on e = let is : fault ≡ f = cc in subst (λ x. Smallest works o (account_number x)) is (fails refl)

  -- either sort is asked for slots and a month first
  begins_failed : (slots month : ℕ) (rest : Option AccountFault) → (slots < 13 → Smallest works o 1) → (12 < slots → (month < 47) ⊎ (1199 < month) → Smallest works o 2) →
      (12 < slots → 47 ≤ month → month ≤ 1199 → rest ≡ Some f → Smallest works o (account_number f)) →
      asks (ltb 12 slots) (InStore TooFewSlots) (asks (leb 47 month) MonthOutOfRange (asks (leb month 1199) MonthOutOfRange rest)) ≡ Some f → Smallest works o (account_number f)
  begins_failed slots month rest one two more =
      first_failed (ltb 12 slots) _ _ (λ n. one (omega (arith, ltb-false 12 slots n))) (λ y.
      first_failed (leb 47 month) _ _ (λ n. two (ltb-true 12 slots y) (inl (leb-false 47 month n))) (λ z.
      first_failed (leb month 1199) _ _ (λ n. two (ltb-true 12 slots y) (inr (leb-false month 1199 n))) (λ w. more (ltb-true 12 slots y) (leb-true 47 month z) (leb-true month 1199 w))))

module _ (o : MeterOpening) where
  -- where nothing failed that is asked before, no smaller number applies
  meter_from_1 : (k : ℕ) → meter.Applies o k → 1 ≤ k
  meter_from_1 k applies = grind arith

  meter_from_2 : 12 < o.slots → (k : ℕ) → meter.Applies o k → 2 ≤ k
  meter_from_2 slots k applies = grind arith

  meter_from_21 : 12 < o.slots → 47 ≤ o.month → o.month ≤ 1199 → (k : ℕ) → meter.Applies o k → 21 ≤ k
  meter_from_21 slots from to k applies = grind arith

  meter_from_22 : 12 < o.slots → 47 ≤ o.month → o.month ≤ 1199 → 1 ≤ o.power → o.power ≤ 50000 → (k : ℕ) → meter.Applies o k → 22 ≤ k
  meter_from_22 slots from to some few k applies = grind arith

  pub meter_refused : (f : AccountFault) → meter.open_refusal o ≡ Some f → Smallest metering o (account_number f)
  meter_refused f =
      begins_failed metering o f o.slots o.month _ (λ few. (inl (refl, few), meter_from_1)) (λ slots out. (inr (inl (refl, out)), meter_from_2 slots)) (λ slots from to.
      first_failed metering o f _ _ _ (λ n. (inr (inr (inl (refl, inl (omega (arith, leb-false 1 o.power n))))), meter_from_21 slots from to)) (λ y.
      first_failed metering o f _ _ _ (λ n. (inr (inr (inl (refl, inr (leb-false o.power 50000 n)))), meter_from_21 slots from to)) (λ z.
      first_failed metering o f _ _ None
      (λ n. let no = unknown o.months n in (inr (inr (inr (refl, no.0, no.1, no.2))), meter_from_22 slots from to (leb-true 1 o.power y) (leb-true o.power 50000 z)))
      (λ w. no_fault f))))

  -- to an accepted one none applies
  pub meter_opened : meter.open_refusal o ≡ None → OpenedRightly metering o
  meter_opened e n applies =
      let a = opens_in o.slots o.month _ _ _ _ e in
      let b = asked _ _ _ a.3 in
      let c = asked _ _ _ b.1 in
      let d = asked _ _ None c.1 in
      none_left a.2 a.0 a.1 (leb-true 1 o.power b.0) (leb-true o.power 50000 c.0) applies (known o.months d.0)
    where
      none_left : 12 < o.slots → 47 ≤ o.month → o.month ≤ 1199 → 1 ≤ o.power → o.power ≤ 50000 → meter.Applies o n → (o.months ≢ 1 → o.months ≢ 2 → o.months ≢ 6 → ⊥) → ⊥
      none_left slots from to some few (inl x) period = omega arith
      none_left slots from to some few (inr (inl x)) period = grind arith
      none_left slots from to some few (inr (inr (inl x))) period = grind arith
      none_left slots from to some few (inr (inr (inr x))) period = period x.1 x.2 x.3

module _ (o : BillOpening) where
  bill_from_1 : (k : ℕ) → bill.Applies o k → 1 ≤ k
  bill_from_1 k applies = grind arith

  bill_from_2 : 12 < o.slots → (k : ℕ) → bill.Applies o k → 2 ≤ k
  bill_from_2 slots k applies = grind arith

  bill_from_23 : 12 < o.slots → 47 ≤ o.month → o.month ≤ 1199 → (k : ℕ) → bill.Applies o k → 23 ≤ k
  bill_from_23 slots from to k applies = grind arith

  pub bill_refused : (f : AccountFault) → bill.open_refusal o ≡ Some f → Smallest billing o (account_number f)
  bill_refused f =
      begins_failed billing o f o.slots o.month _ (λ few. (inl (refl, few), bill_from_1)) (λ slots out. (inr (inl (refl, out)), bill_from_2 slots)) (λ slots from to.
      first_failed billing o f _ _ None (λ n. (inr (inr (refl, leb-false o.percentage 100 n)), bill_from_23 slots from to)) (λ y. no_fault f))

  pub bill_opened : bill.open_refusal o ≡ None → OpenedRightly billing o
  bill_opened e n applies =
      let a = opens_in o.slots o.month _ _ _ _ e in
      let b = asked _ _ None a.3 in
      none_left a.2 a.0 a.1 (leb-true o.percentage 100 b.0) applies
    where
      none_left : 12 < o.slots → 47 ≤ o.month → o.month ≤ 1199 → o.percentage ≤ 100 → bill.Applies o n → ⊥
      none_left slots from to few applies = grind arith
