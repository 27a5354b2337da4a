-- An account that was never opened stays so with each call but an opening that is accepted.
use Rattle.std.proofs.Common.{◌≡◌, ℕ, Bool, true, false, [], ◌∷◌, is_ok, Some, None, Ok, Err, Option, Result, sym, refl, ap, ◌∙◌, subst, arith}
use Rattle.faults.specs.declared.AccountFault.{AccountFault}
use Rattle.histories.specs.Machines.{answers, gives, leaves}
use Rattle.histories.specs.Histories.{event}
use Rattle.histories.specs.Histories.Event.{refused}
use Rattle.histories.specs.Unopened.{OpenCarries}
use Rattle.histories.proofs.Keeps.{does, does_open}
use Rattle.hours.specs.declared.sums.MonthSums.{MonthSums}
use Rattle.portions.specs.declared.Kind.{Ghosts}
use Rattle.store.specs.declared.Store.{Store}
use Rattle.store.specs.Held.{lent}
use Rattle.store.specs.Slots.{Accounted}
use Rattle.settlement.specs.declared.answers.Returned.{Returned}
use Rattle.settlement.specs.declared.zones.Zones.{Zones}
use Rattle.settlement.specs.Zones.{each}
use Rattle.settlement.specs.Accounts.{Call, Answer, Follows, refusal, machine}
use Rattle.settlement.specs.Accounts.Call.{open_for, enter}
use Rattle.settlement.specs.Steps.{hands_back, enter_answer}
use Rattle.settlement.specs.History.{Event, enter_event}
use Rattle.settlement.specs.Unopened.{NeverOpened, ShutUntilOpened}
use Rattle.accounts.specs.Means.{EnergyStore}
use Rattle.accounts.specs.Slots.{EachAccounted}
use Rattle.accounts.specs.Unopened.{Sort, AsLent, StaysAsLent, OpenStaysAsLent}

-- a refused call leaves the slots of a store as they were
pub same_slots : {K T : Type 0} {k : Ghosts K T} (s s' : Store K T k) (accepted : Bool) → Accounted accepted s s' → accepted ≡ false → lent s' ≡ lent s
same_slots s s' true a e = let z : ◌≡◌ {A = ℕ} 0 1 = cc in absurd (omega arith)
same_slots s s' false a e = a.kept

module _ (s s' : Zones EnergyStore) where
  each_lent : (lent s'.one ≡ lent s.one) → (lent s'.two ≡ lent s.two) → (lent s'.three ≡ lent s.three) → each lent s' ≡ each lent s
  each_lent one two three = cc

  -- and of three
  pub each_same_slots : (accepted : Bool) → EachAccounted accepted s s' → accepted ≡ false → each lent s' ≡ each lent s
  each_same_slots accepted a e = each_lent (same_slots s.one s'.one accepted a.0 e) (same_slots s.two s'.two accepted a.1 e) (same_slots s.three s'.three accepted a.2 e)

-- an enter by what it gave
as_event : {O S : Type 0} (sums : MonthSums) (o : Option AccountFault) → ◌≡◌ {A = Event O S} (enter_event sums (hands_back sums o)) (event (enter sums) (answers o tt))
as_event sums None = refl
as_event sums (Some fault) = refl

as_ok : (sums : MonthSums) (o : Option AccountFault) → is_ok (hands_back sums o) ≡ is_ok (let gave : Result (Unit {0}) AccountFault = answers o tt in gave)
as_ok sums None = refl
as_ok sums (Some fault) = refl

module _ {X O A S Z T L : Type 0} (sort : Sort X O A S Z T L) (law : ShutUntilOpened sort.works) where
  -- right after it was made
  pub as_made : (slots : L) (x : X) → sort.means x ≡ sort.works.closed → sort.lent x ≡ slots → AsLent sort slots [] x
  as_made slots x made same = record { shut = law [] (sort.means x) made; slots_as_lent = same }

  module _ (x x' : X) where
    -- after a call that may follow an opening
    pub stays : (call : Call O) → Follows call → (r : Result (Answer S call) AccountFault) → r ≡ gives (machine sort.works) call (sort.means x) → sort.means x' ≡ leaves (machine sort.works) call (sort.means x) →
        (is_ok r ≡ false → sort.lent x' ≡ sort.lent x) → StaysAsLent sort x (event call r) x'
    stays call follows r told moved same slots h was =
        let shut = law (event call r ∷ h) (sort.means x') (sort.means x, was.shut.shut.had, does (machine sort.works) (sort.means x) (sort.means x') call follows r told moved) in
        record { shut = shut; slots_as_lent = kept r same shut ∙ was.slots_as_lent }
      where
        kept : (r : Result (Answer S call) AccountFault) → (is_ok r ≡ false → sort.lent x' ≡ sort.lent x) → NeverOpened sort.works (event call r ∷ h) (sort.means x') → sort.lent x' ≡ sort.lent x
        kept (Ok answer) same shut = absurd shut.shut.all_refused.0
        kept (Err fault) same shut = same refl

    -- after an enter
    pub enter_stays : (sums : MonthSums) (r : Result (Unit {0}) Returned) → r ≡ enter_answer sort.works sums (sort.means x) → sort.means x' ≡ leaves (machine sort.works) (enter sums) (sort.means x) →
        (is_ok r ≡ false → sort.lent x' ≡ sort.lent x) → StaysAsLent sort x (enter_event sums r) x'
    enter_stays sums r told moved same =
        let o = refusal sort.works (enter sums) (sort.means x) in
        subst (λ e. StaysAsLent sort x e x') (sym (ap (enter_event sums) told ∙ as_event sums o))
        (stays (enter sums) tt (gives (machine sort.works) (enter sums) (sort.means x)) refl moved (λ e. same (ap is_ok told ∙ as_ok sums o ∙ e)))

    -- after an opening
    pub open_stays : (opening : O) (r : Result (Unit {0}) AccountFault) → r ≡ gives (machine sort.works) (open_for opening) (sort.means x) → sort.means x' ≡ leaves (machine sort.works) (open_for opening) (sort.means x) →
        sort.lent x' ≡ sort.lent x → OpenStaysAsLent sort x opening r x'
    open_stays opening r told moved same slots =
        does_open (machine sort.works) (sort.means x) (sort.means x') (open_for opening) (λ r. OpenCarries (AsLent sort slots) x (open_for opening) r x') (λ e moved. tt)
        (λ fault came h was. record { shut = law (refused (open_for opening) fault ∷ h) (sort.means x') (sort.means x, was.shut.shut.had, came); slots_as_lent = same ∙ was.slots_as_lent })
        r told moved
