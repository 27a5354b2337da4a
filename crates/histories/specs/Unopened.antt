-- Before an opening: what a machine that was made and never opened has had, and what holds of it.
use Rattle.std.specs.Prelude.{◌≡◌, List, [], ◌∷◌, map, Some, Ok, Err, Result}
use Rattle.histories.specs.Machines.{Machine}
use Rattle.histories.specs.Histories.{Event, call_of, HadSince, Always}
use Rattle.histories.specs.Histories.Event.{did, refused}

module _ {O C S F : Type 0} {Answer : C → Type 0} (machine : Machine O C Answer S F) (made : S) where
  -- since it was made, and with no opening accepted, the machine has had the calls h and is at s
  abbrev pub Unopened : List (Event C Answer F) → S → Type 0
  Unopened h s = HadSince machine (λ begun. begun ≡ made) h s

  -- each of these calls is refused where the machine stands as it was made
  abbrev pub Refusing : List C → Type 0
  Refusing [] = Unit {0}
  Refusing (call ∷ calls) = ((fault : F) × (machine.refusal call made ≡ Some fault)) × Refusing calls

  -- every list of such calls has a history
  abbrev pub UnopenedHaveHistories : Type 0
  UnopenedHaveHistories =
      (calls : List C) → Refusing calls →
      (h : List (Event C Answer F)) × (s : S) × (map call_of h ≡ calls) × Unopened h s

  module _ (By : C → F → Type 0) where
    -- the call was refused, by such a fault
    abbrev pub Refused : Event C Answer F → Type 0
    Refused (did call answer) = ⊥
    Refused (refused call fault) = By call fault

    -- the machine has had the calls h and was never opened: it stands as it was made, and has refused every one by such
    -- a fault
    pub record NeverOpened (h : List (Event C Answer F)) (s : S) : Type 0 where
      pub had : Unopened h s
      pub as_made : s ≡ made
      pub all_refused : Always (λ before e. Refused e) h

module _ {C F X : Type 0} {Answer : C → Type 0} (Holds : List (Event C Answer F) → X → Type 0) where
  -- a call carries on what holds: whatever calls there were, what held after them holds after this one as well
  abbrev pub Carries : X → Event C Answer F → X → Type 0
  Carries before e after = (h : List (Event C Answer F)) → Holds h before → Holds (e ∷ h) after

  -- so does an opening that is refused; with one that is accepted it ends
  abbrev pub OpenCarries : X → (call : C) → Result (Answer call) F → X → Type 0
  OpenCarries before call (Ok _) after = Unit {0}
  OpenCarries before call (Err fault) after = Carries before (refused call fault) after
