-- Histories: the list of calls that a machine has had, the newest first, each with its arguments and answer; refused
-- ones are among them.
use Rattle.std.specs.Prelude.{◌≡◌, List, [], ◌∷◌, Some, None, Ok, Err, Result}
use Rattle.histories.specs.Machines.{Machine}

-- a call that was accepted, with its answer, or refused, with the fault
pub data Event (C : Type 0) (Answer : C → Type 0) (F : Type 0) : Type 0 where
  did : (call : C) (answer : Answer call) → Event C Answer F
  refused : (call : C) (fault : F) → Event C Answer F

-- a call by what it gave
abbrev pub event : {C F : Type 0} {Answer : C → Type 0} (call : C) → Result (Answer call) F → Event C Answer F
event call (Ok answer) = did call answer
event call (Err fault) = refused call fault

-- the call of an event
abbrev pub call_of : {C F : Type 0} {Answer : C → Type 0} → Event C Answer F → C
call_of (did call answer) = call
call_of (refused call fault) = call

module _ {O C S F : Type 0} {Answer : C → Type 0} (machine : Machine O C Answer S F) where
  -- at s the machine answers as the event says, and is at s' afterwards
  abbrev pub Does : S → Event C Answer F → S → Type 0
  Does s (did call answer) s' =
      (machine.refusal call s ≡ None)
      × (answer ≡ machine.answer call s)
      × (s' ≡ machine.after call s)
      × machine.Follows call
  Does s (refused call fault) s' = (machine.refusal call s ≡ Some fault) × (s' ≡ s)

  -- since it stood as said, the machine has had the calls h and is at s
  abbrev pub HadSince : (S → Type 0) → List (Event C Answer F) → S → Type 0
  HadSince Stood [] s = Stood s
  HadSince Stood (e ∷ h) s' = (s : S) × HadSince Stood h s × Does s e s'

  -- opened so, it has had the calls h and is at s
  abbrev pub Had : O → List (Event C Answer F) → S → Type 0
  Had o h s = HadSince (λ begun. machine.Opens o × (begun ≡ machine.opening o)) h s

  -- where the calls h bring a machine that was opened so
  abbrev pub brought : O → List (Event C Answer F) → S
  brought o [] = machine.opening o
  brought o (did call answer ∷ h) = machine.after call (brought o h)
  brought o (refused call fault ∷ h) = brought o h

  -- a call keeps a promise: whatever calls the machine has had before, all is as promised after them and this one
  abbrev pub Keeps : (O → List (Event C Answer F) → S → Type 0) → S → Event C Answer F → S → Type 0
  Keeps Promised before e after = (o : O) (h : List (Event C Answer F)) → Had o h before → Promised o (e ∷ h) after

  -- an opening keeps it: an accepted one begins a history, and a refused one is a call like any other
  abbrev pub OpenKeeps :
      (O → List (Event C Answer F) → S → Type 0) → S → O → (call : C) → Result (Answer call) F → S → Type 0
  OpenKeeps Promised before o call (Ok _) after = Promised o [] after
  OpenKeeps Promised before o call (Err fault) after = Keeps Promised before (refused call fault) after

module _ {E : Type 0} where
  -- something holds of every event and the calls before it
  abbrev pub Always : (List E → E → Type 0) → List E → Type 0
  Always P [] = Unit {0}
  Always P (e ∷ h) = P h e × Always P h
