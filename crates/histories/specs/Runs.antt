-- Every list of calls has a history, and a history decides where the machine stands.
use Rattle.std.specs.Prelude.{◌≡◌, List, [], ◌∷◌, ◌++◌, map}
use Rattle.histories.specs.Machines.{Machine}
use Rattle.histories.specs.Histories.{Event, call_of, Had}

module _ {O C S F : Type 0} {Answer : C → Type 0} (machine : Machine O C Answer S F) where
  -- each of these calls may be accepted after an opening
  abbrev pub Following : List C → Type 0
  Following [] = Unit {0}
  Following (call ∷ calls) = machine.Follows call × Following calls

  -- every list of calls after an opening has a history
  abbrev pub CallsHaveHistories : Type 0
  CallsHaveHistories =
      (o : O) → machine.Opens o → (calls : List C) → Following calls →
      (h : List (Event C Answer F)) × (s : S) × (map call_of h ≡ calls) × Had machine o h s

  -- a history decides where the machine stands
  abbrev pub HistoriesDecide : Type 0
  HistoriesDecide = (o : O) (h : List (Event C Answer F)) (s s' : S) → Had machine o h s → Had machine o h s' → s ≡ s'

  -- what a history began with is a history
  abbrev pub BeginningsAreHistories : Type 0
  BeginningsAreHistories =
      (o : O) (later h : List (Event C Answer F)) (s : S) → Had machine o (later ++ h) s → (s' : S) × Had machine o h s'
