-- Every list of calls has a history, it decides where the machine stands, and what holds at each step holds after every history.
use Rattle.std.proofs.Common.{◌≡◌, List, [], ◌∷◌, map, Some, None, Option, sym, refl, ap, ◌∙◌, subst}
use Rattle.histories.specs.Machines.{Machine}
use Rattle.histories.specs.Histories.{Event, call_of, Does, Had, brought, Always}
use Rattle.histories.specs.Histories.Event.{did, refused}
use Rattle.histories.specs.Runs.{CallsHaveHistories, HistoriesDecide, BeginningsAreHistories}

module _ {O C S F : Type 0} {Answer : C → Type 0} (machine : Machine O C Answer S F) where
  -- a call at s is one event, and the machine is somewhere after it
  abbrev Next : S → C → Type 0
  Next s call = (e : Event C Answer F) × (s' : S) × (call_of e ≡ call) × Does machine s e s'

  next : (s : S) (call : C) → machine.Follows call → (r : Option F) → machine.refusal call s ≡ r → Next s call
  next s call follows None e = (did call (machine.answer call s), machine.after call s, refl, (e, refl, refl, follows))
  next s call follows (Some fault) e = (refused call fault, s, refl, (e, refl))

  pub have_histories : CallsHaveHistories machine
  have_histories o opens [] f = ([], machine.opening o, refl, (opens, refl))
  have_histories o opens (call ∷ calls) f =
      let before = have_histories o opens calls f.1 in
      let n = next before.1 call f.0 _ refl in
      (n.0 ∷ before.0, n.1, ap (λ c. c ∷ map call_of before.0) n.2 ∙ ap (λ cs. call ∷ cs) before.2, (before.1, before.3, n.3))

  -- a machine that has had calls is where they bring it
  pub brought_there : (o : O) (h : List (Event C Answer F)) (s : S) → Had machine o h s → brought machine o h ≡ s
  brought_there o [] s had = sym had.1
  brought_there o (did call answer ∷ h) s had = ap (machine.after call) (brought_there o h had.0 had.1) ∙ sym had.2.2
  brought_there o (refused call fault ∷ h) s had = brought_there o h had.0 had.1 ∙ sym had.2.1

  pub history_decides : HistoriesDecide machine
  history_decides o h s s' a b = sym (brought_there o h s a) ∙ brought_there o h s' b

  pub beginnings : BeginningsAreHistories machine
  beginnings o [] h s had = (s, had)
  beginnings o (e ∷ later) h s had = beginnings o later h had.0 had.1

module _ {O C S F : Type 0} {Answer : C → Type 0} (machine : Machine O C Answer S F) (o : O) (P : List (Event C Answer F) → S → Type 0) where
  -- what is known where a call is accepted after the calls h, at s, with P holding there
  pub record Accepted (call : C) (answer : Answer call) (h : List (Event C Answer F)) (s : S) : Type 0 where
    pub had : Had machine o h s
    pub so : P h s
    pub none : machine.refusal call s ≡ None
    pub told : answer ≡ machine.answer call s
    pub follows : machine.Follows call

  -- P holds right after an opening, an accepted call leads from P to P, and a refused one does
  abbrev pub Begins : Type 0
  Begins = machine.Opens o → P [] (machine.opening o)

  abbrev pub Leads : Type 0
  Leads = (call : C) (answer : Answer call) (h : List (Event C Answer F)) (s : S) → Accepted call answer h s → P (did call answer ∷ h) (machine.after call s)

  abbrev pub Stays : Type 0
  Stays = (call : C) (fault : F) (h : List (Event C Answer F)) (s : S) → P h s → P (refused call fault ∷ h) s

  -- then it holds after every history
  pub holds : Begins → Leads → Stays → (h : List (Event C Answer F)) (s : S) → Had machine o h s → P h s
  holds begins leads stays [] s had = subst (P []) (sym had.1) (begins had.0)
  holds begins leads stays (did call answer ∷ h) s had =
      subst (P (did call answer ∷ h)) (sym had.2.2)
      (leads call answer h had.0 (record { had = had.1; so = holds begins leads stays h had.0 had.1; none = had.2.0; told = had.2.1; follows = had.2.3 }))
  holds begins leads stays (refused call fault ∷ h) s had =
      subst (P (refused call fault ∷ h)) (sym had.2.1) (stays call fault h had.0 (holds begins leads stays h had.0 had.1))

module _ {O C S F : Type 0} {Answer : C → Type 0} (machine : Machine O C Answer S F) (o : O) where
  -- what holds of each event that ends a history holds of every event
  pub always : (P : List (Event C Answer F) → Event C Answer F → Type 0) → ((h : List (Event C Answer F)) (e : Event C Answer F) (s : S) → Had machine o (e ∷ h) s → P h e) →
      (h : List (Event C Answer F)) (s : S) → Had machine o h s → Always P h
  always P each [] s had = tt
  always P each (e ∷ h) s had = (each h e s had, always P each h had.0 had.1)
