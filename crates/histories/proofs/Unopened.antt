-- A machine that refuses every call as it was made stays so until it is opened.
use Rattle.std.proofs.Common.{◌≡◌, ℕ, List, [], ◌∷◌, map, Some, sym, refl, ap, ◌∙◌, arith}
use Rattle.histories.specs.Machines.{Machine}
use Rattle.histories.specs.Histories.{Event, call_of}
use Rattle.histories.specs.Histories.Event.{did, refused}
use Rattle.histories.specs.Unopened.{Unopened, Refusing, UnopenedHaveHistories, NeverOpened}

module _ {O C S F : Type 0} {Answer : C → Type 0} (machine : Machine O C Answer S F) (made : S) where
  pub unopened_have_histories : UnopenedHaveHistories machine made
  unopened_have_histories calls refusing = let r = go calls refusing in (r.0, made, r.1, r.2)
    where
      go : (calls : List C) → Refusing machine made calls → (h : List (Event C Answer F)) × (map call_of h ≡ calls) × Unopened machine made h made
      go [] refusing = ([], refl, refl)
      go (call ∷ calls) refusing =
          let r = go calls refusing.1 in
          let fault = refusing.0 in
          (refused call fault.0 ∷ r.0, ap (λ cs. call ∷ cs) r.1, (made, r.2, (fault.1, refl)))

  module _ (By : C → F → Type 0) (shut : (call : C) → machine.Follows call → (fault : F) × (machine.refusal call made ≡ Some fault))
      (by : (call : C) (fault : F) → machine.refusal call made ≡ Some fault → By call fault) where
    pub never_opened : (h : List (Event C Answer F)) (s : S) → Unopened machine made h s → NeverOpened machine made By h s
    never_opened [] s had = record { had = had; as_made = had; all_refused = tt }
    never_opened (did call answer ∷ h) s had =
        let was = never_opened h had.0 had.1 in
        let some = sym (shut call had.2.3).1 ∙ ap (machine.refusal call) (sym was.as_made) ∙ had.2.0 in
        let z : ◌≡◌ {A = ℕ} 0 1 = cc in
        absurd (omega arith)
    never_opened (refused call fault ∷ h) s had =
        let was = never_opened h had.0 had.1 in
        record { had = had; as_made = had.2.1 ∙ was.as_made; all_refused = (by call fault (ap (machine.refusal call) (sym was.as_made) ∙ had.2.0), was.all_refused) }
