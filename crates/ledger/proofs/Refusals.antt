-- Calls are refused as they should be, in the words of the history.
use Rattle.std.proofs.Common.{◌≡◌, ℕ, Bool, true, false, cond, not, eqb, ltb, leb, List, [], ◌∷◌, Some, None, Option, refl, ap, ◌∙◌, inl, inr, arith}
use Rattle.std.proofs.lemmas.Bool.{leb-true, leb-false, ltb-true, ltb-false, eqb-true, eq-eqb, both_ways, not-false}
use Rattle.faults.specs.declared.StoreFault.{StoreFault}
use Rattle.faults.specs.Numbers.{store_number}
use Rattle.portions.specs.Portions.{Portion}
use Rattle.ledger.specs.Kinds.{Kind}
use Rattle.ledger.specs.Ledger.{Ledger, has}
use Rattle.histories.specs.Machines.{asks}
use Rattle.ledger.specs.Calls.{open_refusal}
use Rattle.ledger.specs.Calls.Call.{open_for, enter, draw, turn}
use Rattle.histories.specs.Histories.Event.{did, refused}
use Rattle.histories.proofs.Runs.{always}
use Rattle.ledger.specs.Steps.{machine}
use Rattle.ledger.specs.History.{Event, History, Had, reached, entered, drew, turned}
use Rattle.ledger.specs.Told.{Tells}
use Rattle.ledger.specs.Refusals.{HasPortion, OpeningRefused, Rightly, AllRightly}
use Rattle.ledger.proofs.Asked.{failed, enter_met, draw_met, turn_met}
use Rattle.ledger.proofs.Store.{sound, exact}

-- where the store is open, a refusal is for what else is asked
still : (b : Bool) (e f : StoreFault) (o : Option StoreFault) → b ≡ true → asks b e o ≡ Some f → o ≡ Some f
still b e f o y h = elim (failed b e f o h) [ inl x ↦ absurd (both_ways b x.1 y) | inr x ↦ x.1 ]

module _ {T : Type 0} where
  has_tells : (k : ℕ) (ps : List (Portion T)) → has k ps ≡ true → (a : ℕ) × (t : T) × Tells ps k a t
  has_tells k [] h = absurd (cc)
  has_tells k (p ∷ ps) h = go (eqb p.month k) refl h (λ e. has_tells k ps e)
    where
      go : (b : Bool) → eqb p.month k ≡ b → cond b true (has k ps) ≡ true → (has k ps ≡ true → (a : ℕ) × (t : T) × Tells ps k a t) → (a : ℕ) × (t : T) × Tells (p ∷ ps) k a t
      go true e h' ih = (p.entered, p.terms, inl (eqb-true p.month k e, refl, refl))
      go false e h' ih = let r = ih h' in (r.0, r.1, inr r.2)

  tells_has : (k a : ℕ) (t : T) (ps : List (Portion T)) → Tells ps k a t → has k ps ≡ true
  tells_has k a t [] e = absurd e
  tells_has k a t (p ∷ ps) (inl e) = ap (λ b. cond b true (has k ps)) (eq-eqb p.month k e.0)
  tells_has k a t (p ∷ ps) (inr e) =
      let ih = tells_has k a t ps e in
      elim (eqb p.month k) as (λ b. cond b true (has k ps) ≡ true) [ true ↦ refl | false ↦ ih ]

  module _ (kind : Kind T) (m₀ : ℕ) (h : History T) (s : Ledger T) (had : Had kind m₀ h s) where
    month_is : s.month ≡ reached m₀ h
    month_is = (sound kind m₀ h s had).month_is

    -- the test and the history agree on whether the month has its portion
    portion_since : has s.month s.portions ≡ true → HasPortion m₀ h
    portion_since y =
        let told = has_tells (reached m₀ h) s.portions (rw month_is at y) in
        (told.0, told.1, ((exact kind m₀ h s had (reached m₀ h) told.0 told.1).only told.2).0)

    portion_told : HasPortion m₀ h → has s.month s.portions ≡ true
    portion_told p =
        let told = (exact kind m₀ h s had (reached m₀ h) p.0 p.1).all p.2 (omega arith) in
        ap (λ (n : ℕ). has n s.portions) month_is ∙ tells_has (reached m₀ h) p.0 p.1 s.portions told

  pub opening_refused : (kind : Kind T) (slots month : ℕ) (fault : StoreFault) → open_refusal kind slots month ≡ Some fault → OpeningRefused kind slots month fault
  opening_refused kind slots month fault e =
      elim (failed (ltb kind.life slots) _ fault _ e) [
        | inl x ↦ inl (ap store_number x.0, ltb-false kind.life slots x.1)
        | inr x ↦ elim (failed (leb 47 month) _ fault _ x.1) [
          | inl y ↦ inr (ap store_number y.0, ltb-true kind.life slots x.0, inl (leb-false 47 month y.1))
          | inr y ↦ elim (failed (leb month 1199) _ fault None y.1) [
            | inl z ↦ inr (ap store_number z.0, ltb-true kind.life slots x.0, inr (leb-false month 1199 z.1))
            | inr z ↦ absurd (cc)
          ]
        ]
      ]

  refuses_rightly : (kind : Kind T) (m₀ : ℕ) (h : History T) (e : Event T) (s : Ledger T) → Had kind m₀ (e ∷ h) s → Rightly kind m₀ h e
  refuses_rightly kind m₀ h (entered amount terms) s had =
      let was = had.0 in
      let met = enter_met amount was had.2.0 in
      (met.small, λ p. both_ways (has was.month was.portions) met.free (portion_told kind m₀ h was had.1 p))
  refuses_rightly kind m₀ h (drew d answer) s had = (draw_met d.wanted had.0 had.2.0).small
  refuses_rightly kind m₀ h (turned refunded lost) s had =
      omega (arith, (turn_met had.0 had.2.0).early, month_is kind m₀ h had.0 had.1)
  refuses_rightly kind m₀ h (did (open_for slots month) _) s had = had.2.3
  refuses_rightly kind m₀ h (refused (open_for slots month) fault) s had = opening_refused kind slots month fault had.2.0
  refuses_rightly kind m₀ h (refused (enter amount terms) fault) s had =
      let was = had.0 in
      elim (failed (leb amount 100000000) _ fault _ (still was.opened _ fault _ (sound kind m₀ h was had.1).is_open had.2.0)) [
        | inl x ↦ inl (ap store_number x.0, leb-false amount 100000000 x.1)
        | inr x ↦ elim (failed (not (has was.month was.portions)) _ fault None x.1) [
          | inl y ↦ inr (ap store_number y.0, leb-true amount 100000000 x.0, portion_since kind m₀ h was had.1 (not-false (has was.month was.portions) y.1))
          | inr y ↦ absurd (cc)
        ]
      ]
  refuses_rightly kind m₀ h (refused (draw d) fault) s had =
      elim (failed (leb d.wanted 1000000000) _ fault None (still had.0.opened _ fault _ (sound kind m₀ h had.0 had.1).is_open had.2.0))
      [ inl x ↦ (ap store_number x.0, leb-false d.wanted 1000000000 x.1) | inr x ↦ absurd (cc) ]
  refuses_rightly kind m₀ h (refused turn fault) s had =
      let ok = sound kind m₀ h had.0 had.1 in
      elim (failed (ltb had.0.month 1199) _ fault None (still had.0.opened _ fault _ ok.is_open had.2.0))
      [ inl x ↦ (ap store_number x.0, omega (arith, ltb-false had.0.month 1199 x.1, ok.month_is, ok.month_le)) | inr x ↦ absurd (cc) ]

  pub all_rightly : (kind : Kind T) (m₀ : ℕ) (h : History T) (s : Ledger T) → Had kind m₀ h s → AllRightly kind m₀ h
  all_rightly kind m₀ = always (machine kind) m₀ (Rightly kind m₀) (refuses_rightly kind m₀)
