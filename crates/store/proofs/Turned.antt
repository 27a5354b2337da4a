-- A store after an accepted turn: the portions past their life are ended.
use Rattle.std.proofs.Common.{◌≡◌, ℕ, ◌+◌, ◌-◌, ◌*◌, ◌≤◌, Bool, true, false, cond, List, [], ◌∷◌, map, length, None, Ok, filter, sym, ap, ◌∙◌, ⊎_elim, arith, le-leb}
use Rattle.std.proofs.lemmas.Bool.{cases_Bool}
use Rattle.portions.specs.declared.Kind.{Ghosts}
use Rattle.portions.specs.Portions.{Portion}
use Rattle.portions.specs.Slots.{reads, plain}
use Rattle.histories.specs.Machines.{gives, leaves, answers, becomes}
use Rattle.ledger.specs.Calls.Call.{turn}
use Rattle.ledger.specs.Ledger.{has, left_in}
use Rattle.ledger.specs.Calls.{turn_refusal}
use Rattle.ledger.specs.Steps.{machine, stays_in, refunds, losses, turning}
use Rattle.ledger.proofs.Asked.{TurnMet, turn_met}
use Rattle.store.specs.declared.Store.{Store}
use Rattle.store.specs.declared.rows.Rows.{Rows}
use Rattle.store.specs.declared.totals.Totals.{Totals}
use Rattle.store.specs.Held.{held, room}
use Rattle.store.specs.Ending.{staying, refunds_in, losses_in}
use Rattle.store.specs.Counting.{more_ended}
use Rattle.store.specs.Reading.{kind_of, ledger_of}
use Rattle.store.specs.Sound.{Sound, rises, due, kept, span}
use Rattle.store.proofs.Ended.{kept_by_map, refunds_rows, losses_rows}
use Rattle.store.proofs.Parts.{parts}
use Rattle.store.proofs.Read.{read_off}
use Rattle.store.proofs.Rise.{due_most, open_span}

-- some of the portions of rising months have rising months.
rises_some : {T : Type 0} (p : Portion T → Bool) (low low' end end' : ℕ) (ps : List (Portion T)) → low' ≤ low → end ≤ end' → rises low end ps ≡ true →
    rises low' end' (filter p ps) ≡ true
rises_some p low low' end end' [] a b h = grind arith
rises_some p low low' end end' (q ∷ ps) a b h =
    let r = rises_some p (q.month + 1) (q.month + 1) end end' ps (omega arith) b in
    let s = rises_some p (q.month + 1) low' end end' ps in
    ⊎_elim (λ y. rw y (grind arith)) (λ n. rw n (grind arith)) (cases_Bool (p q))

-- those that stay as the month m comes are of the months from m - life on.
rises_later : {T : Type 0} (life m low end end' : ℕ) (ps : List (Portion T)) → m - life ≤ end' → end ≤ end' → rises low end ps ≡ true →
    rises (m - life) end' (filter (stays_in life m) ps) ≡ true
rises_later life m low end end' [] a b h = le-leb (m - life) end' a
rises_later life m low end end' (q ∷ ps) a b h =
    let r = rises_some (stays_in life m) (q.month + 1) (q.month + 1) end end' ps (omega arith) b in
    let s = rises_later life m (q.month + 1) end end' ps a b in
    ⊎_elim (λ y. rw y (grind arith)) (λ n. rw n (grind arith)) (cases_Bool (stays_in life m q))

due_least : {T : Type 0} (m : ℕ) (ps : List (Portion T)) → m ≤ due m ps
due_least m ps = elim (has m ps) as (λ b. m ≤ cond b (m + 1) m) [ true ↦ omega arith | false ↦ omega arith ]

bounded_turned : {T : Type 0} (m n : ℕ) (ps qs : List (Portion T)) → n ≤ 100000000 * due m ps → n ≤ 100000000 * due (m + 1) qs
bounded_turned m n ps qs b =
    let a = due_most m ps in
    let c = due_least (m + 1) qs in
    omega arith

module _ {K T : Type 0} {k : Ghosts K T} (s : Store K T k) (rows' : Rows) (r x : ℕ)
    (stay : held rows' ≡ staying k (s.month + 1) (held s.rows))
    (all : r + x + left_in (map plain (held rows')) ≡ left_in (kept s.rows)) where
  rising_turned : s.opened ≡ true → rises (s.month + 1 + 1 - span k.LIFE s.opened) (s.month + 1 + 1) (kept rows') ≡ true
  rising_turned o =
      let e = open_span s o in
      let q = rises_later k.LIFE (s.month + 1) _ (s.month + 1) (s.month + 1 + 1) (kept s.rows) (omega arith) (omega arith) (parts s).rising in
      let n : s.month + 1 + 1 - span k.LIFE s.opened ≡ s.month + 1 - k.LIFE = omega (arith, e) in
      let p = ap (map plain) stay ∙ sym (kept_by_map (stays_in k.LIFE (s.month + 1)) plain (held s.rows)) in
      rw (n, p) q

  pub turned_sound : TurnMet (ledger_of k s) → length rows'.slots.now ≡ room s → (totals' : Totals) → totals' ≡ more_ended s.totals r x → Sound k.LIFE rows' s.opened (s.month + 1) totals'
  turned_sound met long totals' counted =
      rw counted (
        (omega (arith, long, (parts s).roomy), rising_turned met.is_open),
        (omega (arith, all, (parts s).balance), bounded_turned s.month s.totals.entered (kept s.rows) (kept rows') (parts s).bounded, omega (arith, met.early)),
      )

  module _ (refunded : r ≡ refunds_in k (s.month + 1) (held s.rows)) (lost : x ≡ losses_in k (s.month + 1) (held s.rows)) where
    refunds_are : r ≡ refunds (kind_of k) (ledger_of k s)
    refunds_are = refunded ∙ refunds_rows k (s.month + 1) (held s.rows)

    losses_are : x ≡ losses (kind_of k) (ledger_of k s)
    losses_are = lost ∙ losses_rows k (s.month + 1) (held s.rows)

    pub turned_after : turn_refusal (ledger_of k s) ≡ None → (totals' : Totals) → totals' ≡ more_ended s.totals r x →
        read_off k rows' s.opened (s.month + 1) totals' ≡ leaves (machine (kind_of k)) turn (ledger_of k s)
    turned_after none totals' counted =
        let o = (turn_met (ledger_of k s) none).is_open in
        let a = refunds_are in
        let b = losses_are in
        let q = ap (map (reads k.term)) stay ∙ sym (kept_by_map (stays_in k.LIFE (s.month + 1)) (reads k.term) (held s.rows)) in
        let state : read_off k rows' s.opened (s.month + 1) totals' ≡ turning (kind_of k) (ledger_of k s) = simp (o, q, counted, a, b) in
        state ∙ ap (λ y. becomes y (turning (kind_of k) (ledger_of k s)) (ledger_of k s)) (sym none)

    pub turned_answer : turn_refusal (ledger_of k s) ≡ None → Ok (r, x) ≡ gives (machine (kind_of k)) turn (ledger_of k s)
    turned_answer none =
        let l = ledger_of k s in
        ap (λ z. Ok (z, x)) refunds_are ∙ ap (λ z. Ok (refunds (kind_of k) l, z)) losses_are ∙ ap (λ z. answers z (refunds (kind_of k) l, losses (kind_of k) l)) (sym none)
