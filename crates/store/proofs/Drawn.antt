-- Draws from rows: each portion less its taking.
use Rattle.std.proofs.Common.{◌≡◌, ℕ, suc, ◌+◌, ◌<◌, ◌≤◌, zero, true, false, cond, eqb, leb, List, [], ◌∷◌, map, length, get_or, take, set, None, Ok, sym, refl, ap, ◌∙◌, subst, arith}
use Rattle.std.proofs.lemmas.List.{get_or-map, length-map, length-take, map-set}
use Rattle.portions.specs.Sums.{sum}
use Rattle.portions.specs.declared.Slot.{Slot}
use Rattle.portions.specs.declared.Kind.{Ghosts}
use Rattle.portions.specs.Portions.{Portion, less}
use Rattle.portions.specs.Slots.{reads, plain}
use Rattle.portions.specs.Totals.{total_map}
use Rattle.histories.specs.Machines.{gives, leaves, answers, becomes}
use Rattle.ledger.specs.Calls.Call.{draw}
use Rattle.ledger.specs.Rules.{Rule, LawfulRule, by_rule}
use Rattle.ledger.specs.Ledger.{has, left_in, lefts}
use Rattle.ledger.specs.Calls.{draw_refusal}
use Rattle.ledger.specs.Steps.{machine, taking, takings, drawing}
use Rattle.ledger.proofs.Asked.{draw_met}
use Rattle.ledger.proofs.Store.{Few}
use Rattle.store.specs.declared.Store.{Store}
use Rattle.store.specs.declared.rows.Rows.{Rows}
use Rattle.store.specs.declared.totals.Totals.{Totals}
use Rattle.store.specs.Held.{held, room}
use Rattle.store.specs.Counting.{more_used}
use Rattle.store.specs.Reading.{kind_of, ledger_of}
use Rattle.store.specs.Sound.{Sound, rises, kept}
use Rattle.store.proofs.Rise.{has_plain}
use Rattle.store.proofs.Parts.{parts}
use Rattle.store.proofs.Read.{read_off}

-- one taking more
pub taking_more : {T : Type 0} (ns : List ℕ) (ps : List (Portion T)) (i : ℕ) (d : Portion T) → i < length ns → length ns ≡ length ps →
    taking (take (i + 1) ns) ps ≡ set (taking (take i ns) ps) i (less (get_or (taking (take i ns) ps) i d) (get_or ns i 0))
taking_more [] ps i d lt e = absurd (omega (arith, lt))
taking_more (n ∷ ns) [] i d lt e = absurd (omega (arith, e))
taking_more (n ∷ ns) (p ∷ ps) zero d lt e = refl
taking_more (n ∷ ns) (p ∷ ps) (suc i) d lt e =
    let r = taking_more ns ps i d (omega (arith, lt)) (omega (arith, e)) in
    let k : suc i + 1 ≡ suc (i + 1) = omega arith in
    rw k (ap (λ qs. less p n ∷ qs) r)

-- the rows after one taking more
pub drawn_more : {T : Type 0} (t : Slot → T) (xs rows : List Slot) (ns : List ℕ) (i : ℕ) (d row : Slot) → i < length ns → length ns ≡ length xs → length rows ≡ length xs →
    map (reads t) rows ≡ taking (take i ns) (map (reads t) xs) → reads t row ≡ less (reads t (get_or rows i d)) (get_or ns i 0) →
    map (reads t) (set rows i row) ≡ taking (take (i + 1) ns) (map (reads t) xs)
drawn_more t xs rows ns i d row lt sized same before is =
    map-set (reads t) rows i row ∙ ap (set (map (reads t) rows) i) (is ∙ ap (λ p. less p (get_or ns i 0)) (sym (get_or-map (reads t) rows i d (reads t d) (omega (arith, lt, sized, same))))) ∙
    ap (λ ps. set ps i (less (get_or ps i (reads t d)) (get_or ns i 0))) before ∙
    sym (taking_more ns (map (reads t) xs) i (reads t d) lt (sized ∙ sym (length-map xs (reads t))))

drawn_rises : {T : Type 0} (low end : ℕ) (ps : List (Portion T)) (ns : List ℕ) → rises low end (taking ns ps) ≡ rises low end ps
drawn_rises low end ps [] = refl
drawn_rises low end [] (n ∷ ns) = refl
drawn_rises low end (p ∷ ps) (n ∷ ns) = ap (λ b. cond (leb low p.month) b false) (drawn_rises (p.month + 1) end ps ns)

drawn_has : {T : Type 0} (m : ℕ) (ps : List (Portion T)) (ns : List ℕ) → has m (taking ns ps) ≡ has m ps
drawn_has m ps [] = refl
drawn_has m [] (n ∷ ns) = refl
drawn_has m (p ∷ ps) (n ∷ ns) = ap (λ b. cond (eqb p.month m) true b) (drawn_has m ps ns)

-- what was taken and what is left is what there was
drawn_left : {T : Type 0} (ps : List (Portion T)) (ns : List ℕ) → length ns ≡ length ps → ((i : ℕ) → get_or ns i 0 ≤ get_or (map (λ p. p.left) ps) i 0) →
    sum ns + left_in (taking ns ps) ≡ left_in ps
drawn_left [] [] e b = refl
drawn_left [] (n ∷ ns) e b = absurd (omega (arith, e))
drawn_left (p ∷ ps) [] e b = absurd (omega (arith, e))
drawn_left (p ∷ ps) (n ∷ ns) e b =
    let r = drawn_left ps ns (omega (arith, e)) (λ i. b (suc i)) in
    omega (arith, r, b 0)

-- whatever the terms, the rows have the same months and amounts
rises_plain : {T : Type 0} (t : Slot → T) (low end : ℕ) (ss : List Slot) → rises low end (map (reads t) ss) ≡ rises low end (map plain ss)
rises_plain t low end [] = refl
rises_plain t low end (s ∷ ss) = ap (λ b. cond (leb low s.month) b false) (rises_plain t (s.month + 1) end ss)

left_plain : {T : Type 0} (t : Slot → T) (ss : List Slot) → left_in (map (reads t) ss) ≡ left_in (map plain ss)
left_plain t ss = total_map (λ p. p.left) (reads t) ss ∙ sym (total_map (λ p. p.left) plain ss)

module _ {K T : Type 0} {k : Ghosts K T} (s : Store K T k) (rule : Rule) (law : LawfulRule rule) (w : ℕ) (ns : List ℕ) (gave : ns ≡ takings rule w (ledger_of k s)) where
  module _ (n : ℕ) (summed : n ≡ sum ns) (rows' : Rows) (front : map (reads k.term) (held rows') ≡ taking ns (map (reads k.term) (held s.rows))) where
    taken_all : n + left_in (kept rows') ≡ left_in (kept s.rows)
    taken_all =
        let ps = map (reads k.term) (held s.rows) in
        let few : Few (ledger_of k s) = omega (arith, length-map ps (λ p. p.left), length-map (held s.rows) (reads k.term), length-take s.rows.filled s.rows.slots.now, s.rows.few) in
        let sized = ap length gave ∙ law.sized s.month w (lefts (ledger_of k s)) few ∙ length-map ps (λ p. p.left) in
        let each : (i : ℕ) → get_or ns i 0 ≤ get_or (map (λ p. p.left) ps) i 0 = λ i. subst (λ zs. get_or zs i 0 ≤ get_or (map (λ p. p.left) ps) i 0) (sym gave) (law.bounded s.month w (lefts (ledger_of k s)) few i) in
        omega (arith, summed, drawn_left ps ns sized each, ap left_in front, left_plain k.term (held s.rows), left_plain k.term (held rows'))

    same_rises : (low end : ℕ) → rises low end (kept rows') ≡ rises low end (kept s.rows)
    same_rises low end =
        sym (rises_plain k.term low end (held rows')) ∙ ap (rises low end) front ∙ drawn_rises low end (map (reads k.term) (held s.rows)) ns ∙ rises_plain k.term low end (held s.rows)

    same_has : has s.month (kept rows') ≡ has s.month (kept s.rows)
    same_has =
        sym (has_plain k.term s.month (held rows')) ∙ ap (has s.month) front ∙ drawn_has s.month (map (reads k.term) (held s.rows)) ns ∙ has_plain k.term s.month (held s.rows)

    pub drawn_sound : length rows'.slots.now ≡ room s → (totals' : Totals) → totals' ≡ more_used s.totals n → Sound k.LIFE rows' s.opened s.month totals'
    drawn_sound long totals' counted =
        rw counted (
          (omega (arith, long, (parts s).roomy), same_rises _ _ ∙ (parts s).rising),
          (omega (arith, taken_all, (parts s).balance), omega (arith, ap (λ b. cond b (s.month + 1) s.month) same_has, (parts s).bounded), (parts s).dated),
        )

    -- where nothing refuses it, a draw takes what the rule gives
    pub drawn_answer : draw_refusal w (ledger_of k s) ≡ None → Ok n ≡ gives (machine (kind_of k)) (draw (by_rule rule w)) (ledger_of k s)
    drawn_answer none = ap Ok (summed ∙ ap sum gave) ∙ ap (λ x. answers x (sum (takings rule w (ledger_of k s)))) (sym none)

    pub drawn_after : draw_refusal w (ledger_of k s) ≡ None → (totals' : Totals) → totals' ≡ more_used s.totals n →
        read_off k rows' s.opened s.month totals' ≡ leaves (machine (kind_of k)) (draw (by_rule rule w)) (ledger_of k s)
    drawn_after none totals' counted =
        let l = ledger_of k s in
        let o = (draw_met w l none).is_open in
        let e = summed ∙ ap sum gave in
        let q = front ∙ ap (λ zs. taking zs (map (reads k.term) (held s.rows))) gave in
        let state : read_off k rows' s.opened s.month totals' ≡ drawing (takings rule w l) l = simp (o, q, counted, e) in
        state ∙ ap (λ x. becomes x (drawing (takings rule w l) l) l) (sym none)
