-- A store after an accepted enter: one more row is in use.
use Rattle.std.proofs.Common.{◌≡◌, ℕ, ◌+◌, ◌-◌, ◌*◌, ◌<◌, ◌≤◌, true, false, List, [], ◌∷◌, ◌++◌, map, length, take, drop, set, None, sym, ap, subst, ◌∙◌, arith}
use Rattle.std.proofs.lemmas.List.{take_more_set, map_push, length-map, length-take-le, length-set, drop-set-lt}
use Rattle.portions.specs.declared.Slot.{Slot}
use Rattle.portions.specs.declared.Kind.{Ghosts}
use Rattle.portions.specs.Portions.{Portion, fresh}
use Rattle.portions.specs.Slots.{reads, plain}
use Rattle.portions.specs.Totals.{total_push}
use Rattle.histories.specs.Machines.{leaves, becomes}
use Rattle.ledger.specs.Calls.Call.{enter}
use Rattle.ledger.specs.Ledger.{has, left_in}
use Rattle.ledger.specs.Calls.{enter_refusal}
use Rattle.ledger.specs.Steps.{machine, entering}
use Rattle.ledger.proofs.Asked.{EnterMet}
use Rattle.store.specs.declared.Store.{Store}
use Rattle.store.specs.declared.rows.Rows.{Rows}
use Rattle.store.specs.declared.totals.Totals.{Totals}
use Rattle.store.specs.Held.{held, lent, room, in_use}
use Rattle.store.specs.Counting.{more_entered}
use Rattle.store.specs.Reading.{kind_of, ledger_of}
use Rattle.store.specs.Sound.{Sound, rises, due, kept, span}
use Rattle.store.specs.Exact.{kept_anew, Exact}
use Rattle.store.proofs.Rise.{rises_length, rises_free, rises_push, has_push, has_plain, open_span}
use Rattle.store.proofs.Parts.{parts}
use Rattle.store.proofs.Exact.{exact_push}
use Rattle.store.proofs.Read.{read_off}

due_push : {T : Type 0} (m a n : ℕ) (ps : List (Portion T)) (q : Portion T) → q.month ≡ m → a ≤ 100000000 → has m ps ≡ false →
    n ≤ 100000000 * due m ps → n + a ≤ 100000000 * due m (ps ++ q ∷ [])
due_push m a n ps q e s f b =
    let k = has_push m ps q e in
    let b' = simp f at b in
    simp k (omega arith)

module _ {K T : Type 0} {k : Ghosts K T} (s : Store K T k) (a : ℕ) (met : EnterMet a (ledger_of k s)) where
  free : has s.month (kept s.rows) ≡ false
  free = sym (has_plain k.term s.month (held s.rows)) ∙ met.free

  -- the open portions are of the months before
  before : rises (s.month + 1 - span k.LIFE s.opened) s.month (kept s.rows) ≡ true
  before = rises_free _ s.month (kept s.rows) (omega (arith, open_span s met.is_open)) (parts s).rising free

  -- so there are no more of them than the life has months
  pub in_life : in_use s ≤ k.LIFE
  in_life =
      omega (arith, rises_length _ s.month (kept s.rows) before, open_span s met.is_open, length-map (held s.rows) plain, length-take-le (in_use s) (lent s) s.rows.within)

  pub row_free : in_use s < room s
  row_free = omega (arith, in_life, (parts s).roomy, open_span s met.is_open)

  module _ (t : T) (row : Slot) (is : reads k.term row ≡ fresh s.month a t) (rows' : Rows) (written : rows'.slots.now ≡ set (lent s) (in_use s) row) (more : rows'.filled ≡ in_use s + 1) where
    push : {U : Type 0} (g : Slot → Portion U) → map g (held rows') ≡ map g (held s.rows) ++ g row ∷ []
    push g =
        ap (λ n. map g (take n rows'.slots.now)) more ∙ ap (λ ss. map g (take (in_use s + 1) ss)) written ∙ ap (map g) (take_more_set (lent s) (in_use s) row row_free) ∙
        map_push g (held s.rows) row

    pub entered_after : enter_refusal a (ledger_of k s) ≡ None → (totals' : Totals) → totals' ≡ more_entered s.totals a →
        read_off k rows' s.opened s.month totals' ≡ leaves (machine (kind_of k)) (enter a t) (ledger_of k s)
    entered_after none totals' counted =
        let o = met.is_open in
        let e = push (reads k.term) ∙ ap (λ p. map (reads k.term) (held s.rows) ++ p ∷ []) is in
        let state : read_off k rows' s.opened s.month totals' ≡ entering a t (ledger_of k s) = simp (o, e, counted) in
        state ∙ ap (λ x. becomes x (entering a t (ledger_of k s)) (ledger_of k s)) (sym none)

    -- the slots behind are not touched
    pub entered_rest : drop rows'.filled rows'.slots.now ≡ drop rows'.filled (lent s)
    entered_rest = subst (λ n. drop n rows'.slots.now ≡ drop n (lent s)) (sym more) (ap (drop (in_use s + 1)) written ∙ drop-set-lt (in_use s + 1) (lent s) (in_use s) row (omega arith))

    pub entered_room : length rows'.slots.now ≡ room s
    entered_room = ap length written ∙ length-set (lent s) (in_use s) row

    pub entered_clean : kept_anew k row ≡ row → Exact k (held rows')
    entered_clean exact =
        let e = ap (λ n. take n rows'.slots.now) more ∙ ap (take (in_use s + 1)) written ∙ take_more_set (lent s) (in_use s) row row_free in
        subst (Exact k) (sym e) (exact_push k (held s.rows) row s.clean exact)

    pub entered_sound : (totals' : Totals) → totals' ≡ more_entered s.totals a → Sound k.LIFE rows' s.opened s.month totals'
    entered_sound totals' counted =
        let e = push plain in
        let m : (plain row).month ≡ s.month = ap (λ p. p.month) is in
        let l : (plain row).left ≡ a = ap (λ p. p.left) is in
        let more_left = ap left_in e ∙ total_push (λ p. p.left) (kept s.rows) (plain row) in
        rw counted (
          (omega (arith, entered_room, (parts s).roomy), rw e (rises_push _ s.month (kept s.rows) (plain row) m before)),
          (omega (arith, more_left, l, (parts s).balance), rw e (due_push s.month a s.totals.entered (kept s.rows) (plain row) m met.small free (parts s).bounded), (parts s).dated),
        )
