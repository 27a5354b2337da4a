-- The store's own service is a fair way.
use Rattle.std.proofs.Common.{◌≡◌, ℕ, ◌+◌, ◌-◌, ◌<◌, ◌≤◌, Bool, true, false, cond, ◌&&◌, eqb, ltb, leb, List, [], ◌∷◌, length, filter, refl, ◌∙◌, subst, inl, inr, arith}
use Rattle.std.proofs.lemmas.Bool.{eqb-true}
use Rattle.std.proofs.lemmas.Bool.Decides.{nat_tests}
use Rattle.portions.specs.Sums.{total, sum}
use Rattle.portions.specs.Portions.{Portion, fresh}
use Rattle.portions.specs.Totals.{total-++}
use Rattle.ledger.specs.Kinds.{Kind, LawfulKind}
use Rattle.ledger.specs.Rules.{Rule, Draw, LawfulRule}
use Rattle.ledger.specs.Ledger.{Ledger, left_in, lefts}
use Rattle.ledger.specs.Calls.Call.{open_for, enter, draw, turn}
use Rattle.ledger.specs.Steps.{machine, taking, takings, stays_in}
use Rattle.ledger.specs.History.{History, Had, at, reached, entered, drew}
use Rattle.ledger.specs.Totals.{Entered, Used, Refunded, Lost, received}
use Rattle.ledger.specs.Told.{Tells}
use Rattle.ledger.specs.Ways.{Way, over_months, taken, way_used, Fair, remains, way_run_out, way_left_from}
use Rattle.ledger.specs.Service.{taken_from, Own, left_from, ServesFairly}
use Rattle.histories.proofs.Runs.{brought_there, Leads, holds}
use Rattle.ledger.proofs.Lists.{Within, within, amounts_left_in, UpTo, stays_le, stays_gt}
use Rattle.ledger.proofs.Store.{few_lefts, counts, sound, exact}
use Rattle.ledger.proofs.Sums.{sum_zero, sum_same, sum-+, sum_one}

module _ {T : Type 0} where
  -- what is left in the portion of month k
  abbrev left_at : ℕ → List (Portion T) → ℕ
  left_at k ps = total (λ (p : Portion T). cond (eqb p.month k) p.left 0) ps

  left_at_taking : (k : ℕ) (xs : List ℕ) (ps : List (Portion T)) → Within xs (amounts_left_in ps) → left_at k (taking xs ps) + taken_from k xs ps ≡ left_at k ps
  left_at_taking k [] [] w = omega arith
  left_at_taking k [] (p ∷ ps) w = absurd w
  left_at_taking k (x ∷ xs) [] w = absurd w
  left_at_taking k (x ∷ xs) (p ∷ ps) w =
      let le = w.0 in
      let here : cond (eqb p.month k) (p.left - x) 0 + cond (eqb p.month k) x 0 ≡ cond (eqb p.month k) p.left 0 = grind (arith, nat_tests) in
      omega (arith, here, left_at_taking k xs ps w.1)

  left_at_kept : (life k n : ℕ) (ps : List (Portion T)) → left_at k (filter (stays_in life n) ps) ≡ cond (leb n (k + life)) (left_at k ps) 0
  left_at_kept life k n [] = grind (arith, nat_tests)
  left_at_kept life k n (p ∷ ps) = go (stays_in life n p) refl (left_at_kept life k n ps)
    where
      go : (t : Bool) → stays_in life n p ≡ t → left_at k (filter (stays_in life n) ps) ≡ cond (leb n (k + life)) (left_at k ps) 0 →
          left_at k (cond t (p ∷ filter (stays_in life n) ps) (filter (stays_in life n) ps)) ≡ cond (leb n (k + life)) (cond (eqb p.month k) p.left 0 + left_at k ps) 0
      go true e ih =
          let in' : n ≤ p.month + life = stays_le (p.month + life) n e in
          let rest : ℕ = left_at k ps in
          let here : cond (eqb p.month k) p.left 0 + cond (leb n (k + life)) rest 0 ≡ cond (leb n (k + life)) (cond (eqb p.month k) p.left 0 + rest) 0 = grind (arith, nat_tests) in
          omega (arith, here, ih)
      go false e ih =
          let past : p.month + life < n = stays_gt (p.month + life) n e in
          let rest : ℕ = left_at k ps in
          let here : cond (leb n (k + life)) rest 0 ≡ cond (leb n (k + life)) (cond (eqb p.month k) p.left 0 + rest) 0 = grind (arith, nat_tests) in
          ih ∙ here

  -- over all months
  sum_taken_from : (xs : List ℕ) (ps : List (Portion T)) → Within xs (amounts_left_in ps) → (n : ℕ) → n < 1200 → UpTo n ps → over_months (λ k. taken_from k xs ps) ≡ sum xs
  sum_taken_from [] [] w n lt u = sum_zero 1200
  sum_taken_from [] (p ∷ ps) w n lt u = absurd w
  sum_taken_from (x ∷ xs) [] w n lt u = absurd w
  sum_taken_from (x ∷ xs) (p ∷ ps) w n lt u =
      omega (arith, sum-+ 1200 (λ k. cond (eqb p.month k) x 0) (λ k. taken_from k xs ps), sum_one 1200 p.month x (omega (arith, u.0)), sum_taken_from xs ps w.1 n lt u.1)

  sum_left_at : (m : ℕ) (ps : List (Portion T)) (n : ℕ) → n < 1200 → UpTo n ps → over_months (λ k. cond (leb m k) (left_at k ps) 0) ≡ left_from m ps
  sum_left_at m [] n lt u = sum_same 1200 (λ k. cond (leb m k) 0 0) (λ k. 0) (λ k. grind (arith, nat_tests)) ∙ sum_zero 1200
  sum_left_at m (p ∷ ps) n lt u =
      let first : ℕ → ℕ = λ k. cond (eqb p.month k) (cond (leb m p.month) p.left 0) 0 in
      let others : ℕ → ℕ = λ k. cond (leb m k) (left_at k ps) 0 in
      let each = sum_same 1200 (λ k. cond (leb m k) (cond (eqb p.month k) p.left 0 + left_at k ps) 0) (λ k. first k + others k)
      (λ k. let rest : ℕ = left_at k ps in grind (arith, nat_tests)) in
      omega (arith, each, sum-+ 1200 first others, sum_one 1200 p.month (cond (leb m p.month) p.left 0) (omega (arith, u.0)), sum_left_at m ps n lt u.1)

  -- takings come from portions that are told
  from_told : (k : ℕ) (xs : List ℕ) (ps : List (Portion T)) → 0 < taken_from k xs ps → (a : ℕ) × (t : T) × Tells ps k a t
  from_told k [] ps lt = absurd (omega arith)
  from_told k (x ∷ xs) [] lt = absurd (omega arith)
  from_told k (x ∷ xs) (p ∷ ps) lt = go (eqb p.month k) refl lt (λ l. from_told k xs ps l)
    where
      go : (b : Bool) → eqb p.month k ≡ b → 0 < cond b x 0 + taken_from k xs ps → (0 < taken_from k xs ps → (a : ℕ) × (t : T) × Tells ps k a t) → (a : ℕ) × (t : T) × Tells (p ∷ ps) k a t
      go true e l rest = (p.entered, p.terms, inl (eqb-true p.month k e, refl, refl))
      go false e l rest = let r = rest (omega arith) in (r.0, r.1, inr r.2)

-- what a way took from the portions of all months is what it used
pub taken_sum : {T : Type 0} (way : Way) (h : History T) → over_months (taken way h) ≡ way_used way h
taken_sum way [] = sum_zero 1200
taken_sum way (drew d answer ∷ h) = omega (arith, taken_sum way h, sum-+ 1200 (taken way h) (way (length h)))
taken_sum way (_ ∷ h) = taken_sum way h

module _ {T : Type 0} (kind : Kind T) (m₀ : ℕ) where
  -- a way is the store's own if it agrees with one at the places of the history
  own_like : (v w : Way) (h : History T) → ((n : ℕ) → n < length h → (k : ℕ) → w n k ≡ v n k) → Own kind m₀ v h → Own kind m₀ w h
  own_like v w [] same own = tt
  own_like v w (drew d answer ∷ h) same own =
      (λ k. same (length h) (omega arith) k ∙ own.0 k, own_like v w h (λ n lt k. same n (omega (arith, lt)) k) own.1)
  own_like v w (_ ∷ h) same own = (tt, own_like v w h (λ n lt k. same n (omega (arith, lt)) k) own.1)

  pub own_exists : (h : History T) → (way : Way) × Own kind m₀ way h
  own_exists [] = ((λ n k. 0), tt)
  own_exists (drew d answer ∷ h) =
      let ih = own_exists h in
      let was : Ledger T = at kind m₀ h in
      let here : ℕ → ℕ = λ k. taken_from k (takings d.rule d.wanted was) was.portions in
      let way : Way = λ n k. cond (eqb n (length h)) (here k) (ih.0 n k) in (
        way,
        (
          (λ k. let z : ℕ = here k in let now : cond (eqb (length h) (length h)) z (ih.0 (length h) k) ≡ z = grind (arith, nat_tests) in now),
          own_like ih.0 way h (λ n lt k. let z : ℕ = here k in let old : cond (eqb n (length h)) z (ih.0 n k) ≡ ih.0 n k = grind (arith, nat_tests) in old) ih.1,
        ),
      )
  own_exists (_ ∷ h) = let ih = own_exists h in (ih.0, (tt, ih.1))

  -- what the portions of all months received is what was entered
  pub received_sum : (h : History T) (s : Ledger T) → Had kind m₀ h s → over_months (received m₀ h) ≡ Entered h
  received_sum [] s had = sum_zero 1200
  received_sum (entered amount terms ∷ h) s had =
      let ok = sound kind m₀ h had.0 had.1 in
      let one = sum_one 1200 (reached m₀ h) amount (omega (arith, ok.month_is, ok.month_le)) in
      let both = sum-+ 1200 (received m₀ h) (λ k. cond (eqb (reached m₀ h) k) amount 0) in
      omega (arith, received_sum h had.0 had.1, one, both)
  received_sum (_ ∷ h) s had = received_sum h had.0 had.1

  module _ (law : LawfulKind kind) (way : Way) where
    -- what the way leaves of an open portion is what the store tells as left
    pub record Leaves (h : History T) (s : Ledger T) (k : ℕ) : Type 0 where
      pub in_all : taken way h k ≤ received m₀ h k
      pub open_left : cond (leb (reached m₀ h) (k + kind.life)) (remains m₀ way h k) 0 ≡ left_at k s.portions

    -- in a draw the way takes what the rule gave, where the store stood
    own_there : (h : History T) (s : Ledger T) → Had kind m₀ h s → (d : Draw) → ((k : ℕ) → way (length h) k ≡ taken_from k (takings d.rule d.wanted (at kind m₀ h)) (at kind m₀ h).portions) →
        (k : ℕ) → way (length h) k ≡ taken_from k (takings d.rule d.wanted s) s.portions
    own_there h s had d gave = subst (λ x. (k : ℕ) → way (length h) k ≡ taken_from k (takings d.rule d.wanted x) x.portions) (brought_there (machine kind) m₀ h s had) gave

    leaves_lead : (k : ℕ) → Leads (machine kind) m₀ (λ h s. Own kind m₀ way h → Leaves h s k)
    leaves_lead k (open_for slots month) _ h s a own = absurd a.follows
    leaves_lead k (enter amount terms) _ h s a own =
        let ih = a.so own.1 in
        let le = ih.in_all in
        let eq = ih.open_left in
        let month = (sound kind m₀ h s a.had).month_is in
        let more = total-++ (λ (p : Portion T). cond (eqb p.month k) p.left 0) s.portions (fresh s.month amount terms ∷ []) in
        record { in_all = omega (arith, le); open_left = grind (arith, nat_tests) }
    leaves_lead k (draw d) _ h s a own =
        let ih = a.so own.1 in
        let le = ih.in_all in
        let eq = ih.open_left in
        let gave = own_there h s a.had d own.0 k in
        let less = left_at_taking k (takings d.rule d.wanted s) s.portions (within a.follows s.month (lefts s) d.wanted (few_lefts kind law m₀ h s a.had)) in
        record { in_all = grind (arith, nat_tests); open_left = grind (arith, nat_tests) }
    leaves_lead k turn _ h s a own =
        let ih = a.so own.1 in
        let le = ih.in_all in
        let eq = ih.open_left in
        let month = (sound kind m₀ h s a.had).month_is in
        let kept = left_at_kept kind.life k (s.month + 1) s.portions in
        record { in_all = le; open_left = grind (arith, nat_tests) }

    leaves : (h : History T) (s : Ledger T) → Had kind m₀ h s → Own kind m₀ way h → (k : ℕ) → Leaves h s k
    leaves h s had own k =
        holds (machine kind) m₀ (λ h s. Own kind m₀ way h → Leaves h s k) (λ opens own. record { in_all = omega arith; open_left = grind (arith, nat_tests) })
        (leaves_lead k) (λ call fault h s so own. let was = so own.1 in assumption) h s had own

    own_draw : (rule : Rule) → LawfulRule rule → (wanted : ℕ) (h : History T) (s : Ledger T) → Had kind m₀ h s → Own kind m₀ way h →
        ((k : ℕ) → way (length h) k ≡ taken_from k (takings rule wanted s) s.portions) → over_months (way (length h)) ≡ sum (takings rule wanted s)
    own_draw rule lawful wanted h s had own gave =
        let ok = sound kind m₀ h s had in
        sum_same 1200 (way (length h)) (λ k. taken_from k (takings rule wanted s) s.portions) gave
        ∙ sum_taken_from (takings rule wanted s) s.portions (within lawful s.month (lefts s) wanted (few_lefts kind law m₀ h s had)) s.month (omega (arith, ok.month_le)) ok.up_to

    own_fair : (h : History T) (s : Ledger T) → Had kind m₀ h s → Own kind m₀ way h → Fair kind m₀ way h
    own_fair [] s had own = tt
    own_fair (drew d answer ∷ h) s had own =
        let was = had.0 in
        let gave = own_there h was had.1 d own.0 in (
          record {
            at_most_wanted = omega (arith, own_draw d.rule had.2.3 d.wanted h was had.1 own.1 gave, had.2.3.full was.month d.wanted (lefts was) (few_lefts kind law m₀ h was had.1));
            from_open = λ k lt.
                let told = from_told k (takings d.rule d.wanted was) was.portions (omega (arith, lt, gave k)) in
                let e = (exact kind m₀ h was had.1 k told.0 told.1).only told.2 in
                ((told.0, told.1, e.0), e.1);
            within_received = λ k. (leaves (drew d answer ∷ h) s had own k).in_all;
          },
          own_fair h was had.1 own.1,
        )
    own_fair (_ ∷ h) s had own = (tt, own_fair h had.0 had.1 own.1)

    own_used : (h : History T) (s : Ledger T) → Had kind m₀ h s → Own kind m₀ way h → way_used way h ≡ Used h
    own_used [] s had own = refl
    own_used (drew d answer ∷ h) s had own =
        omega (arith, own_used h had.0 had.1 own.1, own_draw d.rule had.2.3 d.wanted h had.0 had.1 own.1 (own_there h had.0 had.1 d own.0), had.2.1)
    own_used (_ ∷ h) s had own = own_used h had.0 had.1 own.1

    own_left : (h : History T) (s : Ledger T) → Had kind m₀ h s → Own kind m₀ way h → (m : ℕ) → way_left_from kind m₀ way h m ≡ left_from m s.portions
    own_left h s had own m =
        let ok = sound kind m₀ h s had in
        sum_same 1200 (λ k. cond (leb m k && leb (reached m₀ h) (k + kind.life)) (remains m₀ way h k) 0) (λ k. cond (leb m k) (left_at k s.portions) 0)
        (λ k.
        let eq = (leaves h s had own k).open_left in
        let in' : ℕ = left_at k s.portions in
        let at : cond (leb (reached m₀ h) (k + kind.life)) (remains m₀ way h k) 0 ≡ in' = eq in
        let goal : cond (leb m k && leb (reached m₀ h) (k + kind.life)) (remains m₀ way h k) 0 ≡ cond (leb m k) in' 0 = grind (arith, nat_tests) in goal)
        ∙ sum_left_at m s.portions s.month (omega (arith, ok.month_le)) ok.up_to

    own_run_out : (h : History T) (s : Ledger T) → Had kind m₀ h s → Own kind m₀ way h → way_run_out kind m₀ way h ≡ Refunded h + Lost h
    own_run_out h s had own =
        let ended : ℕ → ℕ = λ k. cond (ltb (k + kind.life) (reached m₀ h)) (remains m₀ way h k) 0 in
        let open' : ℕ → ℕ = λ k. cond (leb 0 k && leb (reached m₀ h) (k + kind.life)) (remains m₀ way h k) 0 in
        let each = sum_same 1200 (received m₀ h) (λ k. (taken way h k + ended k) + open' k) (λ k. let le = (leaves h s had own k).in_all in grind (arith, nat_tests)) in
        let c = counts kind law m₀ h s had in
        let whole = sum_left_at 0 s.portions s.month (omega (arith, (sound kind m₀ h s had).month_le)) (sound kind m₀ h s had).up_to in
        omega (
          arith,
          each,
          sum-+ 1200 (λ k. taken way h k + ended k) open',
          sum-+ 1200 (taken way h) ended,
          received_sum h s had,
          taken_sum way h,
          own_used h s had own,
          own_left h s had own 0,
          all_from s.portions,
          c.entered_is,
          c.used_is,
          c.refunded_is,
          c.lost_is,
          c.balance,
        )
      where
        all_from : (ps : List (Portion T)) → left_from 0 ps ≡ left_in ps
        all_from [] = refl
        all_from (p ∷ ps) = let here : cond (leb 0 p.month) p.left 0 ≡ p.left = grind (arith, nat_tests) in omega (arith, here, all_from ps)

module _ {T : Type 0} (kind : Kind T) (law : LawfulKind kind) (m₀ : ℕ) where
  pub serves_fairly : (h : History T) (s : Ledger T) → Had kind m₀ h s → (way : Way) → Own kind m₀ way h → ServesFairly kind m₀ h s way
  serves_fairly h s had way own = record {
    fair = own_fair kind m₀ law way h s had own;
    same_used = own_used kind m₀ law way h s had own;
    same_run_out = own_run_out kind m₀ law way h s had own;
    same_left = λ m. own_left kind m₀ law way h s had own m;
  }
