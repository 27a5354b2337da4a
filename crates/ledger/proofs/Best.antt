-- Oldest first is best: the comparison with any other way, for the energy of any month and later.
use Rattle.std.proofs.Common.{◌≡◌, ℕ, ◌+◌, ◌-◌, ◌<◌, ◌≤◌, min, max, Bool, true, false, cond, ◌&&◌, eqb, ltb, leb, List, [], ◌∷◌, length, filter, sym, refl, ap, ◌∙◌, subst, arith}
use Rattle.std.proofs.lemmas.Bool.{leb-true}
use Rattle.std.proofs.lemmas.Bool.Decides.{nat_tests}
use Rattle.portions.specs.Sums.{total, sum}
use Rattle.portions.specs.Portions.{Portion, fresh}
use Rattle.portions.specs.Taking.{oldest}
use Rattle.portions.specs.Takes.{oldest_sum}
use Rattle.portions.specs.Totals.{total-++, total_parts}
use Rattle.ledger.specs.Kinds.{Kind, LawfulKind}
use Rattle.ledger.specs.Rules.{Draw}
use Rattle.ledger.specs.Ledger.{Ledger, left_in, lefts}
use Rattle.ledger.specs.Calls.Call.{open_for, enter, draw, turn}
use Rattle.ledger.specs.Steps.{machine, taking, takings, stays_in}
use Rattle.histories.proofs.Runs.{brought_there, Leads, holds}
use Rattle.ledger.specs.History.{History, Had, reached, entered, drew, turned}
use Rattle.ledger.specs.Totals.{Entered, Used, received}
use Rattle.ledger.specs.Told.{RisingFrom}
use Rattle.ledger.specs.Ways.{Way, over_months, taken, way_used, FairDraw, Fair, remains, way_run_out, way_left_from}
use Rattle.ledger.specs.Best.{WentOldestFirst, NoBetter}
use Rattle.ledger.specs.Service.{left_from}
use Rattle.ledger.proofs.Lists.{amounts_left_in, sum_lefts, UpTo, stays_gt}
use Rattle.ledger.proofs.Own.{received_sum, taken_sum}
use Rattle.ledger.proofs.Store.{counts, sound}
use Rattle.ledger.proofs.Sums.{sum_zero, sum_le, sum-+, sum_one}

-- The store's side.
module _ {T : Type 0} where
  -- what is left in the portions before month m
  abbrev left_below : ℕ → List (Portion T) → ℕ
  left_below m ps = total (λ (p : Portion T). cond (leb m p.month) 0 p.left) ps

  below_and_from : (m : ℕ) (ps : List (Portion T)) → left_in ps ≡ left_below m ps + left_from m ps
  below_and_from m ps =
      total_parts (λ (p : Portion T). p.left) (λ (p : Portion T). cond (leb m p.month) 0 p.left) (λ (p : Portion T). cond (leb m p.month) p.left 0) (λ p. grind (arith, nat_tests)) ps

  none_below : (m b : ℕ) (ps : List (Portion T)) → m ≤ b → RisingFrom b ps → left_below m ps ≡ 0
  none_below m b [] le r = refl
  none_below m b (p ∷ ps) le r =
      let low : m ≤ p.month = omega (arith, r.0) in
      let here : cond (leb m p.month) 0 p.left ≡ 0 = grind (arith, nat_tests) in
      omega (arith, here, none_below m (p.month + 1) ps (omega arith) r.1)

  none_from : (m n : ℕ) (ps : List (Portion T)) → n < m → UpTo n ps → left_from m ps ≡ 0
  none_from m n [] lt u = refl
  none_from m n (p ∷ ps) lt u =
      let high : p.month < m = omega (arith, u.0) in
      let here : cond (leb m p.month) p.left 0 ≡ 0 = grind (arith, nat_tests) in
      omega (arith, here, none_from m n ps lt u.1)

  -- oldest first takes from the portions of month m and later only what those before do not serve
  oldest_from : (m b w : ℕ) (ps : List (Portion T)) → RisingFrom b ps → left_from m (taking (oldest (amounts_left_in ps) w) ps) ≡ left_from m ps - (w - left_below m ps)
  oldest_from m b w [] r = omega arith
  oldest_from m b w (p ∷ ps) r = go (leb m p.month) refl (oldest_from m (p.month + 1) (w - p.left) ps r.1)
    where
      go : (t : Bool) → leb m p.month ≡ t → left_from m (taking (oldest (amounts_left_in ps) (w - p.left)) ps) ≡ left_from m ps - ((w - p.left) - left_below m ps) →
          cond t (p.left - min w p.left) 0 + left_from m (taking (oldest (amounts_left_in ps) (w - p.left)) ps) ≡ (cond t p.left 0 + left_from m ps) - (w - (cond t 0 p.left + left_below m ps))
      go true e ih = omega (arith, ih, none_below m (p.month + 1) ps (omega (arith, leb-true m p.month e)) r.1)
      go false e ih = omega (arith, ih)

  -- what a turn keeps of the portions of month m and later
  kept_from : (life m n : ℕ) (ps : List (Portion T)) → left_from (max m (n - life)) ps ≤ left_from m (filter (stays_in life n) ps)
  kept_from life m n [] = omega arith
  kept_from life m n (p ∷ ps) = go (stays_in life n p) refl (kept_from life m n ps)
    where
      go : (t : Bool) → stays_in life n p ≡ t → left_from (max m (n - life)) ps ≤ left_from m (filter (stays_in life n) ps) →
          cond (leb (max m (n - life)) p.month) p.left 0 + left_from (max m (n - life)) ps ≤ left_from m (cond t (p ∷ filter (stays_in life n) ps) (filter (stays_in life n) ps))
      go true e ih =
          let here : cond (leb (max m (n - life)) p.month) p.left 0 ≤ cond (leb m p.month) p.left 0 = grind (arith, nat_tests) in
          omega (arith, here, ih)
      go false e ih =
          let past : p.month + life < n = stays_gt (p.month + life) n e in
          let here : cond (leb (max m (n - life)) p.month) p.left 0 ≡ 0 = grind (arith, nat_tests) in
          omega (arith, here, ih)

-- The other way's side.
module _ {T : Type 0} (kind : Kind T) (m₀ : ℕ) (way : Way) where
  -- with nothing received, nothing is left
  way_left_none : (m : ℕ) → way_left_from kind m₀ way [] m ≤ 0
  way_left_none m =
      let zeros = sum_zero 1200 in
      let le = sum_le 1200 (λ k. cond (leb m k && leb m₀ (k + kind.life)) 0 0) (λ k. 0) (λ k. grind (arith, nat_tests)) in
      omega (arith, zeros, le)

  way_left_entered : (m amount : ℕ) (terms : T) (h : History T) → reached m₀ h < 1200 →
      way_left_from kind m₀ way (entered amount terms ∷ h) m ≤ way_left_from kind m₀ way h m + cond (leb m (reached m₀ h)) amount 0
  way_left_entered m amount terms h lt =
      let R : ℕ = reached m₀ h in
      let old : ℕ → ℕ = λ k. cond (leb m k && leb R (k + kind.life)) (remains m₀ way h k) 0 in
      let new : ℕ → ℕ = λ k. cond (eqb R k) (cond (leb m R) amount 0) 0 in
      let le = sum_le 1200 (λ k. cond (leb m k && leb R (k + kind.life)) (remains m₀ way (entered amount terms ∷ h) k) 0) (λ k. old k + new k) (λ k. grind (arith, nat_tests)) in
      omega (arith, le, sum-+ 1200 old new, sum_one 1200 R (cond (leb m R) amount 0) lt)

  module _ (d : Draw) (answer : ℕ) (h : History T) where
    abbrev way_left_drew : ℕ → ℕ
    way_left_drew m = way_left_from kind m₀ way (drew d answer ∷ h) m

    drew_less : (m : ℕ) → way_left_drew m ≤ way_left_from kind m₀ way h m
    drew_less m =
        sum_le 1200 (λ k. cond (leb m k && leb (reached m₀ h) (k + kind.life)) (received m₀ h k - (taken way h k + way (length h) k)) 0)
        (λ k. cond (leb m k && leb (reached m₀ h) (k + kind.life)) (remains m₀ way h k) 0) (λ k. grind (arith, nat_tests))

    drew_from : (m : ℕ) → way_left_drew m ≤ way_left_drew 0
    drew_from m =
        sum_le 1200 (λ k. cond (leb m k && leb (reached m₀ h) (k + kind.life)) (received m₀ h k - (taken way h k + way (length h) k)) 0)
        (λ k. cond (leb 0 k && leb (reached m₀ h) (k + kind.life)) (received m₀ h k - (taken way h k + way (length h) k)) 0) (λ k. grind (arith, nat_tests))

    drew_all : FairDraw kind m₀ h d.wanted (taken way h) (way (length h)) → way_left_drew 0 + over_months (way (length h)) ≤ way_left_from kind m₀ way h 0
    drew_all fair =
        let after : ℕ → ℕ = λ k. cond (leb 0 k && leb (reached m₀ h) (k + kind.life)) (received m₀ h k - (taken way h k + way (length h) k)) 0 in
        let le = sum_le 1200 (λ k. after k + way (length h) k) (λ k. cond (leb 0 k && leb (reached m₀ h) (k + kind.life)) (remains m₀ way h k) 0)
        (λ k.
        let within = fair.within_received k in
        let open' : 0 < way (length h) k → reached m₀ h ≤ k + kind.life = λ x. (fair.from_open k x).1 in
        grind (arith, nat_tests)) in
        omega (arith, le, sum-+ 1200 after (way (length h)))

  way_left_turned : (m refunded lost : ℕ) (h : History T) → way_left_from kind m₀ way (turned refunded lost ∷ h) m ≤ way_left_from kind m₀ way h (max m (reached m₀ h + 1 - kind.life))
  way_left_turned m refunded lost h =
      sum_le 1200 (λ k. cond (leb m k && leb (reached m₀ h + 1) (k + kind.life)) (remains m₀ way h k) 0)
      (λ k. cond (leb (max m (reached m₀ h + 1 - kind.life)) k && leb (reached m₀ h) (k + kind.life)) (remains m₀ way h k) 0) (λ k. grind (arith, nat_tests))

  -- what the way has used and has left from month m on is no more than the store's
  abbrev Behind : History T → Ledger T → Type 0
  Behind h s = WentOldestFirst kind m₀ h → Fair kind m₀ way h → (m : ℕ) → way_used way h + way_left_from kind m₀ way h m ≤ Used h + left_from m s.portions

  behind : Leads (machine kind) m₀ Behind
  behind (open_for slots month) _ h s a went fair m = absurd a.follows
  behind (enter amount terms) _ h s a went fair m =
      let ok = sound kind m₀ h s a.had in
      let way_more = way_left_entered m amount terms h (omega (arith, ok.month_is, ok.month_le)) in
      let more = total-++ (λ (p : Portion T). cond (leb m p.month) p.left 0) s.portions (fresh s.month amount terms ∷ []) in
      let same = ap (λ (n : ℕ). cond (leb m n) amount 0) ok.month_is in
      omega (arith, a.so went.1 fair.1 m, way_more, more, same)
  behind (draw d) answer h s a went fair m =
      let ih = a.so went.1 fair.1 in
      let ok = sound kind m₀ h s a.had in
      let gave = subst (λ x. takings d.rule d.wanted x ≡ oldest (lefts x) d.wanted) (brought_there (machine kind) m₀ h s a.had) went.0 in
      let took = a.told ∙ ap sum gave ∙ oldest_sum (lefts s) d.wanted in
      let goal : List ℕ → Type 0 = λ xs. way_used way (drew d answer ∷ h) + way_left_drew d answer h m ≤ Used h + answer + left_from m (taking xs s.portions) in
      subst goal (sym gave)
      (omega (
        arith,
        ih m,
        ih 0,
        took,
        sum_lefts s.portions,
        below_and_from m s.portions,
        below_and_from 0 s.portions,
        oldest_from m 0 d.wanted s.portions ok.rising,
        drew_less d answer h m,
        drew_from d answer h m,
        drew_all d answer h fair.0,
        fair.0.at_most_wanted,
      ))
  behind turn answer h s a went fair m =
      let ok = sound kind m₀ h s a.had in
      let n : ℕ = max m (reached m₀ h + 1 - kind.life) in
      let kept = kept_from kind.life m (s.month + 1) s.portions in
      let same = ap (λ (j : ℕ). left_from (max m (j + 1 - kind.life)) s.portions) ok.month_is in
      omega (arith, a.so went.1 fair.1 n, kept, same, way_left_turned m answer.0 answer.1 h)

  younger : (h : History T) (s : Ledger T) → Had kind m₀ h s → Behind h s
  younger = holds (machine kind) m₀ Behind (λ opens went fair m. omega (arith, way_left_none m)) behind (λ call fault h s so went fair. so went.1 fair.1)

  way_balance : (h : History T) (s : Ledger T) → Had kind m₀ h s → Entered h ≤ way_used way h + way_run_out kind m₀ way h + way_left_from kind m₀ way h 0
  way_balance h s had =
      let ended : ℕ → ℕ = λ k. cond (ltb (k + kind.life) (reached m₀ h)) (remains m₀ way h k) 0 in
      let open' : ℕ → ℕ = λ k. cond (leb 0 k && leb (reached m₀ h) (k + kind.life)) (remains m₀ way h k) 0 in
      let each = sum_le 1200 (received m₀ h) (λ k. (taken way h k + ended k) + open' k) (λ k. grind (arith, nat_tests)) in
      omega (arith, each, sum-+ 1200 (λ k. taken way h k + ended k) open', sum-+ 1200 (taken way h) ended, received_sum kind m₀ h s had, taken_sum way h)

module _ {T : Type 0} (kind : Kind T) (law : LawfulKind kind) (m₀ : ℕ) where
  pub oldest_best : (h : History T) (s : Ledger T) → Had kind m₀ h s → WentOldestFirst kind m₀ h → (way : Way) → Fair kind m₀ way h → NoBetter kind m₀ h way
  oldest_best h s had oldest' way fair =
      let best = younger kind m₀ way h s had oldest' fair in
      let ok = sound kind m₀ h s had in
      let c = counts kind law m₀ h s had in
      record {
        used_at_most = omega (arith, best 1200, none_from 1200 s.month s.portions (omega (arith, ok.month_le)) ok.up_to);
        run_out_at_least = omega (arith, best 0, below_and_from 0 s.portions, c.entered_is, c.used_is, c.refunded_is, c.lost_is, c.balance, way_balance kind m₀ way h s had);
      }
