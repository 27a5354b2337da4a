-- What every metering account keeps from call to call, and that it keeps its promise.
use Rattle.std.proofs.Common.{◌≡◌, ◌≢◌, ℕ, zero, suc, ◌+◌, ◌-◌, ◌*◌, ◌/◌, ◌<◌, ◌≤◌, min, true, false, cond, Some, None, ◌⊎◌, List, [], ◌∷◌, ◌++◌, length, sym, refl, ap, ◌∙◌, subst, inl, inr, arith, length-append}
use Rattle.std.proofs.lemmas.List.{append-nil}
use Rattle.hours.specs.declared.sums.MonthSums.{MonthSums}
use Rattle.portions.specs.Sums.{total, sum}
use Rattle.histories.specs.Histories.{Always}
use Rattle.histories.proofs.Runs.{brought_there, Leads, holds}
use Rattle.ledger.specs.Kinds.{LawfulKind}
use Rattle.ledger.specs.Rules.{Rule, LawfulRule, by_rule}
use Rattle.ledger.specs.Ledger as ledger
use Rattle.ledger.specs.Ledger.{Ledger, left_in, lefts, has}
use Rattle.ledger.specs.Steps as store_steps
use Rattle.ledger.specs.Service.{taken_from}
use Rattle.ledger.specs.Told.{RisingFrom}
use Rattle.ledger.specs.Steps.{entering, takings, drawing, turning, refunds, losses}
use Rattle.ledger.specs.History as store
use Rattle.ledger.proofs.Store.{Few, few_open, few_lefts}
use Rattle.ledger.proofs.Store as stores
use Rattle.ledger.proofs.Lists.{within}
use Rattle.settlement.specs.declared.answers.Settlement.{Settlement}
use Rattle.settlement.specs.declared.states.MonthState.{MonthState}
use Rattle.settlement.specs.declared.states.MonthState.TheVariants.{Waiting, Entered, Settled}
use Rattle.hours.specs.declared.zones.Zone.{Zone}
use Rattle.hours.specs.declared.zones.Zone.TheVariants.{First, Second, Third}
use Rattle.settlement.specs.Zones.{of, each}
use Rattle.hours.specs.Zones.{zone_number}
use Rattle.settlement.specs.Kinds.{energy}
use Rattle.settlement.specs.Table.{ends, period_of}
use Rattle.settlement.specs.Bounds.{months_before, most_pending}
use Rattle.settlement.specs.Accounts.{Covering, refusal, machine}
use Rattle.settlement.specs.Accounts.Call.{open_for, enter, settle, turn}
use Rattle.settlement.specs.History.{History, Had, unsettled, reached, month_state, entered, settled, turned}
use Rattle.settlement.specs.Inside.{at, draws_on, store_calls}
use Rattle.settlement.specs.Coverings.{counted_for, covered_in, used_from, Emptied, Covered, Earned, InTurn, Lawful}
use Rattle.settlement.specs.Told.{takes_from, took, lines_for}
use Rattle.settlement.specs.Lines.{lines_of}
use Rattle.settlement.specs.declared.answers.Line.{Line}
use Rattle.settlement.specs.Refusals.{stands}
use Rattle.settlement.specs.Promises.{StoreKeeps, KeepsPromise}
use Rattle.settlement.specs.Metering.{MeterAccount, MeterOpening, Course, metering, opening, coefficient_for, or_monthly, split_by_zone, wanted, covered, taken, cover, covers, covering_at, coverings, own_stores, other_stores, outset, settled_course, entering_meter, settling_meter, turning_meter}
use Rattle.settlement.proofs.ByZone.{of_all, put_holds, put_either, of_each, of_each_two}
use Rattle.settlement.proofs.Cover.{coefficient_low, coefficient_high, wanted_serves, wanted_small, wanted_least, wanted_none, draw_sum, draw_left, Served, cover_rests, cover_serves, cover_keeps, In, through, every_pair, Ready, AllReady, all_ready, covers_length}
use Rattle.settlement.proofs.Decided.{decided}
use Rattle.settlement.specs.Decided.{Serves, SettlementsDecided}
use Rattle.settlement.proofs.Inside.{at_there}
use Rattle.settlement.proofs.Settled.{Shown, all_settled}
use Rattle.settlement.proofs.Turned.{turns_told}
use Rattle.settlement.proofs.Lines.{few_lines_of, Less, less_none, less_same, less_taking, lines_less, lines_sum}
use Rattle.settlement.proofs.Tables.{opens_in, enter_waits, settle_entered, turn_early, turn_from, before_few, before_more}
use Rattle.settlement.proofs.Rightly.{standing_is, all_rightly}
use Rattle.settlement.proofs.Openings.{opened_so, meter_opened, meter_refused}
use Rattle.settlement.proofs.Sums.{import_of, export_of, import_small, export_small}
use Rattle.settlement.proofs.Trace.{had_enter, had_draw, had_turn, turned_free}
use Rattle.settlement.proofs.Keeps.{store_keeps, account_best}

lawful : LawfulKind energy
lawful = record { life_from = omega arith; life_to = omega arith; refund_within = λ p. omega arith }

abbrev EnergyLedger : Type 0
EnergyLedger = Ledger (Unit {0})

abbrev Calls : Type 0
Calls = History MeterOpening Settlement

-- a settlement on its way: opened so, it began at a and has done these passes, by these coverings; each store has had their draws, and still has its month
pub record Steady (o : MeterOpening) (m : ℕ) (h : Calls) (rule : Rule) (a : MeterAccount) (done : List (Zone × Zone)) (course : Course) (ds : List (Covering Zone)) : Type 0 where
  pub had : (z : Zone) → store.Had energy o.month (draws_on metering z rule ds ++ store_calls metering o z h) (of z course.stores)
  pub months : (z : Zone) → (of z course.stores).month ≡ m
  pub few : (z : Zone) → of z course.rests ≤ 447000000
  pub rests_are : (z : Zone) → of z course.rests + covered_in metering z ds ≡ of z a.pending
  pub lefts_are : (z : Zone) → left_in (of z course.stores).portions + used_from metering z ds ≡ left_in (of z a.stores).portions
  pub risen : (z : Zone) → (of z course.stores).used ≡ (of z a.stores).used + used_from metering z ds
  pub less : (z : Zone) → Less (took metering o h rule z ds) (of z a.stores).portions (of z course.stores).portions
  pub served : (z from : Zone) → In z from done → Served z from course
  pub lawful : Always (Lawful metering o a) ds

within_covered : (rest v x : ℕ) → v ≤ rest → 10 * v ≤ x → v ≤ min rest (x / 10)
within_covered rest v x few paid = omega (arith, few, paid)

module _ (o : MeterOpening) (m : ℕ) (h : Calls) (rule : Rule) (law : LawfulRule rule) (a : MeterAccount) (c : ℕ) (low : 7 ≤ c) (high : c ≤ 8) (is : c ≡ coefficient_for o.power) where
  abbrev On : List (Zone × Zone) → Course → List (Covering Zone) → Type 0
  On done course ds = Steady o m h rule a done course ds

  few_at : (done : List (Zone × Zone)) (course : Course) (ds : List (Covering Zone)) → On done course ds → (z : Zone) → Few (of z course.stores)
  few_at done course ds st z = few_lefts energy lawful o.month (draws_on metering z rule ds ++ store_calls metering o z h) (of z course.stores) (st.had z)

  earned : (done : List (Zone × Zone)) (course : Course) (ds : List (Covering Zone)) → On done course ds → (zone from : Zone) → Earned metering o a ds (covering_at rule c zone from course)
  earned done course ds st zone from =
      let rest = of zone course.rests in
      let used = sum (taken rule c zone from course) in
      record {
        rest_is = st.rests_are zone;
        enough = subst (λ t. 10 * rest ≤ wanted c rest * t) is (wanted_serves c rest (omega arith));
        least = λ w le. wanted_least c rest w (omega arith) (subst (λ t. 10 * rest ≤ w * t) (sym is) le);
        used_is = omega (arith, draw_sum rule law (wanted c rest) (of from course.stores) (few_at done course ds st from), st.lefts_are from);
        within_rest = omega arith;
        paid_for = subst (λ t. 10 * covered c rest used ≤ used * t) is (omega arith);
        largest = λ v few paid. within_covered rest v (used * c) few (subst (λ t. 10 * v ≤ used * t) (sym is) paid);
      }

  in_turn : (done : List (Zone × Zone)) (course : Course) (ds : List (Covering Zone)) → On done course ds → (zone from : Zone) → Ready done zone from → 0 < sum (taken rule c zone from course) → InTurn metering a ds (covering_at rule c zone from course)
  in_turn done course ds st zone from ready some =
      let all = draw_sum rule law (wanted c (of zone course.rests)) (of from course.stores) (few_at done course ds st from) in
      let needs : 0 < of zone course.rests = wanted_none c (of zone course.rests) (omega arith) (omega (arith, all)) in
      let emptied : (k : Zone) → In zone k done → Emptied metering a ds k = λ k before. omega (arith, st.served zone k before needs, st.lefts_are k) in
      let met : (k : Zone) → In k from done → Covered metering a ds k = λ k before. covered_by (of k course.rests) (left_in (of from course.stores).portions) (st.served k from before) (omega (arith, all)) _ _ (st.rests_are k) in
      record { own_store_first = emptied zone ready.own; own_zone_first = met from ready.owner; lower_stores_first = λ k ne lt. emptied k (ready.stores k ne lt); lower_zones_first = λ k lt. met k (ready.zones k lt) }
    where
      covered_by : (rest left : ℕ) → (0 < rest → left ≡ 0) → 0 < left → (x y : ℕ) → rest + x ≡ y → x ≡ y
      covered_by zero left f pos x y e = omega (arith, e)
      covered_by (suc rest) left f pos x y e = absurd (omega (arith, f (omega arith)))

  steady_cover : (done : List (Zone × Zone)) (course : Course) (ds : List (Covering Zone)) (zone from : Zone) → (zone_number zone ≢ zone_number from → Ready done zone from) → On done course ds → On ((zone, from) ∷ done) (cover rule c zone from course) (covering_at rule c zone from course ∷ ds)
  steady_cover done course ds zone from ready st =
      let rest = of zone course.rests in
      let stock = of from course.stores in
      let takes = takings rule (wanted c rest) stock in
      let drawn = drawing takes stock in
      let few_here = few_at done course ds st from in
      let cut_by = draw_left rule law (wanted c rest) stock few_here in
      let now : Zone → store.History (Unit {0}) = λ z. draws_on metering z rule ds ++ store_calls metering o z h in
      let there = brought_there (store_steps.machine energy) o.month (now from) stock (st.had from) in
      let rising : (z : Zone) → RisingFrom 0 (of z course.stores).portions = λ z. (stores.sound energy o.month (now z) (of z course.stores) (st.had z)).rising in
      let before = (of from a.stores).portions in
      let so_far : Zone → ℕ → ℕ = λ z k. took metering o h rule z ds k in
      let less_here : Less (λ k. taken_from k takes stock.portions + so_far from k) before drawn.portions = less_taking (so_far from) 0 takes before stock.portions (rising from) (within law stock.month (lefts stock) (wanted c rest) few_here) (st.less from) in
      record {
        had = put_either (λ b z s. store.Had energy o.month (cond b (store.drew (by_rule rule (wanted c rest)) (sum takes) ∷ draws_on metering z rule ds) (draws_on metering z rule ds) ++ store_calls metering o z h) s) from drawn course.stores
            (had_draw energy o.month (now from) stock (st.had from) rule law (wanted c rest) (wanted_small c rest low high (st.few zone))) st.had;
        months = put_holds (λ z s. s.month ≡ m) from drawn course.stores (st.months from) st.months;
        few = λ z. omega (arith, cover_rests rule law c (omega arith) zone from course z, st.few z);
        rests_are = put_either (λ b z r. r + (cond b (covered c rest (sum takes)) 0 + covered_in metering z ds) ≡ of z a.pending) zone (rest - covered c rest (sum takes)) course.rests
            (omega (arith, st.rests_are zone)) (λ z. omega (arith, st.rests_are z));
        lefts_are = put_either (λ b z s. left_in s.portions + (cond b (sum takes) 0 + used_from metering z ds) ≡ left_in (of z a.stores).portions) from drawn course.stores
            (omega (arith, st.lefts_are from, cut_by)) (λ z. omega (arith, st.lefts_are z));
        risen = put_either (λ b z s. s.used ≡ (of z a.stores).used + (cond b (sum takes) 0 + used_from metering z ds)) from drawn course.stores
            (omega (arith, st.risen from)) (λ z. omega (arith, st.risen z));
        less = put_either (λ b z s. Less (λ k. cond b (takes_from metering rule (wanted c rest) (store.at energy o.month (now z)) k) 0 + so_far z k) (of z a.stores).portions s.portions) from drawn course.stores
            (subst (λ (s : EnergyLedger). Less (λ k. takes_from metering rule (wanted c rest) s k + so_far from k) before drawn.portions) (sym there) less_here)
            (λ z. less_same (so_far z) (λ k. 0 + so_far z k) 0 (λ k le. omega arith) (of z a.stores).portions (of z course.stores).portions (rising z) (st.less z));
        served = λ z k. served z k;
        lawful = (record { earned = earned done course ds st zone from; in_turn = λ ne some. in_turn done course ds st zone from (ready ne) some }, st.lawful);
      }
    where
      served : (z k : Zone) → In z k ((zone, from) ∷ done) → Served z k (cover rule c zone from course)
      served z k (inl e) = subst (λ x. Served z x (cover rule c zone from course)) e.1 (subst (λ x. Served x from (cover rule c zone from course)) e.0 (cover_serves rule law c (omega arith) zone from course (few_at done course ds st from)))
      served z k (inr more) = cover_keeps rule law c (omega arith) zone from course (few_at done course ds st from) z k (st.served z k more)

  steady_covers : (pairs done : List (Zone × Zone)) (course : Course) (ds : List (Covering Zone)) → AllReady done pairs → On done course ds → On (through done pairs) (covers rule c pairs course) (coverings rule c pairs course ds)
  steady_covers [] done course ds ready st = st
  steady_covers (pair ∷ pairs) done course ds ready st =
      steady_covers pairs (pair ∷ done) (cover rule c pair.0 pair.1 course) (covering_at rule c pair.0 pair.1 course ∷ ds) ready.1 (steady_cover done course ds pair.0 pair.1 ready.0 st)

module _ (o : MeterOpening) where
  abbrev month : MeterAccount → ℕ
  month a = a.stores.one.month

  pub record Sound (h : Calls) (a : MeterAccount) : Type 0 where
    pub coefficient_is : a.coefficient ≡ coefficient_for o.power
    pub is_open : a.opened ≡ true
    pub period_is : a.period ≡ or_monthly (period_of o.months)
    pub state_is : a.state ≡ month_state h
    pub month_is : month a ≡ reached o.month h
    pub months : (z : Zone) → (of z a.stores).month ≡ month a
    pub pending_is : (z : Zone) → of z a.pending ≡ unsettled (import_of z) h
    pub few : (z : Zone) → of z a.pending ≤ most_pending a.state a.period (month a)
    pub free : a.state ≡ Waiting → (z : Zone) → has (month a) (of z a.stores).portions ≡ false
    pub had : (z : Zone) → store.Had energy o.month (store_calls metering o z h) (of z a.stores)

  sound_open : 47 ≤ o.month → o.month ≤ 1199 → Sound [] (opening o)
  sound_open from to = record {
    coefficient_is = refl;
    is_open = refl;
    period_is = refl;
    state_is = refl;
    month_is = refl;
    months = λ z. ap (λ (s : EnergyLedger). s.month) (of_all z (ledger.opening o.month));
    pending_is = λ z. of_all z 0;
    few = λ z. omega (arith, of_all {X = ℕ} z 0);
    free = λ w z. subst (λ (s : EnergyLedger). has o.month s.portions ≡ false) (sym (of_all z (ledger.opening o.month))) refl;
    had = λ z. subst (store.Had energy o.month []) (sym (of_all z (ledger.opening o.month))) ((from, to), refl);
  }

  module _ (h : Calls) (a : MeterAccount) (here : at metering o h ≡ a) (ih : Sound h a) where
    -- what is pending in a state
    few_in : (z : Zone) (state : MonthState) → a.state ≡ state → of z a.pending ≤ most_pending state a.period (month a)
    few_in z state is = subst (λ (s : MonthState). of z a.pending ≤ most_pending s a.period (month a)) is (ih.few z)

    sound_enter : (sums : MonthSums) → a.state ≡ Waiting → Sound (entered sums ∷ h) (entering_meter sums a)
    sound_enter sums waits =
        let add : ℕ → ℕ → ℕ = ◌+◌ in
        let put_in : ℕ → EnergyLedger → EnergyLedger = λ amount store. entering amount tt store in
        let imports = split_by_zone sums.totals.import in
        let exports = split_by_zone sums.totals.export in
        record {
          coefficient_is = ih.coefficient_is;
          is_open = refl;
          period_is = ih.period_is;
          state_is = refl;
          month_is = ih.month_is;
          months = λ z. ap (λ (s : EnergyLedger). s.month) (of_each_two put_in z exports a.stores) ∙ ih.months z;
          pending_is = λ z. omega (arith, of_each_two add z a.pending imports, ih.pending_is z);
          few = λ z. omega (arith, of_each_two add z a.pending imports, few_in z Waiting waits, import_small z sums);
          free = λ w. let z : ◌≡◌ {A = ℕ} 0 1 = cc in absurd (omega arith);
          had = λ z.
              let free : has (of z a.stores).month (of z a.stores).portions ≡ false = subst (λ m. has m (of z a.stores).portions ≡ false) (sym (ih.months z)) (ih.free waits z) in
              subst (store.Had energy o.month (store.entered (export_of z sums) tt ∷ store_calls metering o z h)) (sym (of_each_two put_in z exports a.stores))
              (had_enter energy o.month (store_calls metering o z h) (of z a.stores) (ih.had z) (export_of z sums) tt (omega (arith, export_small z sums)) free);
        }

    few_in_all : a.state ≡ Entered → (z : Zone) → of z a.pending ≤ 447000000
    few_in_all is z = omega (arith, few_in z Entered is, before_few a.period (month a))

    module _ (rule : Rule) (law : LawfulRule rule) where
      -- how a settlement ends
      abbrev Ends : Type 0
      Ends = Steady o (month a) h rule a (through [] (own_stores ++ other_stores)) (settled_course rule a) (metering.coverings rule a)

      pub ends_so : a.state ≡ Entered → Ends
      ends_so is =
          let begin : Steady o (month a) h rule a [] (outset a) [] = record {
            had = ih.had;
            months = ih.months;
            few = few_in_all is;
            rests_are = λ z. omega arith;
            lefts_are = λ z. omega arith;
            risen = λ z. omega arith;
            less = λ z. less_none (of z a.stores).portions;
            served = λ z from before. absurd before;
            lawful = tt;
          } in
          let low : 7 ≤ a.coefficient = omega (arith, ih.coefficient_is, coefficient_low o.power) in
          let high : a.coefficient ≤ 8 = omega (arith, ih.coefficient_is, coefficient_high o.power) in
          steady_covers o (month a) h rule law a a.coefficient low high ih.coefficient_is (own_stores ++ other_stores) [] (outset a) [] all_ready begin

      sound_settle : (lines : ℕ) (answer : Settlement) → a.state ≡ Entered → Sound (settled rule lines answer ∷ h) (settling_meter rule a)
      sound_settle lines answer is =
          let st = ends_so is in
          record {
            coefficient_is = ih.coefficient_is;
            is_open = refl;
            period_is = ih.period_is;
            state_is = refl;
            month_is = st.months First ∙ ih.month_is;
            months = λ z. st.months z ∙ sym (st.months First);
            pending_is = λ z. of_all z 0;
            few = λ z. omega (arith, of_all {X = ℕ} z 0);
            free = λ w. let z : ◌≡◌ {A = ℕ} 0 1 = cc in absurd (omega arith);
            had = λ z. subst (λ x. store.Had energy o.month (draws_on metering z rule (metering.coverings rule x) ++ store_calls metering o z h) (of z (settled_course rule a).stores)) (sym here) (st.had z);
          }

    pending_turned : (z : Zone) → ((a.state ≡ Entered) × (ends a.period (month a) ≡ false)) ⊎ (a.state ≡ Settled) → of z a.pending ≤ 74500000 * months_before a.period (month a + 1)
    pending_turned z (inl e) = omega (arith, few_in z Entered e.0, before_more a.period (month a) e.1)
    pending_turned z (inr e) = omega (arith, few_in z Settled e)

    sound_turn : (refunded lost : ℕ) → month a < 1199 → ((a.state ≡ Entered) × (ends a.period (month a) ≡ false)) ⊎ (a.state ≡ Settled) → Sound (turned refunded lost ∷ h) (turning_meter a)
    sound_turn refunded lost early was = record {
      coefficient_is = ih.coefficient_is;
      is_open = refl;
      period_is = ih.period_is;
      state_is = refl;
      month_is = omega (arith, ih.month_is);
      months = λ z. ap (λ (s : EnergyLedger). s.month) (of_each (turning energy) z a.stores) ∙ ap (λ m. m + 1) (ih.months z);
      pending_is = ih.pending_is;
      few = λ z. pending_turned z was;
      free = λ w z.
          let new = turned_free energy o.month (store_calls metering o z h) (of z a.stores) (ih.had z) in
          subst (λ (s : EnergyLedger). has (month a + 1) s.portions ≡ false) (sym (of_each (turning energy) z a.stores))
          (subst (λ m. has (m + 1) (turning energy (of z a.stores)).portions ≡ false) (ih.months z) new);
      had = λ z.
          let calls = store_calls metering o z h in
          subst (λ x. store.Had energy o.month (store.turned (refunds energy (of z x.stores)) (losses energy (of z x.stores)) ∷ calls) (of z (each (turning energy) a.stores))) (sym here)
          (subst (store.Had energy o.month (store.turned (refunds energy (of z a.stores)) (losses energy (of z a.stores)) ∷ calls)) (sym (of_each (turning energy) z a.stores))
          (had_turn energy o.month calls (of z a.stores) (ih.had z) (omega (arith, ih.months z, early))));
    }

  sound_leads : Leads (machine metering) o Sound
  sound_leads (open_for opening) _ h a x = absurd x.follows
  sound_leads (enter sums) _ h a x = sound_enter h a (at_there metering o h a x.had) x.so sums (enter_waits metering a sums x.none)
  sound_leads (settle rule lines) answer h a x = sound_settle h a (at_there metering o h a x.had) x.so rule x.follows lines answer (settle_entered metering a rule lines x.none)
  sound_leads turn answer h a x = sound_turn h a (at_there metering o h a x.had) x.so answer.0 answer.1 (turn_early metering a x.none) (turn_from metering a x.none)

  pub sound : (h : Calls) (a : MeterAccount) → Had metering o h a → Sound h a
  sound = holds (machine metering) o Sound (λ opens. let met = opens_in o.slots o.month _ _ _ _ opens in sound_open met.0 met.1) sound_leads (λ call fault h a so. assumption)

-- how an accepted settlement ends
end_of : (o : MeterOpening) (h : Calls) (a : MeterAccount) (had : Had metering o h a) (rule : Rule) (law : LawfulRule rule) (lines : ℕ) → refusal metering (settle rule lines) a ≡ None → Ends o h a (at_there metering o h a had) (sound o h a had) rule law
end_of o h a had rule law lines none = ends_so o h a (at_there metering o h a had) (sound o h a had) rule law (settle_entered metering a rule lines none)

abbrev cut : ℕ → ℕ → ℕ
cut p rest = p - rest

ap_three : {a b c x y z : List Line} → a ≡ x → b ≡ y → c ≡ z → a ++ (b ++ c) ≡ x ++ (y ++ (z ++ []))
ap_three {z} e f g = let h = append-nil z in cc

-- a figure counted for each zone is counted once
counted_once : (zone : Zone) (n : ℕ) → counted_for metering First zone n + (counted_for metering Second zone n + counted_for metering Third zone n) ≡ n
counted_once First n = omega arith
counted_once Second n = omega arith
counted_once Third n = omega arith

used_in_all : (zone_of : Covering Zone → Zone) (ds : List (Covering Zone)) → total (λ z. total (λ d. counted_for metering z (zone_of d) d.used) ds) metering.zones ≡ total (λ d. d.used) ds
used_in_all zone_of [] = refl
used_in_all zone_of (d ∷ ds) = omega (arith, counted_once (zone_of d) d.used, used_in_all zone_of ds)

shown : (o : MeterOpening) (h : Calls) (a : MeterAccount) → Had metering o h a → (rule : Rule) → LawfulRule rule → (lines : ℕ) → refusal metering (settle rule lines) a ≡ None → Shown metering o h a rule
shown o h a had rule law lines none =
    let st = end_of o h a had rule law lines none in
    let end = settled_course rule a in
    let ds = metering.coverings rule a in
    let f : Zone → List Line = lines_for metering o h a rule in
    let lines : (z : Zone) → lines_of (Some z) (lefts (of z a.stores)) (of z end.stores).portions ≡ f z = λ z. lines_less (Some z) (took metering o h rule z ds) (of z a.stores).portions (of z end.stores).portions (st.less z) in
    record {
      lawful = st.lawful;
      covered_is = λ z. omega (arith, of_each_two cut z a.pending end.rests, st.rests_are z);
      due_is = λ z. omega (arith, of_each_two cut z a.pending end.rests, st.rests_are z);
      due_only_when_empty = λ z short from. st.served z from (every_pair z from) short;
      risen = st.risen;
      for_zones = used_in_all (λ d. d.zone) ds ∙ sym (used_in_all (λ d. d.from) ds);
      lines = record {
        told = ap_three (lines First) (lines Second) (lines Third);
        counted = refl;
        add_up = λ z. omega (arith, lines_sum (Some z) (took metering o h rule z ds) (of z a.stores).portions (of z end.stores).portions (st.less z), st.lefts_are z);
      };
    }

-- the settlement's own coverings serve the account, and it does as any that do
pub meter_decided : SettlementsDecided metering
meter_decided o h a had rule law lines none =
    let st = end_of o h a had rule law lines none in
    let done = shown o h a had rule law lines none in
    let own : Serves metering o a (metering.coverings rule a) = record { lawful = st.lawful; complete = λ k less from. omega (arith, st.served k from (every_pair k from) (omega (arith, less, st.rests_are k)), st.lefts_are from) } in
    record {
      own = own;
      any = λ ds serves.
          let same = decided o a (metering.coverings rule a) ds own serves in
          record { covered_is = λ z. done.covered_is z ∙ (same z).0; due_is = λ z. omega (arith, done.covered_is z, done.due_is z, (same z).0); risen = λ z. omega (arith, done.risen z, (same z).1) };
    }

-- the account stands where its calls have brought it
told : (o : MeterOpening) (h : Calls) (a : MeterAccount) → Had metering o h a → metering.standing a ≡ stands metering o h
told o h a had =
    let s = sound o h a had in
    let period = ap (λ p. ends p a.stores.one.month) s.period_is ∙ ap (ends (or_monthly (period_of o.months))) s.month_is in
    standing_is _ _ _ _ _ _ _ s.is_open s.state_is s.month_is ∙ ap (λ e. record { opened = true; month = reached o.month h; state = month_state h; ends = e }) period

pub metering_keeps : KeepsPromise metering
metering_keeps o h a had =
    let s = sound o h a had in
    let stores : (z : Zone) → StoreKeeps metering o h a z (store_calls metering o z h) = λ z. store_keeps metering lawful o h a z (s.had z) in
    let turned = turns_told metering (λ a. omega arith) (λ a. omega arith) o h a had in
    record {
      had = had;
      opened_rightly = meter_opened o (opened_so metering o h a had);
      standing_told = told o h a had;
      rightly = all_rightly metering told meter_refused o h a had;
      pending_told = s.pending_is;
      stores = stores;
      settled = all_settled metering (λ o h a had. (sound o h a had).pending_is) shown o h a had;
      turns_told = turned;
      best = account_best metering o h a stores turned;
      few_lines = λ rule.
          let end = settled_course rule a in
          let few : (z : Zone) → length (of z end.stores).portions ≤ 13 = λ z. omega (arith, few_open energy o.month (store_calls metering o z h) (of z a.stores) (s.had z), covers_length rule a.coefficient (own_stores ++ other_stores) (outset a) z) in
          let one = few_lines_of (Some First) (lefts a.stores.one) end.stores.one.portions in
          let two = few_lines_of (Some Second) (lefts a.stores.two) end.stores.two.portions in
          let three = few_lines_of (Some Third) (lefts a.stores.three) end.stores.three.portions in
          simp length-append (omega (arith, few First, few Second, few Third, one, two, three));
    }
