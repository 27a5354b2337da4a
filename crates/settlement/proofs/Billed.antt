-- What every billing account keeps from call to call, and that it keeps its promise.
use Rattle.std.proofs.Common.{◌≡◌, ℕ, ◌+◌, ◌∙◌, ◌<◌, ◌≤◌, true, false, None, ◌⊎◌, List, [], ◌∷◌, ◌++◌, sym, refl, subst, inl, inr, arith}
use Rattle.std.proofs.lemmas.List.{append-nil}
use Rattle.hours.specs.declared.sums.MonthSums.{MonthSums}
use Rattle.portions.specs.Sums.{sum}
use Rattle.std.proofs.lemmas.Bool.{cases_lt}
use Rattle.histories.specs.Histories.{Always}
use Rattle.histories.proofs.Runs.{brought_there, Begins, Leads, holds}
use Rattle.ledger.specs.Kinds.{LawfulKind}
use Rattle.ledger.specs.Rules.{Rule, LawfulRule}
use Rattle.ledger.specs.Ledger.{Ledger, left_in, lefts, has}
use Rattle.ledger.specs.Steps as store_steps
use Rattle.ledger.specs.Service.{taken_from}
use Rattle.ledger.specs.Steps.{taking, entering, drawing, turning, refunds, losses}
use Rattle.ledger.specs.History as store
use Rattle.ledger.proofs.Store.{few_open, few_lefts}
use Rattle.ledger.proofs.Store as stores
use Rattle.ledger.proofs.Lists.{within}
use Rattle.settlement.specs.declared.answers.Payment.{Payment}
use Rattle.settlement.specs.declared.states.MonthState.{MonthState}
use Rattle.settlement.specs.declared.states.MonthState.TheVariants.{Waiting, Entered, Settled}
use Rattle.settlement.specs.Kinds.{deposit}
use Rattle.settlement.specs.Accounts.{Covering, refusal, machine}
use Rattle.settlement.specs.Accounts.Call.{open_for, enter, settle, turn}
use Rattle.settlement.specs.History.{History, Had, unsettled, reached, month_state, entered, settled, turned}
use Rattle.settlement.specs.Inside.{at, draws_on, store_calls}
use Rattle.settlement.specs.Coverings.{covered_in, used_from, Lawful}
use Rattle.settlement.specs.Told.{takes_from, took}
use Rattle.settlement.specs.Decided.{SettlementsDecided}
use Rattle.settlement.specs.Refusals.{stands}
use Rattle.settlement.specs.Promises.{StoreKeeps, KeepsPromise}
use Rattle.settlement.specs.Billing.{BillAccount, BillOpening, billing, paid, month_deposit, month_cap, month_bill, entering_bill, settling_bill, turning_bill}
use Rattle.settlement.proofs.Cover.{draw_sum, draw_left, length_taking}
use Rattle.settlement.proofs.Lines.{few_lines_of, Less, less_none, less_taking, lines_less, lines_sum}
use Rattle.settlement.proofs.Tables.{opens_in, enter_waits, settle_entered, turn_early, turn_from}
use Rattle.settlement.proofs.Rightly.{standing_is, all_rightly}
use Rattle.settlement.proofs.Openings.{opened_so, bill_opened, bill_refused}
use Rattle.settlement.proofs.Sums.{deposit_small, bill_small}
use Rattle.settlement.proofs.Trace.{had_enter, had_draw, had_turn, turned_free}
use Rattle.settlement.proofs.Inside.{at_there}
use Rattle.settlement.proofs.Coverings.{all_used}
use Rattle.settlement.proofs.Settled.{Shown, all_settled}
use Rattle.settlement.proofs.Turned.{turns_told}
use Rattle.settlement.proofs.Keeps.{store_keeps, account_best}

lawful : LawfulKind deposit
lawful = record { life_from = omega arith; life_to = omega arith; refund_within = λ p. omega arith }

-- nothing is billed but between an enter and its settlement
abbrev Billed : MonthState → ℕ → Type 0
Billed Waiting bill = bill ≡ 0
Billed Entered bill = bill ≤ 74500000
Billed Settled bill = bill ≡ 0

abbrev Calls : Type 0
Calls = History BillOpening Payment

module _ (o : BillOpening) where
  pub record Sound (h : Calls) (b : BillAccount) : Type 0 where
    pub is_open : b.opened ≡ true
    pub percentage_is : b.percentage ≡ o.percentage
    pub state_is : b.state ≡ month_state h
    pub month_is : b.store.month ≡ reached o.month h
    pub bill_is : b.bill ≡ unsettled month_bill h
    pub few : Billed b.state b.bill
    pub free : b.state ≡ Waiting → has b.store.month b.store.portions ≡ false
    pub had : store.Had deposit o.month (store_calls billing o tt h) b.store

  module _ (h : Calls) (b : BillAccount) (here : at billing o h ≡ b) (ih : Sound h b) where
    sound_enter : (sums : MonthSums) → b.state ≡ Waiting → Sound (entered sums ∷ h) (entering_bill sums b)
    sound_enter sums waits = record {
      is_open = refl;
      percentage_is = ih.percentage_is;
      state_is = refl;
      month_is = ih.month_is;
      bill_is = let none' = subst (λ (s : MonthState). Billed s b.bill) waits ih.few in omega (arith, ih.bill_is, none');
      few = bill_small sums;
      free = λ w. let z : ◌≡◌ {A = ℕ} 0 1 = cc in absurd (omega arith);
      had = subst (λ p. store.Had deposit o.month (store.entered (month_deposit sums) (month_cap p sums) ∷ store_calls billing o tt h) (entering (month_deposit sums) (month_cap b.percentage sums) b.store)) ih.percentage_is
          (had_enter deposit o.month (store_calls billing o tt h) b.store ih.had (month_deposit sums) (month_cap b.percentage sums) (deposit_small sums) (ih.free waits));
    }

    sound_settle : (rule : Rule) → LawfulRule rule → (lines : ℕ) (answer : Payment) → b.state ≡ Entered → Sound (settled rule lines answer ∷ h) (settling_bill rule b)
    sound_settle rule law lines answer is = record {
      is_open = refl;
      percentage_is = ih.percentage_is;
      state_is = refl;
      month_is = ih.month_is;
      bill_is = refl;
      few = refl;
      free = λ w. let z : ◌≡◌ {A = ℕ} 0 1 = cc in absurd (omega arith);
      had =
          let calls = store_calls billing o tt h in
          let small = subst (λ (s : MonthState). Billed s b.bill) is ih.few in
          subst (λ x. store.Had deposit o.month (draws_on billing tt rule (billing.coverings rule x) ++ calls) (drawing (paid rule b) b.store)) (sym here)
          (had_draw deposit o.month calls b.store ih.had rule law b.bill (omega (arith, small)));
    }

    sound_turn : (refunded lost : ℕ) → b.store.month < 1199 → b.state ≡ Settled → Sound (turned refunded lost ∷ h) (turning_bill b)
    sound_turn refunded lost early is = record {
      is_open = refl;
      percentage_is = ih.percentage_is;
      state_is = refl;
      month_is = omega (arith, ih.month_is);
      bill_is = ih.bill_is;
      few = subst (λ (s : MonthState). Billed s b.bill) is ih.few;
      free = λ w. turned_free deposit o.month (store_calls billing o tt h) b.store ih.had;
      had = subst (λ x. store.Had deposit o.month (store.turned (refunds deposit x.store) (losses deposit x.store) ∷ store_calls billing o tt h) (turning deposit b.store)) (sym here)
          (had_turn deposit o.month (store_calls billing o tt h) b.store ih.had early);
    }

  -- every month is settled before it turns
  settled_first : (state : MonthState) → ((state ≡ Entered) × (true ≡ false)) ⊎ (state ≡ Settled) → state ≡ Settled
  settled_first state (inl e) = let z : ◌≡◌ {A = ℕ} 0 1 = cc e.1 in absurd (omega arith)
  settled_first state (inr e) = e

  sound_leads : Leads (machine billing) o Sound
  sound_leads (open_for opening) _ h b a = absurd a.follows
  sound_leads (enter sums) _ h b a = sound_enter h b (at_there billing o h b a.had) a.so sums (enter_waits billing b sums a.none)
  sound_leads (settle rule lines) answer h b a = sound_settle h b (at_there billing o h b a.had) a.so rule a.follows lines answer (settle_entered billing b rule lines a.none)
  sound_leads turn answer h b a = sound_turn h b (at_there billing o h b a.had) a.so answer.0 answer.1 (turn_early billing b a.none) (settled_first b.state (turn_from billing b a.none))

  sound_begins : Begins (machine billing) o Sound
  sound_begins opens =
      let met = opens_in o.slots o.month _ _ _ _ opens in
      record { is_open = refl; percentage_is = refl; state_is = refl; month_is = refl; bill_is = refl; few = refl; free = λ w. refl; had = ((met.0, met.1), refl) }

  pub sound : (h : Calls) (b : BillAccount) → Had billing o h b → Sound h b
  sound = holds (machine billing) o Sound sound_begins sound_leads (λ call fault h b so. assumption)

-- the account stands where its calls have brought it
told : (o : BillOpening) (h : Calls) (b : BillAccount) → Had billing o h b → billing.standing b ≡ stands billing o h
told o h b had = let s = sound o h b had in standing_is _ _ _ _ _ _ true s.is_open s.state_is s.month_is

shown : (o : BillOpening) (h : Calls) (b : BillAccount) → Had billing o h b → (rule : Rule) → LawfulRule rule → (lines : ℕ) → refusal billing (settle rule lines) b ≡ None → Shown billing o h b rule
shown o h b had rule law lines none =
    let all = draw_sum rule law b.bill b.store in
    let held = (sound o h b had).had in
    let takes = paid rule b in
    let calls = store_calls billing o tt h in
    let few = few_lefts deposit lawful o.month calls b.store held in
    let all = draw_sum rule law b.bill b.store few in
    let there = brought_there (store_steps.machine deposit) o.month calls b.store held in
    let less' : Less (λ k. taken_from k takes b.store.portions + 0) b.store.portions (taking takes b.store.portions) =
    less_taking (λ k. 0) 0 takes b.store.portions b.store.portions (stores.sound deposit o.month calls b.store held).rising (within law b.store.month (lefts b.store) b.bill few) (less_none b.store.portions) in
    let less : Less (took billing o h rule tt (billing.coverings rule b)) b.store.portions (taking takes b.store.portions) = subst (λ (s : Ledger ℕ). Less (λ k. takes_from billing rule b.bill s k + 0) b.store.portions (taking takes b.store.portions)) (sym there) less' in
    record {
      lawful = (record { earned = record { rest_is = omega arith; enough = omega arith; least = λ w le. omega arith; used_is = omega (arith, all); within_rest = omega (arith, all); paid_for = omega arith; largest = λ v few paid. omega (arith, paid) }; in_turn = λ other used. absurd (other refl) }, tt);
      covered_is = λ z. omega arith;
      due_is = λ z. omega (arith, all);
      due_only_when_empty = λ z short from. omega (arith, short, all, draw_left rule law b.bill b.store few);
      risen = λ z. omega arith;
      for_zones = refl;
      lines = record {
        told = lines_less None _ b.store.portions (taking takes b.store.portions) less ∙ sym (append-nil _);
        counted = refl;
        add_up = λ z. omega (arith, lines_sum None (took billing o h rule tt (billing.coverings rule b)) b.store.portions (taking takes b.store.portions) less, draw_left rule law b.bill b.store few);
      };
    }

-- lawful coverings of a bill cover no more than it, and use no more than is left
module _ (o : BillOpening) (b : BillAccount) where
  covered_few : (cs : List (Covering (Unit {0}))) → Always (Lawful billing o b) cs → covered_in billing tt cs ≤ b.bill
  covered_few [] so = omega arith
  covered_few (c ∷ cs) so = omega (arith, so.0.earned.rest_is, so.0.earned.within_rest)

  used_few : (cs : List (Covering (Unit {0}))) → Always (Lawful billing o b) cs → used_from billing tt cs ≤ left_in b.store.portions
  used_few [] so = omega arith
  used_few (c ∷ cs) so = omega (arith, so.0.earned.used_is, used_few cs so.1)

-- so all that serve the account come to what the settlement does
pub bill_decided : SettlementsDecided billing
bill_decided o h b had rule law lines none =
    let all = draw_sum rule law b.bill b.store (few_lefts deposit lawful o.month (store_calls billing o tt h) b.store (sound o h b had).had) in
    record {
      own = record { lawful = (shown o h b had rule law lines none).lawful; complete = λ z less from. omega (arith, less, all) };
      any = λ cs serves.
          let covered = covered_few o b cs serves.lawful in
          let used = used_few o b cs serves.lawful in
          let at_par = all_used billing o b refl cs serves.lawful tt in
          let whole : covered_in billing tt cs ≡ sum (paid rule b) = elim (cases_lt (covered_in billing tt cs) b.bill) [
            | inl less ↦ let empty = serves.complete tt less tt in omega (arith, all, covered, at_par, empty)
            | inr le ↦ omega (arith, all, covered, used, at_par, le)
          ] in
          record { covered_is = λ z. omega (arith, whole); due_is = λ z. omega (arith, whole, all); risen = λ z. omega (arith, whole, at_par) };
    }

pub billing_keeps : KeepsPromise billing
billing_keeps o h b had =
    let s = sound o h b had in
    let stores : (z : Unit {0}) → StoreKeeps billing o h b z (store_calls billing o z h) = λ z. store_keeps billing lawful o h b z s.had in
    let turned = turns_told billing (λ a. omega arith) (λ a. omega arith) o h b had in
    record {
      had = had;
      opened_rightly = bill_opened o (opened_so billing o h b had);
      standing_told = told o h b had;
      rightly = all_rightly billing told bill_refused o h b had;
      pending_told = λ z. s.bill_is;
      stores = stores;
      settled = all_settled billing (λ o h b had z. (sound o h b had).bill_is) shown o h b had;
      turns_told = turned;
      best = account_best billing o h b stores turned;
      few_lines = λ rule.
          let few = few_open deposit o.month (store_calls billing o tt h) b.store s.had in
          let long = length_taking (paid rule b) b.store.portions in
          omega (arith, few, long, few_lines_of None (lefts b.store) (drawing (paid rule b) b.store).portions);
    }
