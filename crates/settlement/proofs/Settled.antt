-- An accepted settlement is what its coverings come to, from what is shown of each sort of account.
use Rattle.std.proofs.Common.{◌≡◌, ℕ, ◌+◌, ◌<◌, None, ◌∷◌, sym, ◌∙◌, subst, arith}
use Rattle.portions.specs.Sums.{total}
use Rattle.portions.specs.Totals.{total_parts}
use Rattle.histories.specs.Histories.{Always}
use Rattle.histories.proofs.Runs.{always}
use Rattle.ledger.specs.Rules.{Rule, LawfulRule}
use Rattle.ledger.specs.Ledger.{left_in}
use Rattle.settlement.specs.Accounts.{Workings, refusal, machine}
use Rattle.settlement.specs.Accounts.Call.{settle}
use Rattle.settlement.specs.History.{Event, History, Had, settled, unsettled}
use Rattle.settlement.specs.Coverings.{covered_in, used_for, used_from, Lawful}
use Rattle.settlement.specs.Told.{TellsLines}
use Rattle.settlement.specs.Settled.{used_before, used_after, IsWhatItsCoveringsComeTo, SettledRightly, AllSettledRightly}
use Rattle.settlement.proofs.Coverings.{paid_for, all_used}
use Rattle.settlement.proofs.Inside.{at_there}
use Rattle.settlement.proofs.Turned.{total_same}

module _ {O A S Z T : Type 0} (works : Workings O A S Z T) where
  -- what holds of the coverings of an accepted settlement, as far as it has to be shown of each sort
  pub record Shown (o : O) (h : History O S) (a : A) (rule : Rule) : Type 0 where
    pub lawful : Always (Lawful works o a) (works.coverings rule a)
    pub covered_is : (z : Z) → works.covered (works.settlement rule a) z ≡ covered_in works z (works.coverings rule a)
    pub due_is : (z : Z) → works.covered (works.settlement rule a) z + works.due (works.settlement rule a) z ≡ works.pending a z
    pub due_only_when_empty : (z : Z) → 0 < works.due (works.settlement rule a) z → (from : Z) → left_in (works.store (works.settling rule a) from).portions ≡ 0
    pub risen : (z : Z) → used_after works rule a z ≡ used_before works a z + used_from works z (works.coverings rule a)
    pub for_zones : total (λ z. used_for works z (works.coverings rule a)) works.zones ≡ total (λ z. used_from works z (works.coverings rule a)) works.zones
    pub lines : TellsLines works o h a rule (works.settlement rule a)

  comes_to : (o : O) (h : History O S) (a : A) (rule : Rule) → Shown o h a rule → IsWhatItsCoveringsComeTo works o a rule (works.settlement rule a)
  comes_to o h a rule shown =
      let cs = works.coverings rule a in
      let covered : Z → ℕ = works.covered (works.settlement rule a) in
      let used : works.tenths o ≡ 10 → (z : Z) → covered z ≡ used_for works z cs = λ ten z. shown.covered_is z ∙ all_used works o a ten cs shown.lawful z in
      record {
        lawful = shown.lawful;
        covered_is = shown.covered_is;
        due_is = shown.due_is;
        due_only_when_empty = shown.due_only_when_empty;
        risen = shown.risen;
        for_zones = shown.for_zones;
        paid = λ z. omega (arith, shown.covered_is z, paid_for works o a cs shown.lawful z);
        at_par = used;
        rise_at_par = λ ten.
            let all = total_same covered (λ z. used_for works z cs) (used ten) works.zones in
            let rise = total_parts (used_after works rule a) (used_before works a) (λ z. used_from works z cs) shown.risen works.zones in
            omega (arith, all, shown.for_zones, rise);
      }

  module _ (pending_told : (o : O) (h : History O S) (a : A) → Had works o h a → (z : Z) → works.pending a z ≡ unsettled (λ sums. works.demand sums z) h)
      (shown : (o : O) (h : History O S) (a : A) → Had works o h a → (rule : Rule) → LawfulRule rule → (lines : ℕ) → refusal works (settle rule lines) a ≡ None → Shown o h a rule) where
    settled_rightly : (o : O) (h : History O S) (e : Event O S) (a : A) → Had works o (e ∷ h) a → SettledRightly works o h e
    settled_rightly o h (settled rule lines answer) a had =
        let was = had.0 in
        let s = shown o h was had.1 rule had.2.3 lines had.2.0 in
        let there = at_there works o h was had.1 in
        let done : IsWhatItsCoveringsComeTo works o was rule answer × TellsLines works o h was rule answer =
        subst (λ y. IsWhatItsCoveringsComeTo works o was rule y × TellsLines works o h was rule y) (sym had.2.1) (comes_to o h was rule s, s.lines) in
        record {
          comes_to = subst (λ x. IsWhatItsCoveringsComeTo works o x rule answer) (sym there) done.0;
          owed = λ z. done.0.due_is z ∙ pending_told o h was had.1 z;
          told = subst (λ x. TellsLines works o h x rule answer) (sym there) done.1;
        }
    settled_rightly o h _ a had = tt

    pub all_settled : (o : O) (h : History O S) (a : A) → Had works o h a → AllSettledRightly works o h
    all_settled o = always (machine works) o (SettledRightly works o) (settled_rightly o)
