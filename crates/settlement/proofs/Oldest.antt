-- Oldest first in an account: what its settlements' draws mean for its stores, and the comparison with other ways.
use Rattle.std.proofs.Common.{◌≡◌, ℕ, ◌+◌, ◌≤◌, Bool, true, false, cond, eqb, List, [], ◌∷◌, ◌++◌, length, sym, refl, ◌∙◌, subst, arith}
use Rattle.std.proofs.lemmas.Bool.{eqb-true}
use Rattle.portions.specs.Sums.{total}
use Rattle.portions.specs.declared.TheConstants.{MOST_OPEN}
use Rattle.portions.specs.Taking.{oldest}
use Rattle.portions.specs.Totals.{total_parts}
use Rattle.histories.specs.Histories.{Always}
use Rattle.histories.proofs.Runs.{brought_there}
use Rattle.ledger.specs.Kinds.{LawfulKind}
use Rattle.ledger.specs.Rules.{Rule, by_rule}
use Rattle.ledger.specs.Ledger.{Ledger, lefts}
use Rattle.ledger.specs.Steps as store_steps
use Rattle.ledger.specs.Steps.{takings}
use Rattle.ledger.specs.History as store
use Rattle.ledger.specs.Totals as store_totals
use Rattle.ledger.specs.Ways.{Way, way_used, way_run_out}
use Rattle.ledger.specs.Best as store_best
use Rattle.ledger.specs.Best.{NoBetter}
use Rattle.ledger.proofs.Store.{few_lefts, sound}
use Rattle.settlement.specs.Accounts.{Workings, Covering}
use Rattle.settlement.specs.History.{History, reached, entered, settled, turned}
use Rattle.settlement.specs.Inside.{at, draws_on, store_calls}
use Rattle.settlement.specs.Turned.{TurnsTold}
use Rattle.settlement.specs.Best.{OldestFirst, WentOldestFirst, HadOldestFirstRules, NoneBetter}
use Rattle.settlement.proofs.Inside.{past_draws, reached_is}

module _ {O A S Z T : Type 0} (works : Workings O A S Z T) (o : O) where
  abbrev m₀ : ℕ
  m₀ = works.own_month o

  module _ (rule : Rule) (z : Z) (h : History O S) where
    abbrev after : List (Covering Z) → store.History T
    after cs = draws_on works z rule cs ++ store_calls works o z h

    -- the draws of a settlement on a store went oldest first where its coverings did
    draws_went : (cs : List (Covering Z)) → Always (OldestFirst works o z h rule) cs → store_best.WentOldestFirst works.kind m₀ (store_calls works o z h) → store_best.WentOldestFirst works.kind m₀ (after cs)
    draws_went [] each went = went
    draws_went (c ∷ cs) each went = go (eqb (works.place c.from) (works.place z)) refl (draws_went cs each.1 went)
      where
        go : (b : Bool) → eqb (works.place c.from) (works.place z) ≡ b → store_best.WentOldestFirst works.kind m₀ (after cs) →
            store_best.WentOldestFirst works.kind m₀ (cond b (store.drew (by_rule rule c.wanted) c.used ∷ draws_on works z rule cs) (draws_on works z rule cs) ++ store_calls works o z h)
        go true e ih = (each.0 (eqb-true (works.place c.from) (works.place z) e), ih)
        go false e ih = ih

    -- a store that has had a settlement's draws has had each of them after the others
    draws_had : (c : Covering Z) (cs : List (Covering Z)) (s : Ledger T) → store.Had works.kind m₀ (after (c ∷ cs)) s → (s' : Ledger T) × store.Had works.kind m₀ (after cs) s'
    draws_had c cs s = elim (eqb (works.place c.from) (works.place z))
        as (λ b. store.Had works.kind m₀ (cond b (store.drew (by_rule rule c.wanted) c.used ∷ draws_on works z rule cs) (draws_on works z rule cs) ++ store_calls works o z h) s → (s' : Ledger T) × store.Had works.kind m₀ (after cs) s')
        [ true ↦ (λ had. (had.0, had.1)) | false ↦ (λ had. (s, had)) ]

    -- a rule that goes oldest first in the month reached makes them do so
    draws_by_rule : LawfulKind works.kind → ((lefts : List ℕ) → length lefts ≤ MOST_OPEN → (wanted : ℕ) → rule (reached m₀ h) lefts wanted ≡ oldest lefts wanted) → (cs : List (Covering Z)) (s : Ledger T) → store.Had works.kind m₀ (after cs) s → Always (OldestFirst works o z h rule) cs
    draws_by_rule law old [] s had = tt
    draws_by_rule law old (c ∷ cs) s had =
        let before = draws_had c cs s had in
        let there = brought_there (store_steps.machine works.kind) m₀ (after cs) before.0 before.1 in
        let month = (sound works.kind m₀ (after cs) before.0 before.1).month_is ∙ past_draws works rule z (store_calls works o z h) (store.reached m₀) (λ d used x. refl) cs ∙ reached_is works o z m₀ h in
        let here : takings rule c.wanted before.0 ≡ oldest (lefts before.0) c.wanted = subst (λ m. rule m (lefts before.0) c.wanted ≡ oldest (lefts before.0) c.wanted) (sym month) (old (lefts before.0) (few_lefts works.kind law m₀ (after cs) before.0 before.1) c.wanted) in
        ((λ same. subst (λ (x : Ledger T). takings rule c.wanted x ≡ oldest (lefts x) c.wanted) (sym there) here), draws_by_rule law old cs before.0 before.1)

  module _ (z : Z) where
    pub oldest_first : (h : History O S) → WentOldestFirst works o z h → store_best.WentOldestFirst works.kind m₀ (store_calls works o z h)
    oldest_first [] went = tt
    oldest_first (entered sums ∷ h) went = (tt, oldest_first h went.1)
    oldest_first (settled rule lines answer ∷ h) went = draws_went rule z h (works.coverings rule (at works o h)) went.0 (oldest_first h went.1)
    oldest_first (turned refunded lost ∷ h) went = (tt, oldest_first h went.1)
    oldest_first (_ ∷ h) went = oldest_first h went.1

    past_all : (rule : Rule) (h : History O S) (cs : List (Covering Z)) (s : Ledger T) → store.Had works.kind m₀ (after rule z h cs) s → (s' : Ledger T) × store.Had works.kind m₀ (store_calls works o z h) s'
    past_all rule h [] s had = (s, had)
    past_all rule h (c ∷ cs) s had = let before = draws_had rule z h c cs s had in past_all rule h cs before.0 before.1

    pub by_rules : LawfulKind works.kind → (h : History O S) (s : Ledger T) → store.Had works.kind m₀ (store_calls works o z h) s → HadOldestFirstRules works o h → WentOldestFirst works o z h
    by_rules law [] s had old = tt
    by_rules law (entered sums ∷ h) s had old = (tt, by_rules law h had.0 had.1 old.1)
    by_rules law (settled rule lines answer ∷ h) s had old =
        let cs = works.coverings rule (at works o h) in
        let before = past_all rule h cs s had in
        (draws_by_rule rule z h law old.0 cs s had, by_rules law h before.0 before.1 old.1)
    by_rules law (turned refunded lost ∷ h) s had old = (tt, by_rules law h had.0 had.1 old.1)
    by_rules law (_ ∷ h) s had old = (tt, by_rules law h s had old.1)

  -- what holds of each zone's figures holds of their totals
  total_le : (f g : Z → ℕ) → ((z : Z) → f z ≤ g z) → (zs : List Z) → total f zs ≤ total g zs
  total_le f g each [] = omega arith
  total_le f g each (z ∷ zs) = omega (arith, each z, total_le f g each zs)

  pub none_better : (h : History O S) → TurnsTold works o h → (ways : Z → Way) → ((z : Z) → NoBetter works.kind m₀ (store_calls works o z h) (ways z)) → NoneBetter works o h ways
  none_better h told ways best =
      let refunded : Z → ℕ = λ z. store_totals.Refunded (store_calls works o z h) in
      let lost : Z → ℕ = λ z. store_totals.Lost (store_calls works o z h) in
      let both = total_parts (λ z. refunded z + lost z) refunded lost (λ z. refl) works.zones in
      let run_out = total_le (λ z. refunded z + lost z) (λ z. way_run_out works.kind m₀ (ways z) (store_calls works o z h)) (λ z. (best z).run_out_at_least) works.zones in
      record {
        used_at_most = total_le (λ z. way_used (ways z) (store_calls works o z h)) (λ z. store_totals.Used (store_calls works o z h)) (λ z. (best z).used_at_most) works.zones;
        run_out_at_least = omega (arith, told.refunded_is, told.lost_is, both, run_out);
      }
