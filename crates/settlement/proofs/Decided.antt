-- The laws of coverings decide what a settlement does: whatever coverings keep them, the passes come to the same.
use Rattle.std.proofs.Common.{◌≡◌, ◌≢◌, ℕ, zero, suc, ◌+◌, ◌-◌, ◌*◌, ◌<◌, ◌≤◌, min, cond, ◌⊎◌, List, [], ◌∷◌, ◌++◌, sym, refl, ap, ◌∙◌, subst, inl, inr, arith, rules}
use Rattle.std.proofs.lemmas.Bool.{cases_lt}
use Rattle.hours.specs.declared.zones.Zone.{Zone}
use Rattle.hours.specs.declared.zones.Zone.TheVariants.{First, Second, Third}
use Rattle.hours.specs.Zones.{zone_number}
use Rattle.settlement.specs.declared.zones.Zones.{Zones}
use Rattle.settlement.specs.Zones.{of, put, each}
use Rattle.histories.specs.Histories.{Always}
use Rattle.ledger.specs.Ledger.{Ledger, left_in}
use Rattle.settlement.specs.Accounts.{Covering}
use Rattle.settlement.specs.Coverings.{covered_in, used_from, Emptied, Covered, Lawful}
use Rattle.settlement.specs.Metering.{MeterAccount, MeterOpening, metering, coefficient_for, wanted, covered, own_stores, other_stores}
use Rattle.settlement.specs.Decided.{Serves}
use Rattle.settlement.proofs.ByZone.{of_put, of_each, put_either}
use Rattle.settlement.proofs.Coverings.{largest_is}
use Rattle.settlement.proofs.Cover.{coefficient_low, wanted_serves, short_empties, wanted_least}

-- what is not covered in each zone, and what is left in each store
pub record Position : Type 0 where
  pub rests : Zones ℕ
  pub lefts : Zones ℕ

n12 : zone_number First ≢ zone_number Second
n12 = λ e. omega arith

n21 : zone_number Second ≢ zone_number First
n21 = λ e. omega arith

n13 : zone_number First ≢ zone_number Third
n13 = λ e. omega arith

n31 : zone_number Third ≢ zone_number First
n31 = λ e. omega arith

n23 : zone_number Second ≢ zone_number Third
n23 = λ e. omega arith

n32 : zone_number Third ≢ zone_number Second
n32 = λ e. omega arith

module _ (c : ℕ) (pos : 0 < c) where
  abbrev pub uses : Zone → Zone → Position → ℕ
  uses z s w = min (wanted c (of z w.rests)) (of s w.lefts)

  abbrev pub step : Zone × Zone → Position → Position
  step pair w = record {
    rests = put pair.0 (of pair.0 w.rests - covered c (of pair.0 w.rests) (uses pair.0 pair.1 w)) w.rests;
    lefts = put pair.1 (of pair.1 w.lefts - uses pair.0 pair.1 w) w.lefts;
  }

  abbrev rest_after : ℕ → ℕ → ℕ
  rest_after rest left = rest - covered c rest (min (wanted c rest) left)

  abbrev left_after : ℕ → ℕ → ℕ
  left_after rest left = left - min (wanted c rest) left

  both : (f : ℕ → ℕ → ℕ) {x x' y y' : ℕ} → x ≡ x' → y ≡ y' → f x y ≡ f x' y'
  both f e g = cc

  abbrev pub steps : List (Zone × Zone) → Position → Position
  steps [] w = w
  steps (pair ∷ pairs) w = steps pairs (step pair w)

  abbrev pub Idle : Zone × Zone → Position → Type 0
  Idle pair w = (of pair.0 w.rests ≡ 0) ⊎ (of pair.1 w.lefts ≡ 0)

  put_same : {X : Type 0} (z : Zone) (x : X) (xs : Zones X) → x ≡ of z xs → put z x xs ≡ xs
  put_same First x xs e = ap (λ y. put First y xs) e
  put_same Second x xs e = ap (λ y. put Second y xs) e
  put_same Third x xs e = ap (λ y. put Third y xs) e

  wanted_zero : wanted c 0 ≡ 0
  wanted_zero = omega (arith, wanted_least c 0 0 pos (omega arith))

  same_position : (r r' l l' : Zones ℕ) → r ≡ r' → l ≡ l' → ◌≡◌ {A = Position} (record { rests = r; lefts = l }) (record { rests = r'; lefts = l' })
  same_position r r' l l' e f = cc

  no_use : (rest left : ℕ) → (rest ≡ 0) ⊎ (left ≡ 0) → min (wanted c rest) left ≡ 0
  no_use rest left (inl e) = let z = ap (wanted c) e ∙ wanted_zero in omega (arith, z)
  no_use rest left (inr e) = omega (arith, e)

  -- a pair that is idle does nothing
  idle : (z s : Zone) (w : Position) → Idle (z, s) w → step (z, s) w ≡ w
  idle z s w i =
      let none = no_use (of z w.rests) (of s w.lefts) i in
      let nothing : covered c (of z w.rests) 0 ≡ 0 = omega arith in
      let kept = ap (covered c (of z w.rests)) none ∙ nothing in
      same_position _ w.rests _ w.lefts (put_same z _ w.rests (omega (arith, kept))) (put_same s _ w.lefts (omega (arith, none)))

  -- after its step a pair is idle
  spent : (z s : Zone) (w : Position) → Idle (z, s) (step (z, s) w)
  spent z s w =
      elim (cases_lt 0 (of z w.rests - covered c (of z w.rests) (uses z s w))) [
        | inl short ↦ inr (of_put s _ w.lefts ∙ (let le = short_empties c (of z w.rests) (of s w.lefts) pos short in omega (arith, le)))
        | inr le ↦ inl (of_put z _ w.rests ∙ omega (arith, le))
      ]

  twice : (z s : Zone) (w : Position) → step (z, s) (step (z, s) w) ≡ step (z, s) w
  twice z s w = idle z s (step (z, s) w) (spent z s w)

  put_put : {X : Type 0} (z z' : Zone) (x y : X) (xs : Zones X) → zone_number z ≢ zone_number z' → put z x (put z' y xs) ≡ put z' y (put z x xs)
  put_put z z' x y xs ne = search rules

  of_other : {X : Type 0} (z z' : Zone) (y : X) (xs : Zones X) → zone_number z ≢ zone_number z' → of z (put z' y xs) ≡ of z xs
  of_other z z' y xs ne = search rules

  -- pairs of other zones and other stores do not meet
  commute : (z s z' s' : Zone) (w : Position) → zone_number z ≢ zone_number z' → zone_number s ≢ zone_number s' → step (z, s) (step (z', s') w) ≡ step (z', s') (step (z, s) w)
  commute z s z' s' w ne nf =
      let r = w.rests in
      let l = w.lefts in
      let one : ℕ = rest_after (of z' r) (of s' l) in
      let two : ℕ = left_after (of z' r) (of s' l) in
      let three : ℕ = rest_after (of z r) (of s l) in
      let four : ℕ = left_after (of z r) (of s l) in
      let ne' : zone_number z' ≢ zone_number z = λ e. ne (sym e) in
      let nf' : zone_number s' ≢ zone_number s = λ e. nf (sym e) in
      let a = of_other z z' one r ne in
      let b = of_other s s' two l nf in
      let c' = of_other z' z three r ne' in
      let d = of_other s' s four l nf' in
      same_position _ _ _ _
      (ap (λ x. put z x (put z' one r)) (both rest_after a b) ∙ put_put z z' three one r ne ∙ sym (ap (λ x. put z' x (put z three r)) (both rest_after c' d)))
      (ap (λ x. put s x (put s' two l)) (both left_after a b) ∙ put_put s s' four two l nf ∙ sym (ap (λ x. put s' x (put s four l)) (both left_after c' d)))

  -- a pair that comes later among these, with only such before it as do not meet it or are idle, can as well come first
  abbrev Meets : Zone × Zone → List (Zone × Zone) → Position → Type 0
  Meets p [] w = ⊥
  Meets p (q ∷ qs) w =
      ((q.0 ≡ p.0) × (q.1 ≡ p.1))
      ⊎ (((zone_number q.0 ≢ zone_number p.0) × (zone_number q.1 ≢ zone_number p.1) × Meets p qs (step q w)) ⊎ (Idle q w × Idle q (step p w) × Meets p qs w))

  absorbed : (p : Zone × Zone) (qs : List (Zone × Zone)) (w : Position) → Meets p qs w → steps qs (step p w) ≡ steps qs w
  absorbed p [] w m = absurd m
  absorbed p (q ∷ qs) w (inl e) =
      let is : q ≡ p = ap (λ x. (x, q.1)) e.0 ∙ ap (λ y. (p.0, y)) e.1 in
      ap (steps qs) (subst (λ x. step x (step p w) ≡ step x w) (sym is) (twice p.0 p.1 w))
  absorbed p (q ∷ qs) w (inr (inl m)) = ap (steps qs) (commute q.0 q.1 p.0 p.1 w m.0 m.1) ∙ absorbed p qs (step q w) m.2
  absorbed p (q ∷ qs) w (inr (inr m)) = ap (steps qs) (idle q.0 q.1 (step p w) m.1) ∙ absorbed p qs w m.2 ∙ sym (ap (steps qs) (idle q.0 q.1 w m.0))

  -- a zone has its turn at another's store
  pub record Turn (z s : Zone) (w : Position) : Type 0 where
    pub own : of z w.lefts ≡ 0
    pub owner : of s w.rests ≡ 0
    pub stores : (k : Zone) → zone_number k ≢ zone_number z → zone_number k < zone_number s → of k w.lefts ≡ 0
    pub zones : (k : Zone) → zone_number k < zone_number z → of k w.rests ≡ 0

  meets : (z s : Zone) (w : Position) → (zone_number z ≢ zone_number s → Turn z s w) → Meets (z, s) (own_stores ++ other_stores) w
  meets First First w turn = inl (refl, refl)
  meets Second Second w turn = inr (inl (n12, n12, inl (refl, refl)))
  meets Third Third w turn = inr (inl (n13, n13, inr (inl (n23, n23, inl (refl, refl)))))
  meets First Second w turn = let t = turn n12 in inr (inr (inr t.own, inr t.own, inr (inr (inl t.owner, inl t.owner, inr (inl (n31, n32, inl (refl, refl)))))))
  meets First Third w turn = let t = turn n13 in let a = t.stores Second n21 (omega arith) in inr (inr (inr t.own, inr t.own, inr (inl (n21, n23, inr (inr (inl t.owner, inl t.owner, inr (inr (inr (omega (arith, a)), inr (omega (arith, a)), inl (refl, refl)))))))))
  meets Second First w turn = let t = turn n21 in inr (inr (inl t.owner, inl t.owner, inr (inr (inr t.own, inr t.own, inr (inl (n32, n31, inr (inr (inl t.owner, inl t.owner, inr (inr (inl t.owner, inl t.owner, inl (refl, refl)))))))))))
  meets Second Third w turn = let t = turn n23 in let a = t.zones First (omega arith) in let b = t.stores First n12 (omega arith) in inr (inr (inl a, inl a, inr (inr (inr t.own, inr t.own, inr (inr (inl t.owner, inl t.owner, inr (inr (inl a, inl a, inr (inr (inl a, inl a, inr (inr (inr b, inr b, inl (refl, refl)))))))))))))
  meets Third First w turn = let t = turn n31 in let b = t.zones Second (omega arith) in inr (inr (inl t.owner, inl t.owner, inr (inr (inl b, inl b, inr (inr (inr t.own, inr t.own, inr (inr (inl t.owner, inl t.owner, inr (inr (inl t.owner, inl t.owner, inr (inr (inl b, inl b, inr (inr (inl b, inl b, inl (refl, refl)))))))))))))))
  meets Third Second w turn = let t = turn n32 in let a = t.zones First (omega arith) in let d = t.stores First n13 (omega arith) in inr (inr (inl a, inl a, inr (inr (inl t.owner, inl t.owner, inr (inr (inr t.own, inr t.own, inr (inr (inl a, inl a, inr (inr (inl a, inl a, inr (inr (inl t.owner, inl t.owner, inr (inr (inl t.owner, inl t.owner, inr (inr (inr d, inr d, inl (refl, refl)))))))))))))))))

  -- where every pair is idle, the passes do nothing
  at_rest : (pairs : List (Zone × Zone)) (w : Position) → ((z s : Zone) → Idle (z, s) w) → steps pairs w ≡ w
  at_rest [] w all = refl
  at_rest (pair ∷ pairs) w all = ap (steps pairs) (idle pair.0 pair.1 w (all pair.0 pair.1)) ∙ at_rest pairs w all

  abbrev passes : Position → Position
  passes w = steps (own_stores ++ other_stores) w

  none_used : (rest left : ℕ) → min (wanted c rest) left ≡ 0 → (rest ≡ 0) ⊎ (left ≡ 0)
  none_used zero left e = inl refl
  none_used (suc rest) left e =
      let some : 0 < wanted c (suc rest) = (let h = wanted_serves c (suc rest) pos in positive (wanted c (suc rest)) h) in
      inr (omega (arith, e, some))
    where
      positive : (w : ℕ) → 10 * suc rest ≤ w * c → 0 < w
      positive zero h = absurd (omega (arith, h))
      positive (suc w) h = omega arith

module _ (o : MeterOpening) (a : MeterAccount) where
  abbrev c : ℕ
  c = coefficient_for o.power

  some_tenths : 0 < coefficient_for o.power
  some_tenths = omega (arith, coefficient_low o.power)

  abbrev start : Position
  start = record { rests = a.pending; lefts = each (λ (s : Ledger (Unit {0})). left_in s.portions) a.stores }

  abbrev position_of : List (Covering Zone) → Position
  position_of [] = start
  position_of (d ∷ ds) = step c some_tenths (d.zone, d.from) (position_of ds)

  pub record Reached (ds : List (Covering Zone)) (w : Position) : Type 0 where
    pub rests_are : (z : Zone) → of z w.rests + covered_in metering z ds ≡ of z a.pending
    pub lefts_are : (z : Zone) → of z w.lefts + used_from metering z ds ≡ left_in (of z a.stores).portions

  reached : (ds : List (Covering Zone)) → Always (Lawful metering o a) ds → Reached ds (position_of ds)
  reached [] lawful = record { rests_are = λ z. omega arith; lefts_are = λ z. omega (arith, of_each (λ (s : Ledger (Unit {0})). left_in s.portions) z a.stores) }
  reached (d ∷ ds) lawful =
      let ih = reached ds lawful.1 in
      let w = position_of ds in
      let e = lawful.0.earned in
      let rest : d.rest ≡ of d.zone w.rests = omega (arith, e.rest_is, ih.rests_are d.zone) in
      let want : d.wanted ≡ wanted c d.rest = omega (arith, wanted_least c d.rest d.wanted some_tenths e.enough, e.least (wanted c d.rest) (wanted_serves c d.rest some_tenths)) in
      let left : left_in (of d.from a.stores).portions - used_from metering d.from ds ≡ of d.from w.lefts = omega (arith, ih.lefts_are d.from) in
      let want' : d.wanted ≡ wanted c (of d.zone w.rests) = want ∙ ap (wanted c) rest in
      let used : d.used ≡ min (wanted c (of d.zone w.rests)) (of d.from w.lefts) = omega (arith, e.used_is, want', left) in
      let covers : d.covers ≡ covered c (of d.zone w.rests) (min (wanted c (of d.zone w.rests)) (of d.from w.lefts)) = largest_is d.rest (d.used * coefficient_for o.power) d.covers e.within_rest e.paid_for e.largest ∙ ap (λ r. covered c r d.used) rest ∙ ap (covered c (of d.zone w.rests)) used in
      record {
        rests_are = put_either (λ b z r. r + (cond b d.covers 0 + covered_in metering z ds) ≡ of z a.pending) d.zone (of d.zone w.rests - covered c (of d.zone w.rests) (min (wanted c (of d.zone w.rests)) (of d.from w.lefts))) w.rests
            (omega (arith, ih.rests_are d.zone, covers)) (λ z. omega (arith, ih.rests_are z));
        lefts_are = put_either (λ b z l. l + (cond b d.used 0 + used_from metering z ds) ≡ left_in (of z a.stores).portions) d.from (of d.from w.lefts - min (wanted c (of d.zone w.rests)) (of d.from w.lefts)) w.lefts
            (omega (arith, ih.lefts_are d.from, used)) (λ z. omega (arith, ih.lefts_are z));
      }

  abbrev ends : Position → Position
  ends w = passes c some_tenths w

  used_is : (ds : List (Covering Zone)) (d : Covering Zone) → Always (Lawful metering o a) (d ∷ ds) → d.used ≡ min (wanted c (of d.zone (position_of ds).rests)) (of d.from (position_of ds).lefts)
  used_is ds d lawful =
      let ih = reached ds lawful.1 in
      let w = position_of ds in
      let e = lawful.0.earned in
      let rest : d.rest ≡ of d.zone w.rests = omega (arith, e.rest_is, ih.rests_are d.zone) in
      let want : d.wanted ≡ wanted c d.rest = omega (arith, wanted_least c d.rest d.wanted some_tenths e.enough, e.least (wanted c d.rest) (wanted_serves c d.rest some_tenths)) in
      let left : left_in (of d.from a.stores).portions - used_from metering d.from ds ≡ of d.from w.lefts = omega (arith, ih.lefts_are d.from) in
      let want' : d.wanted ≡ wanted c (of d.zone w.rests) = want ∙ ap (wanted c) rest in
      omega (arith, e.used_is, want', left)

  same_end : (ds : List (Covering Zone)) → Always (Lawful metering o a) ds → ends (position_of ds) ≡ ends start
  same_end [] lawful = refl
  same_end (d ∷ ds) lawful =
      let ih = same_end ds lawful.1 in
      let r = reached ds lawful.1 in
      let w = position_of ds in
      let used = used_is ds d lawful in
      let gone : (z : Zone) → Emptied metering a ds z → of z w.lefts ≡ 0 = λ z e. omega (arith, e, r.lefts_are z) in
      let met : (z : Zone) → Covered metering a ds z → of z w.rests ≡ 0 = λ z e. omega (arith, e, r.rests_are z) in
      elim (cases_lt 0 d.used) [
        | inl some ↦
            absorbed c some_tenths (d.zone, d.from) (own_stores ++ other_stores) w
            (meets c some_tenths d.zone d.from w
            (λ ne.
            let t = lawful.0.in_turn ne some in
            record { own = gone d.zone t.own_store_first; owner = met d.from t.own_zone_first; stores = λ k nk lt. gone k (t.lower_stores_first k nk lt); zones = λ k lt. met k (t.lower_zones_first k lt) }))
            ∙ ih
        | inr le ↦ ap ends (idle c some_tenths d.zone d.from w (none_used c some_tenths (of d.zone w.rests) (of d.from w.lefts) (omega (arith, used, le)))) ∙ ih
      ]

  -- so all such coverings of a settlement cover and use the same
  at_end : (ds : List (Covering Zone)) → Serves metering o a ds → position_of ds ≡ ends start
  at_end ds s =
      let r = reached ds s.lawful in
      let w = position_of ds in
      sym (at_rest c some_tenths (own_stores ++ other_stores) w (λ z from. all_idle (of z w.rests) (of from w.lefts) _ _ _ _ (r.rests_are z) (r.lefts_are from) (λ less. s.complete z less from))) ∙ same_end ds s.lawful
    where
      all_idle : (rest left x y p l : ℕ) → rest + x ≡ p → left + y ≡ l → (x < p → y ≡ l) → (rest ≡ 0) ⊎ (left ≡ 0)
      all_idle zero left x y p l e f g = inl refl
      all_idle (suc rest) left x y p l e f g = inr (omega (arith, f, g (omega (arith, e))))

  pub decided : (ds ds' : List (Covering Zone)) → Serves metering o a ds → Serves metering o a ds' → (z : Zone) → (covered_in metering z ds ≡ covered_in metering z ds') × (used_from metering z ds ≡ used_from metering z ds')
  decided ds ds' s s' z =
      let one = reached ds s.lawful in
      let two = reached ds' s'.lawful in
      let same = at_end ds s ∙ sym (at_end ds' s') in
      let rests = ap (λ (w : Position). of z w.rests) same in
      let lefts = ap (λ (w : Position). of z w.lefts) same in
      (omega (arith, rests, one.rests_are z, two.rests_are z), omega (arith, lefts, one.lefts_are z, two.lefts_are z))
