-- What one covering of a zone from a store does, and what the whole settlement therefore does.
use Rattle.std.proofs.Common.{◌≡◌, ◌≢◌, ℕ, zero, suc, ◌+◌, ◌-◌, ◌*◌, ◌<◌, ◌≤◌, min, ◌⊎◌, List, [], ◌∷◌, ◌++◌, length, refl, ap, ◌∙◌, subst, inl, inr, arith, add-mul, rules}
use native.Mathlib.Nat.{lt-div-mul-add, div-le_of_le-mul, div-mul-le_self, lt_of_mul-lt-mul_right}
use Rattle.std.proofs.lemmas.Bool.{cases_lt}
use Rattle.std.proofs.lemmas.Bool.Decides.{nat_tests}
use Rattle.portions.specs.Sums.{sum}
use Rattle.portions.specs.Portions.{Portion}
use Rattle.ledger.specs.Rules.{Rule, LawfulRule}
use Rattle.ledger.specs.Ledger.{Ledger, left_in, lefts}
use Rattle.ledger.specs.Steps.{taking, takings, drawing}
use Rattle.ledger.proofs.Lists.{sum_lefts, left_taking, within}
use Rattle.ledger.proofs.Store.{Few}
use Rattle.hours.specs.declared.zones.Zone.{Zone}
use Rattle.hours.specs.Zones.{zone_number}
use Rattle.settlement.specs.Zones.{of}
use Rattle.settlement.specs.Metering.{coefficient_for, Course, wanted, covered, cover, covers, own_stores, other_stores}
use Rattle.settlement.proofs.ByZone.{of_put, put_relates}

pub coefficient_low : (power : ℕ) → 7 ≤ coefficient_for power
coefficient_low power = grind (arith, nat_tests)

pub coefficient_high : (power : ℕ) → coefficient_for power ≤ 8
coefficient_high power = grind (arith, nat_tests)

pub wanted_serves : (c p : ℕ) → 0 < c → 10 * p ≤ wanted c p * c
wanted_serves c p pos = let h = lt-div-mul-add {a = 10 * p + (c - 1)} {b = c} pos in omega (arith, h)

pub wanted_least : (c p w : ℕ) → 0 < c → 10 * p ≤ w * c → wanted c p ≤ w
wanted_least c p w pos le =
    let h = div-mul-le_self (10 * p + (c - 1)) c in
    let less : wanted c p * c < (w + 1) * c = omega (arith, h, add-mul w 1 c) in
    omega (arith, lt_of_mul-lt-mul_right c less)

pub wanted_none : (c p : ℕ) → 0 < c → 0 < wanted c p → 0 < p
wanted_none c zero pos some = absurd (omega (arith, wanted_least c 0 0 pos (omega arith)))
wanted_none c (suc p) pos some = omega arith

pub full_service : (c p : ℕ) → 0 < c → covered c p (wanted c p) ≡ p
full_service c p pos = omega (arith, wanted_serves c p pos)

pub wanted_small : (c p : ℕ) → 7 ≤ c → c ≤ 8 → p ≤ 447000000 → wanted c p ≤ 1000000000
wanted_small c p low high few = div-le_of_le-mul c {m = 10 * p + (c - 1)} {n = 1000000000} (omega arith)

-- where the whole of p is not covered, the store is emptied
pub short_empties : (c p all : ℕ) → 0 < c → 0 < p - covered c p (min (wanted c p) all) → all ≤ wanted c p
short_empties c p all pos short =
    elim (cases_lt (wanted c p) all) [
      | inl lt ↦
          let full : min (wanted c p) all ≡ wanted c p = omega arith in
          let none : p - covered c p (wanted c p) ≡ 0 = omega (arith, full_service c p pos) in
          absurd (omega (arith, ap (λ u. p - covered c p u) full, none))
      | inr le ↦ le
    ]

module _ {T : Type 0} (rule : Rule) (law : LawfulRule rule) (w : ℕ) (s : Ledger T) (few : Few s) where
  pub draw_sum : sum (takings rule w s) ≡ min w (left_in s.portions)
  draw_sum = law.full s.month w (lefts s) few ∙ ap (min w) (sum_lefts s.portions)

  pub draw_left : left_in (drawing (takings rule w s) s).portions + sum (takings rule w s) ≡ left_in s.portions
  draw_left = left_taking (takings rule w s) s.portions (within law s.month (lefts s) w few)

-- energy is due in the zone only if the store is empty
abbrev pub Served : Zone → Zone → Course → Type 0
Served zone from course = 0 < of zone course.rests → left_in (of from course.stores).portions ≡ 0

module _ (rule : Rule) (law : LawfulRule rule) (c : ℕ) (pos : 0 < c) where
  pub cover_rests : (zone from : Zone) (course : Course) (other : Zone) → of other (cover rule c zone from course).rests ≤ of other course.rests
  cover_rests zone from course other = put_relates ◌≤◌ (λ x. omega arith) zone _ course.rests (omega arith) other

  pub cover_lefts : (zone from : Zone) (course : Course) → Few (of from course.stores) → (other : Zone) → left_in (of other (cover rule c zone from course).stores).portions ≤ left_in (of other course.stores).portions
  cover_lefts zone from course few other =
      let store = of from course.stores in
      let less = draw_left rule law (wanted c (of zone course.rests)) store few in
      put_relates (λ x y. left_in x.portions ≤ left_in y.portions) (λ x. omega arith) from _ course.stores (omega (arith, less)) other

  -- serving a zone from a store makes it served from it
  pub cover_serves : (zone from : Zone) (course : Course) → Few (of from course.stores) → Served zone from (cover rule c zone from course)
  cover_serves zone from course few short =
      let p = of zone course.rests in
      let store = of from course.stores in
      let takes = takings rule (wanted c p) store in
      let rest = of_put zone (p - covered c p (sum takes)) course.rests in
      let after = ap (λ (s : Ledger (Unit {0})). left_in s.portions) (of_put from (drawing takes store) course.stores) in
      let sum_is_lem = draw_sum rule law (wanted c p) store few in
      let less = draw_left rule law (wanted c p) store few in
      let short' : 0 < p - covered c p (min (wanted c p) (left_in store.portions)) = subst (λ u. 0 < p - covered c p u) sum_is_lem (subst (λ r. 0 < r) rest short) in
      omega (arith, after, sum_is_lem, less, short_empties c p (left_in store.portions) pos short')

  -- and stays so while others are served
  pub cover_keeps : (zone from : Zone) (course : Course) → Few (of from course.stores) → (z s : Zone) → Served z s course → Served z s (cover rule c zone from course)
  cover_keeps zone from course few z s served short =
      omega (arith, cover_lefts zone from course few s, served (omega (arith, cover_rests zone from course z, short)))

-- the pair is in the list
abbrev pub In : Zone → Zone → List (Zone × Zone) → Type 0
In z s [] = ⊥
In z s (pair ∷ pairs) = ((pair.0 ≡ z) × (pair.1 ≡ s)) ⊎ In z s pairs

-- those of two lists, with the second one's last first
abbrev pub through : List (Zone × Zone) → List (Zone × Zone) → List (Zone × Zone)
through done [] = done
through done (pair ∷ pairs) = through (pair ∷ done) pairs

-- in a settlement each zone is served from each store
pub every_pair : (z s : Zone) → In z s (through [] (own_stores ++ other_stores))
every_pair z s = search rules

-- what has to come before a zone is served from the store of another
pub record Ready (done : List (Zone × Zone)) (zone from : Zone) : Type 0 where
  pub own : In zone zone done
  pub owner : In from from done
  pub stores : (k : Zone) → zone_number k ≢ zone_number zone → zone_number k < zone_number from → In zone k done
  pub zones : (k : Zone) → zone_number k < zone_number zone → In k from done

abbrev pub AllReady : List (Zone × Zone) → List (Zone × Zone) → Type 0
AllReady done [] = Unit {0}
AllReady done (pair ∷ pairs) = (zone_number pair.0 ≢ zone_number pair.1 → Ready done pair.0 pair.1) × AllReady (pair ∷ done) pairs

-- and each in its turn
pub all_ready : AllReady [] (own_stores ++ other_stores)
all_ready = search rules

-- A settlement ends no portion and adds none.
pub length_taking : {T : Type 0} (xs : List ℕ) (ps : List (Portion T)) → length (taking xs ps) ≡ length ps
length_taking [] ps = refl
length_taking (x ∷ xs) [] = refl
length_taking (x ∷ xs) (p ∷ ps) = ap suc (length_taking xs ps)

module _ (rule : Rule) (c : ℕ) where
  pub covers_length : (pairs : List (Zone × Zone)) (course : Course) (z : Zone) → length (of z (covers rule c pairs course).stores).portions ≡ length (of z course.stores).portions
  covers_length [] course z = refl
  covers_length (pair ∷ pairs) course z =
      let store = of pair.1 course.stores in
      let takes = takings rule (wanted c (of pair.0 course.rests)) store in
      let same : Ledger (Unit {0}) → Ledger (Unit {0}) → Type 0 = λ x y. length x.portions ≡ length y.portions in
      covers_length pairs (cover rule c pair.0 pair.1 course) z ∙ put_relates same (λ x. refl) pair.1 (drawing takes store) course.stores (length_taking takes store.portions) z
