-- Lemmas on totals, takings and months of lists of portions.
use Rattle.std.proofs.Common.{◌≡◌, ℕ, suc, ◌+◌, ◌<◌, ◌≤◌, Bool, true, false, cond, not, eqb, ltb, ◌⊎◌, List, [], ◌∷◌, ◌++◌, map, length, get_or, filter, sym, refl, ap, subst, inl, inr, arith}
use Rattle.std.proofs.lemmas.Bool.{ltb-true, ltb-false, eqb-false, le-ltb, not-true, not-false}
use Rattle.portions.specs.declared.TheConstants.{MOST_OPEN}
use Rattle.portions.specs.Sums.{sum}
use Rattle.portions.specs.Portions.{Portion}
use Rattle.ledger.specs.Rules.{Rule, LawfulRule}
use Rattle.ledger.specs.Ledger.{left_in, has}
use Rattle.ledger.specs.Steps.{taking, stays_in}
use Rattle.ledger.specs.Told.{Tells, RisingFrom}

has_parts : (b c : Bool) → cond b true c ≡ false → (b ≡ false) × (c ≡ false)
has_parts true c h = absurd (cc)
has_parts false c h = (refl, h)

-- the test whether a portion stays, in numbers
pub stays_le : (x m : ℕ) → not (ltb x m) ≡ true → m ≤ x
stays_le x m e = ltb-false x m (not-true (ltb x m) e)

pub stays_gt : (x m : ℕ) → not (ltb x m) ≡ false → x < m
stays_gt x m e = ltb-true x m (not-false (ltb x m) e)

pub le_stays : (x m : ℕ) → m ≤ x → not (ltb x m) ≡ true
le_stays x m le = ap not (le-ltb x m le)

-- no taking exceeds its portion's amount left, and there is one for each portion
abbrev pub Within : List ℕ → List ℕ → Type 0
Within [] [] = Unit {0}
Within [] (a ∷ rest) = ⊥
Within (x ∷ xs) [] = ⊥
Within (x ∷ xs) (a ∷ rest) = (x ≤ a) × Within xs rest

within_each : (xs ls : List ℕ) → length xs ≡ length ls → ((i : ℕ) → get_or xs i 0 ≤ get_or ls i 0) → Within xs ls
within_each [] [] n b = tt
within_each [] (a ∷ rest) n b = absurd (omega (arith, n))
within_each (x ∷ xs) [] n b = absurd (omega (arith, n))
within_each (x ∷ xs) (a ∷ rest) n b = (b 0, within_each xs rest (omega (arith, n)) (λ i. b (suc i)))

pub within : {rule : Rule} → LawfulRule rule → (m : ℕ) (ls : List ℕ) (w : ℕ) → length ls ≤ MOST_OPEN → Within (rule m ls w) ls
within {rule} law m ls w few = within_each (rule m ls w) ls (law.sized m w ls few) (law.bounded m w ls few)

module _ {T : Type 0} where
  abbrev pub amounts_left_in : List (Portion T) → List ℕ
  amounts_left_in ps = map (λ (p : Portion T). p.left) ps

  pub sum_lefts : (ps : List (Portion T)) → sum (amounts_left_in ps) ≡ left_in ps
  sum_lefts [] = refl
  sum_lefts (p ∷ ps) = omega (arith, sum_lefts ps)

  pub left_taking : (xs : List ℕ) (ps : List (Portion T)) → Within xs (amounts_left_in ps) → left_in (taking xs ps) + sum xs ≡ left_in ps
  left_taking [] [] w = omega arith
  left_taking [] (p ∷ ps) w = absurd w
  left_taking (x ∷ xs) [] w = absurd w
  left_taking (x ∷ xs) (p ∷ ps) w = omega (arith, left_taking xs ps w.1, w.0)

  -- the months of all portions are at most m
  abbrev pub UpTo : ℕ → List (Portion T) → Type 0
  UpTo m [] = Unit {0}
  UpTo m (p ∷ ps) = (p.month ≤ m) × UpTo m ps

  -- the months of all portions are below m
  abbrev pub Before : ℕ → List (Portion T) → Type 0
  Before m [] = Unit {0}
  Before m (p ∷ ps) = (p.month < m) × Before m ps

  pub upto_more : (m n : ℕ) → m ≤ n → (ps : List (Portion T)) → UpTo m ps → UpTo n ps
  upto_more m n le [] u = tt
  upto_more m n le (p ∷ ps) u = (omega (arith, u.0), upto_more m n le ps u.1)

  pub upto_push : (m : ℕ) (q : Portion T) → q.month ≤ m → (ps : List (Portion T)) → UpTo m ps → UpTo m (ps ++ q ∷ [])
  upto_push m q le [] u = (le, tt)
  upto_push m q le (p ∷ ps) u = (u.0, upto_push m q le ps u.1)

  pub upto_taking : (m : ℕ) (xs : List ℕ) (ps : List (Portion T)) → UpTo m ps → UpTo m (taking xs ps)
  upto_taking m [] ps u = u
  upto_taking m (x ∷ xs) [] u = tt
  upto_taking m (x ∷ xs) (p ∷ ps) u = (u.0, upto_taking m xs ps u.1)

  pub upto_kept : (m : ℕ) (test : Portion T → Bool) (ps : List (Portion T)) → UpTo m ps → UpTo m (filter test ps)
  upto_kept m test [] u = tt
  upto_kept m test (p ∷ ps) u =
      let ih = upto_kept m test ps u.1 in
      elim (test p) as (λ b. UpTo m (cond b (p ∷ filter test ps) (filter test ps))) [ true ↦ (u.0, ih) | false ↦ ih ]

  pub before_none : (m : ℕ) (ps : List (Portion T)) → UpTo m ps → has m ps ≡ false → Before m ps
  before_none m [] u e = tt
  before_none m (p ∷ ps) u e =
      let parts = has_parts (eqb p.month m) (has m ps) e in
      let ne : p.month ≡ m → ⊥ = eqb-false p.month m parts.0 in
      (omega (arith, u.0, ne), before_none m ps u.1 parts.1)

  pub rising_less : (b c : ℕ) → c ≤ b → (ps : List (Portion T)) → RisingFrom b ps → RisingFrom c ps
  rising_less b c le [] r = tt
  rising_less b c le (p ∷ ps) r = (omega (arith, r.0), r.1)

  pub rising_push : (q : Portion T) (b : ℕ) (ps : List (Portion T)) → b ≤ q.month → Before q.month ps → RisingFrom b ps → RisingFrom b (ps ++ q ∷ [])
  rising_push q b [] le u r = (le, tt)
  rising_push q b (p ∷ ps) le u r = (r.0, rising_push q (p.month + 1) ps (omega (arith, u.0)) u.1 r.1)

  pub rising_taking : (b : ℕ) (xs : List ℕ) (ps : List (Portion T)) → RisingFrom b ps → RisingFrom b (taking xs ps)
  rising_taking b [] ps r = r
  rising_taking b (x ∷ xs) [] r = tt
  rising_taking b (x ∷ xs) (p ∷ ps) r = (r.0, rising_taking (p.month + 1) xs ps r.1)

  pub rising_kept : (b : ℕ) (test : Portion T → Bool) (ps : List (Portion T)) → RisingFrom b ps → RisingFrom b (filter test ps)
  rising_kept b test [] r = tt
  rising_kept b test (p ∷ ps) r =
      let ih = rising_kept (p.month + 1) test ps r.1 in
      elim (test p) as (λ t. RisingFrom b (cond t (p ∷ filter test ps) (filter test ps)))
      [ true ↦ (r.0, ih) | false ↦ rising_less (p.month + 1) b (omega (arith, r.0)) (filter test ps) ih ]

  module _ (k a : ℕ) (t : T) where
    pub tells_push_back : (q : Portion T) (ps : List (Portion T)) → Tells (ps ++ q ∷ []) k a t → ((q.month ≡ k) × (q.entered ≡ a) × (q.terms ≡ t)) ⊎ Tells ps k a t
    tells_push_back q [] (inl e) = inl e
    tells_push_back q [] (inr e) = absurd e
    tells_push_back q (p ∷ ps) (inl e) = inr (inl e)
    tells_push_back q (p ∷ ps) (inr e) = elim (tells_push_back q ps e) [ inl x ↦ inl x | inr x ↦ inr (inr x) ]

    pub tells_push_new : (q : Portion T) (ps : List (Portion T)) → (q.month ≡ k) × (q.entered ≡ a) × (q.terms ≡ t) → Tells (ps ++ q ∷ []) k a t
    tells_push_new q [] e = inl e
    tells_push_new q (p ∷ ps) e = inr (tells_push_new q ps e)

    pub tells_push_old : (q : Portion T) (ps : List (Portion T)) → Tells ps k a t → Tells (ps ++ q ∷ []) k a t
    tells_push_old q [] e = absurd e
    tells_push_old q (p ∷ ps) (inl e) = inl e
    tells_push_old q (p ∷ ps) (inr e) = inr (tells_push_old q ps e)

    pub tells_taking : (xs : List ℕ) (ps : List (Portion T)) → Tells ps k a t → Tells (taking xs ps) k a t
    tells_taking [] ps e = e
    tells_taking (x ∷ xs) [] e = absurd e
    tells_taking (x ∷ xs) (p ∷ ps) (inl e) = inl e
    tells_taking (x ∷ xs) (p ∷ ps) (inr e) = inr (tells_taking xs ps e)

    pub tells_taking_back : (xs : List ℕ) (ps : List (Portion T)) → Tells (taking xs ps) k a t → Tells ps k a t
    tells_taking_back [] ps e = e
    tells_taking_back (x ∷ xs) [] e = absurd e
    tells_taking_back (x ∷ xs) (p ∷ ps) (inl e) = inl e
    tells_taking_back (x ∷ xs) (p ∷ ps) (inr e) = inr (tells_taking_back xs ps e)

    pub tells_kept : (n m : ℕ) → m ≤ k + n → (ps : List (Portion T)) → Tells ps k a t → Tells (filter (stays_in n m) ps) k a t
    tells_kept n m le [] e = absurd e
    tells_kept n m le (p ∷ ps) (inl e) =
        let yes' : stays_in n m p ≡ true = le_stays (p.month + n) m (omega (arith, e.0, le)) in
        subst (λ b. Tells (cond b (p ∷ filter (stays_in n m) ps) (filter (stays_in n m) ps)) k a t) (sym yes') (inl e)
    tells_kept n m le (p ∷ ps) (inr e) =
        let ih = tells_kept n m le ps e in
        elim (stays_in n m p) as (λ b. Tells (cond b (p ∷ filter (stays_in n m) ps) (filter (stays_in n m) ps)) k a t) [ true ↦ inr ih | false ↦ ih ]

    pub tells_kept_back : (n m : ℕ) (ps : List (Portion T)) → Tells (filter (stays_in n m) ps) k a t → Tells ps k a t × (m ≤ k + n)
    tells_kept_back n m [] e = absurd e
    tells_kept_back n m (p ∷ ps) e = go (λ x. tells_kept_back n m ps x) (stays_in n m p) refl e
      where
        go : (Tells (filter (stays_in n m) ps) k a t → Tells ps k a t × (m ≤ k + n)) → (b : Bool) → stays_in n m p ≡ b → Tells (cond b (p ∷ filter (stays_in n m) ps) (filter (stays_in n m) ps)) k a t → Tells (p ∷ ps) k a t × (m ≤ k + n)
        go ih true b (inl x) = (inl x, omega (arith, stays_le (p.month + n) m b, x.0))
        go ih true b (inr x) = let r = ih x in (inr r.0, r.1)
        go ih false b x = let r = ih x in (inr r.0, r.1)
