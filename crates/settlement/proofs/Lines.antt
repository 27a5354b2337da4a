-- Lemmas on the lines of a settlement.
use Rattle.std.proofs.Common.{◌≡◌, ℕ, suc, ◌+◌, ◌<◌, ◌≤◌, true, false, cond, eqb, List, [], ◌∷◌, map, length, Option, refl, ap, ◌∙◌, arith}
use Rattle.std.proofs.lemmas.Bool.{ne_eqb, eq-eqb}
use Rattle.portions.specs.Portions.{Portion}
use Rattle.hours.specs.declared.zones.Zone.{Zone}
use Rattle.portions.specs.Sums.{total}
use Rattle.ledger.specs.Ledger.{left_in}
use Rattle.ledger.specs.Steps.{taking}
use Rattle.ledger.specs.Told.{RisingFrom}
use Rattle.ledger.specs.Service.{taken_from}
use Rattle.ledger.proofs.Lists.{Within, amounts_left_in, rising_taking}
use Rattle.settlement.specs.declared.answers.Line.{Line}
use Rattle.settlement.specs.Lines.{line_of, lines_of, zone_number}

module _ {T : Type 0} (zone : Option Zone) where
  pub few_lines_of : (before : List ℕ) (ps : List (Portion T)) → length (lines_of zone before ps) ≤ length ps
  few_lines_of [] ps = omega arith
  few_lines_of (was ∷ before) [] = omega arith
  few_lines_of (was ∷ before) (p ∷ ps) = omega (arith, few_lines_of before ps)

  pub length_lines_of : (before : List ℕ) (ps : List (Portion T)) → length ps ≤ length before → length (lines_of zone before ps) ≡ length ps
  length_lines_of [] [] le = refl
  length_lines_of [] (p ∷ ps) le = absurd (omega arith)
  length_lines_of (was ∷ before) [] le = refl
  length_lines_of (was ∷ before) (p ∷ ps) le = ap suc (length_lines_of before ps (omega arith))

-- portions and what is left of them, less what f says was taken from each month's
module _ {T : Type 0} where
  abbrev pub Less : (ℕ → ℕ) → List (Portion T) → List (Portion T) → Type 0
  Less f [] [] = Unit {0}
  Less f [] (p ∷ ps) = ⊥
  Less f (was ∷ before) [] = ⊥
  Less f (was ∷ before) (p ∷ ps) = (p.left + f p.month ≡ was.left) × Less f before ps

  pub less_none : (ps : List (Portion T)) → Less (λ k. 0) ps ps
  less_none [] = tt
  less_none (p ∷ ps) = (omega arith, less_none ps)

  pub less_same : (f g : ℕ → ℕ) (b : ℕ) → ((k : ℕ) → b ≤ k → f k ≡ g k) → (before ps : List (Portion T)) → RisingFrom b ps → Less f before ps → Less g before ps
  less_same f g b same [] [] r l = tt
  less_same f g b same [] (p ∷ ps) r l = absurd l
  less_same f g b same (was ∷ before) [] r l = absurd l
  less_same f g b same (was ∷ before) (p ∷ ps) r l = (omega (arith, same p.month r.0, l.0), less_same f g (p.month + 1) (λ k le. same k (omega (arith, r.0, le))) before ps r.1 l.1)

  taken_none : (k b : ℕ) → k < b → (xs : List ℕ) (ps : List (Portion T)) → RisingFrom b ps → taken_from k xs ps ≡ 0
  taken_none k b lt [] ps r = refl
  taken_none k b lt (x ∷ xs) [] r = refl
  taken_none k b lt (x ∷ xs) (p ∷ ps) r =
      let ih = taken_none k (p.month + 1) (omega (arith, r.0)) xs ps r.1 in
      let other : eqb p.month k ≡ false = ne_eqb p.month k (λ e. omega (arith, r.0, e)) in
      omega (arith, ih, ap (λ t. cond t x 0) other)

  pub less_taking : (f : ℕ → ℕ) (b : ℕ) (xs : List ℕ) (before ps : List (Portion T)) → RisingFrom b ps → Within xs (amounts_left_in ps) → Less f before ps → Less (λ k. taken_from k xs ps + f k) before (taking xs ps)
  less_taking f b [] [] [] r w l = tt
  less_taking f b [] before (p ∷ ps) r w l = absurd w
  less_taking f b (x ∷ xs) before [] r w l = absurd w
  less_taking f b [] (was ∷ before) [] r w l = absurd l
  less_taking f b (x ∷ xs) [] (p ∷ ps) r w l = absurd l
  less_taking f b (x ∷ xs) (was ∷ before) (p ∷ ps) r w l =
      let here : eqb p.month p.month ≡ true = eq-eqb p.month p.month refl in
      let none = taken_none p.month (p.month + 1) (omega arith) xs ps r.1 in
      let ih = less_taking f (p.month + 1) xs before ps r.1 w.1 l.1 in
      let same : (k : ℕ) → p.month + 1 ≤ k → taken_from k xs ps + f k ≡ (cond (eqb p.month k) x 0 + taken_from k xs ps) + f k = λ k le. later k le in (
        omega (arith, l.0, w.0, none, ap (λ t. cond t x 0) here),
        less_same (λ k. taken_from k xs ps + f k) (λ k. (cond (eqb p.month k) x 0 + taken_from k xs ps) + f k) (p.month + 1) same before (taking xs ps) (rising_taking (p.month + 1) xs ps r.1) ih,
      )
    where
      later : (k : ℕ) → p.month + 1 ≤ k → taken_from k xs ps + f k ≡ (cond (eqb p.month k) x 0 + taken_from k xs ps) + f k
      later k le = let other : eqb p.month k ≡ false = ne_eqb p.month k (λ e. omega (arith, le, e)) in omega (arith, ap (λ t. cond t x 0) other)

  -- so the lines tell what was taken
  pub lines_less : (zone : Option Zone) (f : ℕ → ℕ) (before ps : List (Portion T)) → Less f before ps → lines_of zone (amounts_left_in before) ps ≡ map (λ (p : Portion T). record { zone = zone_number zone; month = p.month; used = f p.month; left = p.left }) ps
  lines_less zone f [] [] l = refl
  lines_less zone f [] (p ∷ ps) l = absurd l
  lines_less zone f (was ∷ before) [] l = absurd l
  lines_less zone f (was ∷ before) (p ∷ ps) l =
      let used : (line_of zone was.left p).used ≡ f p.month = omega (arith, l.0) in
      let rest = lines_less zone f before ps l.1 in
      ap (λ u. record { zone = zone_number zone; month = p.month; used = u; left = p.left } ∷ lines_of zone (amounts_left_in before) ps) used ∙ ap (λ ls. record { zone = zone_number zone; month = p.month; used = f p.month; left = p.left } ∷ ls) rest

  -- and add up to it
  pub lines_sum : (zone : Option Zone) (f : ℕ → ℕ) (before ps : List (Portion T)) → Less f before ps →
      left_in ps + total (λ (l : Line). l.used) (map (λ (p : Portion T). record { zone = zone_number zone; month = p.month; used = f p.month; left = p.left }) ps) ≡ left_in before
  lines_sum zone f [] [] l = refl
  lines_sum zone f [] (p ∷ ps) l = absurd l
  lines_sum zone f (was ∷ before) [] l = absurd l
  lines_sum zone f (was ∷ before) (p ∷ ps) l = omega (arith, l.0, lines_sum zone f before ps l.1)
