-- What a book has read, hour after hour.
use Rattle.std.proofs.Common.{◌≡◌, ℕ, zero, suc, ◌+◌, ◌-◌, ◌*◌, ◌<◌, ◌≤◌, Bool, true, false, cond, eqb, ltb, leb, ◌≢◌, List, [], ◌∷◌, ◌++◌, length, get_or, ℤ, Some, None, Ok, Option, Result, sym, refl, ap, ◌∙◌, subst, inl, inr, add-zero, add_assoc, add-suc, suc-add, zero-add, arith, lit≤, length-append, get_or-set_other, get_or-set_same}
use Rattle.std.proofs.lemmas.Bool.Decides.{eqb_tells, nat_tests}
use Rattle.std.proofs.lemmas.Bool.{false≢true}
use Rattle.faults.specs.declared.BookFault.{BookFault}
use Rattle.faults.specs.declared.BookFault.TheVariants.{ReadingTooLarge, BookComplete}
use Rattle.hours.specs.Balance.{balance, energy_given, energy_taken}
use Rattle.hours.specs.Price.{worth}
use Rattle.hours.specs.Zones.{zone_number}
use Rattle.hours.specs.declared.zones.Zone.{Zone}
use Rattle.hours.specs.declared.zones.Zone.TheVariants.{First, Second, Third}
use Rattle.hours.specs.Bounds.{Bounded}
use Rattle.hours.specs.Reading.{hours_of, zone_at, more, joined, needs_price, read_refusal, too_large, unpriced, unless, reading, joined_at, ReadsIn, answer, after, nothing}
use Rattle.hours.specs.Month.{HourRead, sum_over, taken_in, given_in, costs, earns, HasRead, ReadsOn}
use Rattle.hours.specs.declared.book.Terms.{Terms}
use Rattle.hours.specs.declared.book.Tally.{Tally}
use Rattle.hours.proofs.Balance.{none_given}

-- one entry more at the end of a sum
pub sum_push : {A : Type 0} (f : ℕ → A → ℕ) (k : ℕ) (xs : List A) (x : A) → sum_over f k (xs ++ (x ∷ [])) ≡ sum_over f k xs + f (k + length xs) x
unfolding sum_over
sum_push f k [] x = let e = add-zero k in simp (add-zero, zero-add)
sum_push f k (y ∷ ys) x =
    ap (λ n. f k y + n) (sum_push f (suc k) ys x)
    ∙ sym (add_assoc (f k y) (sum_over f (suc k) ys) (f (suc k + length ys) x))
    ∙ ap (λ n. f k y + sum_over f (suc k) ys + f n x) (suc-add k (length ys) ∙ sym (add-suc k (length ys)))

-- zones have the numbers 1 to 3
pub numbered : (z : Zone) → (1 ≤ zone_number z) × (zone_number z ≤ 3)
numbered First = (lit≤ tt, lit≤ tt)
numbered Second = (lit≤ tt, lit≤ tt)
numbered Third = (lit≤ tt, lit≤ tt)

-- x more in zone w, seen from zone z
in_zone : (w z x : ℕ) (xs : List ℕ) → (1 ≤ w) × (w ≤ 3) → length xs ≡ 3 → 1 ≤ z → z ≤ 3
    → get_or (more xs w x) (z - 1) 0 ≡ get_or xs (z - 1) 0 + cond (eqb w z) x 0
in_zone w z x xs o l a b =
    elim (eqb_tells w z) [
      | inl t ↦
          let q : w - 1 ≡ z - 1 = omega (arith, t.1) in
          let k : z - 1 < length xs = omega arith in
          rw (t.0, q, get_or-set_same)
      | inr t ↦
          let q : z - 1 ≢ w - 1 = λ u. t.1 (omega arith) in
          rw (t.0, get_or-set_other, add-zero)
    ]

-- a sum with its next term
next : {A : Type 0} (f : ℕ → A → ℕ) (hs : List A) (h : A) (new old : ℕ) → new ≡ old + f (length hs) h → old ≡ sum_over f 0 hs
    → new ≡ sum_over f 0 (hs ++ (h ∷ []))
next f hs h new old a b =
    a ∙ ap (λ n. n + f (length hs) h) b ∙ sym (sum_push f 0 hs h ∙ ap (λ n. sum_over f 0 hs + f n h) (zero-add (length hs)))

-- the sums with one hour more
pub sums_more : (t : Terms) (y : Tally) (i e : ℕ) (g : Option ℤ) (hs : List HourRead)
    → length y.totals.import ≡ 3 → length y.totals.export ≡ 3 → HasRead t hs y
    → HasRead t (hs ++ ((record { import = i; export = e; price = g }) ∷ [])) (joined t y i e g)
sums_more t y i e g hs li le r =
    let o = numbered _ in
    let h : HourRead = record { import = i; export = e; price = g } in
    let at = r.hours in
    let z = zone_at t in
    record {
      hours = ap (λ n. n + 1) at ∙ sym (length-append hs (h ∷ []));
      sums = record {
        imports = λ k a b. next (taken_in z k) hs h _ _
            (in_zone (z y.hours) k (energy_taken (balance i e)) y.totals.import o li a b ∙ ap (λ p. get_or y.totals.import (k - 1) 0 + taken_in z k p h) at)
            (r.sums.imports k a b);
        exports = λ k a b. next (given_in z k) hs h _ _
            (in_zone (z y.hours) k (energy_given (balance i e)) y.totals.export o le a b ∙ ap (λ p. get_or y.totals.export (k - 1) 0 + given_in z k p h) at)
            (r.sums.exports k a b);
        charge = next (costs z t.sale) hs h _ _ (ap (λ p. y.totals.charge + costs z t.sale p h) at) r.sums.charge;
        value = next earns hs h _ _ refl r.sums.value;
      };
    }

by_refusal : (t : Terms) (y : Tally) (i e : ℕ) (g : Option ℤ) (f : Option BookFault)
    → length y.totals.import ≡ 3 → length y.totals.export ≡ 3
    → ReadsOn t y (record { import = i; export = e; price = g }) (answer (unless f (joined t y i e g))) (after y (unless f (joined t y i e g)))
by_refusal t y i e g (Some f) li le hs r = r
by_refusal t y i e g None li le hs r = sums_more t y i e g hs li le r

-- whatever was read before, after a reading that and the hour is read, or, where it is refused, that alone
pub reads_on : (t : Terms) (y : Tally) (i e : ℕ) (g : Option ℤ) (r : Result (Unit {0}) BookFault) (y' : Tally) → r ≡ answer (reading t y i e g) → y' ≡ after y (reading t y i e g)
    → Bounded y.hours y.totals → ReadsOn t y (record { import = i; export = e; price = g }) r y'
reads_on t y i e g r y' answered left b =
    let h : HourRead = record { import = i; export = e; price = g } in
    subst (λ (x : Result (Unit {0}) BookFault). ReadsOn t y h x y') (sym answered)
    (subst (λ (z : Tally). ReadsOn t y h (answer (reading t y i e g)) z) (sym left) (by_refusal t y i e g (read_refusal (hours_of t) y.hours i e g) b.0 b.1))

-- a reading that can be read is accepted where there is a price, and where none is needed
pub accepted : (t : Terms) (y : Tally) (i e z : ℕ) (g : Option ℤ) → ReadsIn t y i e z → (g ≡ None → e ≤ i) → read_refusal (hours_of t) y.hours i e g ≡ None
accepted t y i e z None r h =
    let a = r.import in let b = r.export in let c = r.room in let d = h refl in grind (arith, nat_tests)
accepted t y i e z (Some price) r h =
    let a = r.import in let b = r.export in let c = r.room in grind (arith, nat_tests)

-- and is joined to the tally at what the price is worth
pub joins : (t : Terms) (y : Tally) (i e rate : ℕ) (g : Option ℤ) (y' : Tally) → read_refusal (hours_of t) y.hours i e g ≡ None → rate ≡ worth g → y' ≡ joined_at t y i e rate → y' ≡ after y (reading t y i e g)
joins t y i e rate g y' n w j = j ∙ ap (joined_at t y i e) w ∙ sym (ap (λ f. after y (unless f (joined t y i e g))) n)

-- where the export is not larger, an hour is joined alike at any price
joined_free : (t : Terms) (y : Tally) (i e : ℕ) (g g' : Option ℤ) → e ≤ i → joined t y i e g ≡ joined t y i e g'
joined_free t y i e g g' h =
    let n = none_given i e h in
    let v : (w : ℕ) → y.totals.value + energy_given (balance i e) * w ≡ y.totals.value = λ w. rw n (omega arith) in
    ap (λ (x : ℕ). record { hours = y.hours + 1; totals = record { import = (joined t y i e g).totals.import; export = (joined t y i e g).totals.export; charge = (joined t y i e g).totals.charge; value = x } })
    (v (worth g) ∙ sym (v (worth g')))

-- where no price is needed, an hour is read alike at any
same_unless : (large complete priced : Bool) (g g' : Option ℤ) (y y' : Tally) → cond large false (cond complete false priced) ≡ false → (priced ≡ false → y ≡ y')
    → unless (cond large (Some ReadingTooLarge) (cond complete (Some BookComplete) (cond priced (unpriced g) None))) y
    ≡ unless (cond large (Some ReadingTooLarge) (cond complete (Some BookComplete) (cond priced (unpriced g') None))) y'
same_unless true complete priced g g' y y' n j = refl
same_unless false true priced g g' y y' n j = refl
same_unless false false true g g' y y' n j = absurd (false≢true (sym n))
same_unless false false false g g' y y' n j = ap Ok (j refl)

pub unneeded_alike : (t : Terms) (y : Tally) (i e : ℕ) (g g' : Option ℤ) → needs_price (hours_of t) y.hours i e ≡ false → reading t y i e g ≡ reading t y i e g'
unneeded_alike t y i e g g' n =
    same_unless (too_large i e) (leb (hours_of t) y.hours) (ltb i e) g g' _ _ n (λ h. let k : e ≤ i = grind (arith, nat_tests) in joined_free t y i e g g' k)

zero_at : (k : ℕ) → ◌≡◌ {A = ℕ} (get_or (0 ∷ 0 ∷ 0 ∷ []) k 0) 0
zero_at zero = refl
zero_at (suc zero) = refl
zero_at (suc (suc zero)) = refl
zero_at (suc (suc (suc k))) = refl

-- a book that is opened has read nothing
pub read_none : (t : Terms) (y : Tally) → y ≡ nothing → HasRead t [] y
unfolding sum_over
read_none t y e = subst (λ (w : Tally). HasRead t [] w) (sym e)
    (record { hours = refl; sums = record { imports = λ z a b. zero_at (z - 1); exports = λ z a b. zero_at (z - 1); charge = refl; value = refl } })
