-- A month at two prices for each place, which are the same wherever the source is asked.
use Rattle.std.proofs.Common.{◌≡◌, ℕ, suc, ◌*◌, Bool, true, false, cond, leb, ltb, List, [], ◌∷◌, length, All, ℤ, Some, None, Option, refl, ap, ◌∙◌, subst, arith}
use Rattle.std.proofs.lemmas.Bool.Decides.{nat_tests}
use Rattle.std.specs.Option.{option_or}
use Rattle.calendar.specs.Hour.{month_hours}
use Rattle.faults.specs.declared.BookFault.{BookFault}
use Rattle.faults.specs.declared.BookFault.TheVariants.{ReadingTooLarge, BookComplete}
use Rattle.hours.specs.Balance.{balance, energy_given}
use Rattle.hours.specs.Marks.{zone_by_marks}
use Rattle.hours.specs.Month.{HourRead, sum_over, taken_in, given_in, costs, earns}
use Rattle.hours.specs.Opening.{book_open_refusal}
use Rattle.hours.specs.Price.{worth}
use Rattle.hours.specs.Reading.{needs_price, read_refusal, too_large, unpriced}
use Rattle.hours.specs.Runs.{SummedAlike}
use Rattle.hours.specs.Whole.{hours_from, refused_at, refused_from, missing, until_refused, and_at, questions_from, month_questions}
use Rattle.hours.specs.declared.book.Reading.{Reading}
use Rattle.hours.specs.declared.whole.MonthRefused.{MonthRefused}
use Rattle.hours.proofs.Balance.{none_given}
use Rattle.hours.proofs.Sources.{by_bool, first_of, others_of}

-- the refusal of one reading
refused_alike : (large complete priced : Bool) (g g' : Option ℤ) → (cond large false (cond complete false priced) ≡ true → g ≡ g')
    → cond large (Some ReadingTooLarge) (cond complete (Some BookComplete) (cond priced (unpriced g) None))
    ≡ cond large (Some ReadingTooLarge) (cond complete (Some BookComplete) (cond priced (unpriced g') None))
refused_alike true complete priced g g' h = refl
refused_alike false true priced g g' h = refl
refused_alike false false true g g' h = ap unpriced (h refl)
refused_alike false false false g g' h = refl

-- a refusal, or what comes later, where that is alike
or_later : (P : ℕ → Type 0) (f : Option BookFault) (k : ℕ) (later later' : Option MonthRefused) (qs qs' : List ℕ) → All P (until_refused f qs)
    → (All P qs → (later ≡ later') × (qs ≡ qs')) → (refused_at k f later ≡ refused_at k f later') × (until_refused f qs ≡ until_refused f qs')
or_later P (Some f) k later later' qs qs' a h = (refl, refl)
or_later P None k later later' qs qs' a h = h a

none_of : (f : Option BookFault) (k : ℕ) (later : Option MonthRefused) → refused_at k f later ≡ None → (f ≡ None) × (later ≡ None)
none_of (Some f) k later e = cc
none_of None k later e = (refl, e)

none_first : (a b : Option MonthRefused) → option_or a b ≡ None → a ≡ None
none_first (Some x) b e = cc
none_first None b e = refl

-- sums that ask for no price
sum_alike : (f : ℕ → HourRead → ℕ) → ((j i e : ℕ) (g g' : Option ℤ) → f j (record { import = i; export = e; price = g }) ≡ f j (record { import = i; export = e; price = g' }))
    → (prices prices' : ℕ → Option ℤ) (j k : ℕ) (rs : List Reading) → sum_over f j (hours_from prices k rs) ≡ sum_over f j (hours_from prices' k rs)
unfolding sum_over
sum_alike f h prices prices' j k [] = refl
sum_alike f h prices prices' j k (r ∷ rs) =
    let first = h j r.import r.export (prices k) (prices' k) in
    let rest = sum_alike f h prices prices' (suc j) (suc k) rs in
    omega arith

module _ (hours : ℕ) (prices prices' : ℕ → Option ℤ) where
  abbrev Same : ℕ → Type 0
  Same p = prices p ≡ prices' p

  from_alike : (k : ℕ) (rs : List Reading) → All Same (questions_from hours prices k rs)
      → (refused_from hours prices k rs ≡ refused_from hours prices' k rs) × (questions_from hours prices k rs ≡ questions_from hours prices' k rs)
  from_alike k [] a = (refl, refl)
  from_alike k (r ∷ rs) a =
      let i = r.import in
      let e = r.export in
      let b = needs_price hours k i e in
      let qs = questions_from hours prices (suc k) rs in
      let qs' = questions_from hours prices' (suc k) rs in
      let later' = refused_from hours prices' (suc k) rs in
      let f = read_refusal hours k i e (prices k) in
      let same : f ≡ read_refusal hours k i e (prices' k) =
      refused_alike (too_large i e) (leb hours k) (ltb i e) _ _ (λ h. first_of Same b k (until_refused f qs) a h) in
      let rest = or_later Same f k (refused_from hours prices (suc k) rs) later' qs qs' (others_of Same b k (until_refused f qs) a) (λ x. from_alike (suc k) rs x) in
      (rest.0 ∙ ap (λ o. refused_at k o later') same, ap (and_at b k) (rest.1 ∙ ap (λ o. until_refused o qs') same))

  -- what the hours earn, where none is refused
  earned_alike : (j k : ℕ) (rs : List Reading) → All Same (questions_from hours prices k rs) → refused_from hours prices k rs ≡ None
      → sum_over earns j (hours_from prices k rs) ≡ sum_over earns j (hours_from prices' k rs)
  unfolding sum_over
  earned_alike j k [] a n = refl
  earned_alike j k (r ∷ rs) a n =
      let i = r.import in
      let e = r.export in
      let b = needs_price hours k i e in
      let qs = questions_from hours prices (suc k) rs in
      let f = read_refusal hours k i e (prices k) in
      let none = none_of f k (refused_from hours prices (suc k) rs) n in
      let first : energy_given (balance i e) * worth (prices k) ≡ energy_given (balance i e) * worth (prices' k) =
      by_bool b (λ h. ap (λ g. energy_given (balance i e) * worth g) (first_of Same b k (until_refused f qs) a h))
      (λ h.
      let accepted = none.0 in
      let z = none_given i e (grind (arith, nat_tests)) in
      rw z (omega arith)) in
      let others : All Same qs = subst (λ (o : Option BookFault). All Same (until_refused o qs)) none.0 (others_of Same b k (until_refused f qs) a) in
      let rest = earned_alike (suc j) (suc k) rs others none.1 in
      omega arith

pub summed_alike : (m : ℕ) (marks : List (List ℕ)) (sale : List ℕ) (prices prices' : ℕ → Option ℤ) (rs : List Reading)
    → All (λ p. prices p ≡ prices' p) (month_questions m marks sale prices rs) → SummedAlike m marks sale prices prices' rs
summed_alike m marks sale prices prices' rs a =
    let hours = month_hours m in
    let f = book_open_refusal m marks sale in
    let qs = questions_from hours prices 0 rs in
    let end = refused_at (length rs) (missing hours rs) None in
    let zone = zone_by_marks marks m in
    let both = or_later (Same hours prices prices') f 0 (option_or (refused_from hours prices 0 rs) end) (option_or (refused_from hours prices' 0 rs) end) qs (questions_from hours prices' 0 rs) a
    (λ x. let w = from_alike hours prices prices' 0 rs x in (ap (λ o. option_or o end) w.0, w.1)) in
    record {
      refusal = both.0;
      questions = both.1;
      sums = λ n month totals s.
          let none = none_of f 0 (option_or (refused_from hours prices 0 rs) end) n in
          let asked : All (Same hours prices prices') qs = subst (λ (o : Option BookFault). All (Same hours prices prices') (until_refused o qs)) none.0 a in
          let read = none_first (refused_from hours prices 0 rs) end none.1 in
          record {
            dated = s.dated;
            whole = s.whole;
            sums = record {
              imports = λ z g h. s.sums.imports z g h ∙ sum_alike (taken_in zone z) (λ j i e x y. refl) prices prices' 0 0 rs;
              exports = λ z g h. s.sums.exports z g h ∙ sum_alike (given_in zone z) (λ j i e x y. refl) prices prices' 0 0 rs;
              charge = s.sums.charge ∙ sum_alike (costs zone sale) (λ j i e x y. refl) prices prices' 0 0 rs;
              value = s.sums.value ∙ earned_alike hours prices prices' 0 0 rs asked read;
            };
          };
    }
