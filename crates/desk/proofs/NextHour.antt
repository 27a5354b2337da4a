-- A book after the next hour, and its prices.
use Rattle.std.proofs.Common.{◌≡◌, ℕ, Bool, true, false, cond, List, length, ℤ, Some, None, Ok, Err, Option, Result, sym, refl, ap, ◌∙◌, subst, arith}
use Rattle.std.proofs.lemmas.Iterator.Adapters.{option_map_id}
use Rattle.std.specs.Option.{option_map, option_or}
use Rattle.faults.specs.declared.BookFault.{BookFault}
use Rattle.calendar.specs.Hour.{month_hours}
use Rattle.hours.specs.Price.{unless_some}
use Rattle.hours.specs.Reading.{zone_at, answer, reading, read_refusal, unless, joined}
use Rattle.hours.specs.Month.{HourRead, HasRead, noted}
use Rattle.hours.specs.declared.book.Terms.{Terms}
use Rattle.hours.specs.declared.book.Tally.{Tally}
use Rattle.desk.specs.declared.book.OpenBook.{OpenBook}
use Rattle.desk.specs.State.{BookState}
use Rattle.desk.specs.Books.{hourly_at, price_at, hour_read_next, with_next_hour, hour_refusal}
use Rattle.desk.specs.Means.{Holds, HoldsAfter, hours_are, hours_give, month_is, monthly_gives}

-- asking leaves both prices as they were
pub kept_prices : {A B : Type 0} (asks : Bool) (g : Option ℤ) (x x' : Option A) (y y' : Option B) →
    ◌≡◌ {A = Option A × Option B} (x', y') (cond asks (option_map (λ a. a) x, unless_some g y (option_map (λ b. b) y)) (x, y)) → (x' ≡ x) × (y' ≡ y)
kept_prices false g x x' y y' e = (ap (λ z. z.0) e, ap (λ z. z.1) e)
kept_prices true None x x' y y' e = (ap (λ z. z.0) e ∙ option_map_id x, ap (λ z. z.1) e ∙ option_map_id y)
kept_prices true (Some z) x x' y y' e = (ap (λ z. z.0) e ∙ option_map_id x, ap (λ z. z.1) e)

-- the state with the next hour read, or not where it is refused
abbrev after : ℕ → ℕ → BookState → Result (Unit {0}) BookFault → BookState
after i e s r = record { month = s.month; marks = s.marks; sale = s.sale; hourly = s.hourly; monthly = s.monthly; hours = noted s.hours (hour_read_next i e s) r }

by_answer : (b : OpenBook) (s : BookState) (i e : ℕ) (r : Result (Unit {0}) BookFault) (f : Option BookFault) (y : Tally) →
    hour_refusal i e s ≡ f → r ≡ answer (unless f y) → Holds b (after i e s r) → HoldsAfter (hour_refusal i e s) s (with_next_hour i e s) r b
by_answer b s i e (Ok tt) None y ef er h = (ef, h)
by_answer b s i e (Ok tt) (Some f) y ef er h = let z : ◌≡◌ {A = ℕ} 0 1 = cc in absurd (omega arith)
by_answer b s i e (Err x) None y ef er h = let z : ◌≡◌ {A = ℕ} 0 1 = cc in absurd (omega arith)
by_answer b s i e (Err x) (Some f) y ef er h = let q : Some f ≡ Some x = cc in (ef ∙ q, h)

module _ (b : OpenBook) (s : BookState) (holds : Holds b s) where
  -- the price that the book's sources give for the next hour
  abbrev pub price_given : Option ℤ
  price_given = option_or (hours_give (hours_are b.prices.upper) b.book.terms.month.number b.book.tally.hours) (monthly_gives (month_is b.prices.lower) b.book.terms.month.number b.book.tally.hours)

  price_is : price_given ≡ price_at s (length s.hours)
  price_is =
      ap (λ m. option_or (hours_give (hours_are b.prices.upper) m b.book.tally.hours) (monthly_gives (month_is b.prices.lower) m b.book.tally.hours)) holds.month
      ∙ ap (λ p. option_or (hours_give (hours_are b.prices.upper) s.month p) (monthly_gives (month_is b.prices.lower) s.month p)) holds.read.hours
      ∙ ap (λ g. option_or g (monthly_gives (month_is b.prices.lower) s.month (length s.hours))) (holds.hourly (length s.hours))
      ∙ ap (λ g. option_or (hourly_at s.hourly (length s.hours)) g) (holds.monthly (length s.hours))

  refusal_is : (i e : ℕ) → read_refusal (month_hours b.book.terms.month.number) b.book.tally.hours i e price_given ≡ hour_refusal i e s
  refusal_is i e =
      ap (λ m. read_refusal (month_hours m) b.book.tally.hours i e price_given) holds.month
      ∙ ap (λ p. read_refusal (month_hours s.month) p i e price_given) holds.read.hours
      ∙ ap (λ g. read_refusal (month_hours s.month) (length s.hours) i e g) price_is

  -- a book that has read the next hour, or was refused it
  pub read_holds : (b' : OpenBook) (i e : ℕ) (r : Result (Unit {0}) BookFault) → r ≡ answer (reading b.book.terms b.book.tally i e price_given) →
      b'.month ≡ b.month → b'.book.terms ≡ b.book.terms →
      ((hs : List HourRead) → HasRead b.book.terms hs b.book.tally → HasRead b.book.terms (noted hs (record { import = i; export = e; price = price_given }) r) b'.book.tally) →
      (hours_are b'.prices.upper ≡ hours_are b.prices.upper) × (month_is b'.prices.lower ≡ month_is b.prices.lower) → HoldsAfter (hour_refusal i e s) s (with_next_hour i e s) r b'
  read_holds b' i e r er em et read kept =
      by_answer b' s i e r (hour_refusal i e s) (joined b.book.terms b.book.tally i e price_given) refl (er ∙ ap (λ f. answer (unless f (joined b.book.terms b.book.tally i e price_given))) (refusal_is i e))
      (record {
        dated = em ∙ holds.dated;
        month = ap (λ (t : Terms). t.month.number) et ∙ holds.month;
        sales = ap (λ (t : Terms). t.sale) et ∙ holds.sales;
        zones = λ p h. ap (λ (t : Terms). zone_at t p) et ∙ holds.zones p h;
        read = subst (λ (t : Terms). HasRead t (noted s.hours (hour_read_next i e s) r) b'.book.tally) (sym et)
            (subst (λ g. HasRead b.book.terms (noted s.hours (record { import = i; export = e; price = g }) r) b'.book.tally) price_is (read s.hours holds.read));
        hourly = λ p. ap (λ h. hours_give h s.month p) kept.0 ∙ holds.hourly p;
        monthly = λ p. ap (λ h. monthly_gives h s.month p) kept.1 ∙ holds.monthly p;
      })
