-- The totals of a month as a function of its hours, and the month's sums as a function of its totals.
use Rattle.std.proofs.Common.{◌≡◌, ℕ, ◌-◌, ◌<◌, ◌≤◌, Bool, true, false, List, [], ◌∷◌, length, get_or, Some, sym, refl, ap, ◌∙◌, subst, ap₂, arith, lit≤}
use mathlib.Core.HLevel.{×_prop}
use native.Mathlib.Bridge.{le_prop}
use native.Mathlib.Nat.{ℕ_set}
use Rattle.std.proofs.lemmas.Bool.{false≢true}
use Rattle.calendar.specs.Hour.{month_hours}
use Rattle.hours.specs.Marks.{zone_by_marks}
use Rattle.hours.specs.Reading.{zone_at}
use Rattle.hours.specs.Month.{HourRead, sum_over, taken_in, given_in, Sums, HasRead, Finished, MonthRead}
use Rattle.hours.specs.Summed.{listed_by_zone, taken_by_zone, given_by_zone, totals_of_hours, KeepsBounds, within, within_decides, summed_up, if_passed, sums_within}
use Rattle.hours.specs.declared.book.Terms.{Terms}
use Rattle.hours.specs.declared.book.Tally.{Tally}
use Rattle.hours.specs.declared.sums.MonthSums.{MonthSums}
use Rattle.hours.specs.declared.sums.Totals.{Totals}
use Rattle.hours.proofs.Closing.{marked_sums}

-- three entries by their zones
zones_are : (amount : ℕ → ℕ) (xs : List ℕ) → length xs ≡ 3 → ((z : ℕ) → 1 ≤ z → z ≤ 3 → get_or xs (z - 1) 0 ≡ amount z) → xs ≡ listed_by_zone amount
zones_are amount [] n at = absurd (omega arith)
zones_are amount (a ∷ []) n at = absurd (omega arith)
zones_are amount (a ∷ b ∷ []) n at = absurd (omega arith)
zones_are amount (a ∷ b ∷ c ∷ []) n at =
    let p = at 1 (lit≤ tt) (lit≤ tt) in
    let q = at 2 (lit≤ tt) (lit≤ tt) in
    let r = at 3 (lit≤ tt) (lit≤ tt) in
    λ i. p i ∷ q i ∷ r i ∷ []
zones_are amount (a ∷ b ∷ c ∷ d ∷ xs) n at = absurd (omega arith)

-- totals that are the sums over the hours are the totals of the hours
pub totals_are : (zone : ℕ → ℕ) (sale : List ℕ) (hs : List HourRead) (y : Totals)
    → length y.import ≡ 3 → length y.export ≡ 3 → Sums zone sale hs y → y ≡ totals_of_hours zone sale hs
totals_are zone sale hs y m n s =
    let p : y.import ≡ taken_by_zone zone hs = zones_are (λ z. sum_over (taken_in zone z) 0 hs) y.import m s.imports in
    let q : y.export ≡ given_by_zone zone hs = zones_are (λ z. sum_over (given_in zone z) 0 hs) y.export n s.exports in
    λ i. record { import = p i; export = q i; charge = s.charge i; value = s.value i }

-- sums of one month and of the same totals are equal: their bounds are facts
same_sums : (s : MonthSums) (h : KeepsBounds s.month s.totals) → summed_up s.month s.totals h ≡ s
same_sums s h = λ i.
    record {
      month = s.month;
      totals = s.totals;
      dated = ×_prop le_prop le_prop h.0 s.dated i;
      zoned = ×_prop (ℕ_set _ _) (ℕ_set _ _) h.1.0 s.zoned i;
      energy = le_prop h.1.1.0 s.energy i;
      charged = le_prop h.1.1.1.0 s.charged i;
      valued = le_prop h.1.1.1.1 s.valued i;
    }

-- a test that passes gives what it makes
passes : {A : Type 0} (b : Bool) (made : b ≡ true → A) (a : A) → b ≡ true → ((e : b ≡ true) → made e ≡ a) → if_passed b made ≡ Some a
passes true made a e k = ap Some (k refl)
passes false made a e k = absurd (false≢true e)

-- and nothing else
passed : {A : Type 0} (b : Bool) (made : b ≡ true → A) (a : A) → if_passed b made ≡ Some a → (e : b ≡ true) × (made e ≡ a)
passed true made a e = (refl, cc)
passed false made a e = let z : false ≡ true = cc in absurd (false≢true z)

-- every month's sums keep the bounds
pub sums_are : (s : MonthSums) → sums_within s.month s.totals ≡ Some s
unfolding sums_within
sums_are s =
    let h : KeepsBounds s.month s.totals = (s.dated, (s.zoned, (s.energy, (s.charged, s.valued)))) in
    let w = within_decides s.month s.totals in
    passes (within s.month s.totals) _ s (w.1 h) (λ e. same_sums s (w.0 e))

-- the sums have the month and the totals given
pub within_says : (m : ℕ) (y : Totals) (s : MonthSums) → sums_within m y ≡ Some s → (s.month ≡ m) × (s.totals ≡ y)
unfolding sums_within
within_says m y s e =
    let p = passed (within m y) _ s e in
    (sym (ap (λ (x : MonthSums). x.month) p.1), sym (ap (λ (x : MonthSums). x.totals) p.1))

-- the totals of a month that was read, by the marks and the sale prices given
pub month_totals : (t : Terms) (m : ℕ) (marks : List (List ℕ)) (sale : List ℕ) (hs : List HourRead) (totals : Totals)
    → t.sale ≡ sale → t.month.number ≡ m → ((p : ℕ) → p < month_hours m → zone_at t p ≡ zone_by_marks marks m p)
    → length totals.import ≡ 3 → length totals.export ≡ 3 → MonthRead t hs totals → totals ≡ totals_of_hours (zone_by_marks marks m) sale hs
month_totals t m marks sale hs totals e d zones i x r =
    totals_are (zone_by_marks marks m) sale hs totals i x
    (marked_sums t m marks sale hs totals e (r.whole ∙ ap month_hours d) zones r.sums)

-- a book's finished sums are those of the totals of the hours that it has read
pub finished_sums : (t : Terms) (y : Tally) (m : ℕ) (marks : List (List ℕ)) (sale : List ℕ) (hs : List HourRead) (s : MonthSums)
    → t.sale ≡ sale → t.month.number ≡ m → ((p : ℕ) → p < month_hours m → zone_at t p ≡ zone_by_marks marks m p)
    → HasRead t hs y → Finished t y s.month s.totals → sums_within m (totals_of_hours (zone_by_marks marks m) sale hs) ≡ Some s
finished_sums t y m marks sale hs s e d zones r f =
    let read : MonthRead t hs s.totals = record {
      whole = sym r.hours ∙ f.complete;
      sums = subst (λ (w : Totals). Sums (zone_at t) t.sale hs w) (sym f.kept) r.sums;
    } in
    let totals = month_totals t m marks sale hs s.totals e d zones s.zoned.0 s.zoned.1 read in
    ap₂ sums_within (sym (f.dated ∙ d)) (sym totals) ∙ sums_are s
