-- What the library says with a source's prices, said with the input's.
use Rattle.std.proofs.Common.{◌≡◌, ℕ, List, ℤ, Option, sym}
use Rattle.std.specs.Option.{option_or}
use Rattle.hours.specs.Price.{hour_gives, month_gives}
use Rattle.hours.specs.Whole.{MonthSummed, month_refusal}
use Rattle.hours.specs.declared.book.Reading.{Reading}
use Rattle.hours.specs.declared.sums.Totals.{Totals}
use Rattle.hours.specs.declared.whole.MonthRefused.{MonthRefused}
use Rattle.month_sums.specs.Told.{price_of_hour}

pub carried : (m : ℕ) (marks : List (List ℕ)) (sale : List ℕ) (upper lower : ℕ) (ps qs : List ℤ) (z w : ℤ) (rs ss : List Reading) (month : ℕ) (totals : Totals)
    → upper ≡ m → ps ≡ qs → lower ≡ m → z ≡ w → rs ≡ ss
    → MonthSummed m marks sale (λ p. option_or (hour_gives upper ps m p) (month_gives lower z m p)) rs month totals
    → MonthSummed m marks sale (price_of_hour m qs w) ss month totals
carried m marks sale upper lower ps qs z w rs ss month totals u p l e r h = rw (u, p, l, e, r) at h

pub refusal_carried : (m : ℕ) (marks : List (List ℕ)) (sale : List ℕ) (upper lower : ℕ) (ps qs : List ℤ) (z w : ℤ) (rs ss : List Reading) (f : Option MonthRefused)
    → upper ≡ m → ps ≡ qs → lower ≡ m → z ≡ w → rs ≡ ss
    → f ≡ month_refusal m marks sale (λ p. option_or (hour_gives upper ps m p) (month_gives lower z m p)) rs
    → month_refusal m marks sale (price_of_hour m qs w) ss ≡ f
refusal_carried m marks sale upper lower ps qs z w rs ss f u p l e r h = sym (rw (u, p, l, e, r) at h)
