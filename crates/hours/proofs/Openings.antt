-- What the tests at an opening show of the marks and the sale prices.
use Rattle.std.proofs.Common.{◌≡◌, ℕ, ◌<◌, ◌≤◌, true, false, ◌&&◌, List, [], ◌∷◌, get_or, Some, None, refl, sym, ap, ap₂, ◌∙◌, arith}
use Rattle.std.proofs.lemmas.Bool.Decides.{nat_tests}
use Rattle.faults.specs.declared.BookFault.TheVariants.{SalePriceTooHigh}
use Rattle.calendar.specs.Hour.{hour_of_place, month_hours}
use Rattle.calendar.proofs.Hours.{clock_within}
use Rattle.hours.specs.Marks.{MarkedBy, each_zone, marks_of, zone_by_marks, zone_kept}
use Rattle.hours.specs.Packed.{zones_in}
use Rattle.hours.specs.Zones.{zone_number}
use Rattle.hours.specs.declared.marks.Marks.{Marks}
use Rattle.hours.specs.declared.zones.Zone.{Zone}
use Rattle.hours.specs.declared.zones.Zone.TheVariants.{First, Second, Third}
use Rattle.hours.specs.Opening.{each_cheap, book_open_refusal}

named : (zones : List Zone) → each_zone (marks_of zones) ≡ true
named [] = refl
named (First ∷ zs) = named zs
named (Second ∷ zs) = named zs
named (Third ∷ zs) = named zs

pub not_refused : (m : ℕ) (marks : List (List ℕ)) (sale : List ℕ) → 47 ≤ m → m < 1200 → (each_zone (get_or marks 0 []) && each_zone (get_or marks 1 [])) ≡ true
    → each_cheap sale ≡ true → book_open_refusal m marks sale ≡ None
not_refused m marks sale a b w c = grind (arith, nat_tests)

pub too_high : (m : ℕ) (marks : List (List ℕ)) (sale : List ℕ) → 47 ≤ m → m < 1200 → (each_zone (get_or marks 0 []) && each_zone (get_or marks 1 [])) ≡ true
    → each_cheap sale ≡ false → book_open_refusal m marks sale ≡ Some SalePriceTooHigh
too_high m marks sale a b w c = grind (arith, nat_tests)

-- marks that are those of the rows have the zone of each hour that the rows have
pub zones_marked : (n m : ℕ) (kept : Marks) (marks : List (List ℕ)) → n ≡ m → MarkedBy kept marks → (p : ℕ) → p < month_hours m
    → zone_number (zone_kept kept (hour_of_place n p).weekend (hour_of_place n p).clock) ≡ zone_by_marks marks m p
zones_marked n m kept marks e r p k =
    ap (λ i. zone_number (zone_kept kept (hour_of_place i p).weekend (hour_of_place i p).clock)) e
    ∙ r.named (hour_of_place m p).weekend (hour_of_place m p).clock (clock_within m p k)

-- the two rows of an opening name zones
pub named_rows : (kept : Marks) (marks : List (List ℕ)) → MarkedBy kept marks → (each_zone (get_or marks 0 []) && each_zone (get_or marks 1 [])) ≡ true
named_rows kept marks r = sym (ap (λ (rows : List (List ℕ)). each_zone (get_or rows 0 []) && each_zone (get_or rows 1 [])) r.unpacked) ∙ ap₂ (λ x y. x && y) (named (zones_in kept.working)) (named (zones_in kept.weekend))
