-- The totals of a list of hours, and the month's sums that they make.
use Rattle.std.specs.Prelude.{◌≡◌, ℕ, ◌+◌, ◌*◌, ◌<◌, ◌≤◌, Bool, true, false, ◌&&◌, List, [], ◌∷◌, length, Some, None, Decides, sum, Option, ◌==◌, nat_le, nat_lt, refl}
use Rattle.std.proofs.lemmas.Bool.{leb-true, le-leb}
use Rattle.std.proofs.lemmas.Bool.Decides.{Decides-and, Decides-eqb, Decides-ltb}
use Rattle.hours.specs.Month.{HourRead, sum_over, taken_in, given_in, costs, earns}
use Rattle.hours.specs.declared.sums.MonthSums.{MonthSums}
use Rattle.hours.specs.declared.sums.Totals.{Totals}

-- an amount for each of the zones 1 to 3
abbrev pub listed_by_zone : (ℕ → ℕ) → List ℕ
listed_by_zone amount = amount 1 ∷ amount 2 ∷ amount 3 ∷ []

-- the energy that the hours took in each zone
abbrev pub taken_by_zone : (ℕ → ℕ) → List HourRead → List ℕ
taken_by_zone zone hs = listed_by_zone (λ z. sum_over (taken_in zone z) 0 hs)

-- the energy that they gave in each zone
abbrev pub given_by_zone : (ℕ → ℕ) → List HourRead → List ℕ
given_by_zone zone hs = listed_by_zone (λ z. sum_over (given_in zone z) 0 hs)

-- the totals of the hours, the first of them at place 0; `zone` is the zone of each place
abbrev pub totals_of_hours : (ℕ → ℕ) → List ℕ → List HourRead → Totals
totals_of_hours zone sale hs =
    record {
      import = taken_by_zone zone hs;
      export = given_by_zone zone hs;
      charge = sum_over (costs zone sale) 0 hs;
      value = sum_over earns 0 hs;
    }

-- the most that 745 hours bring: 100,000 Wh each, at 1,000,000 gr per MWh
abbrev pub most_money : ℕ
most_money = 74500000 * 1000000

-- a test of the bounds that every complete month keeps: on its number, its zones, its energy and its money
abbrev pub within : ℕ → Totals → Bool
within m y =
    (nat_le 47 m && nat_lt m 1200)
    && ((length y.import == 3 && length y.export == 3)
    && (nat_le (sum y.import + sum y.export) 74500000 && (nat_le y.charge most_money && nat_le y.value most_money)))

-- the same bounds as facts
abbrev pub KeepsBounds : ℕ → Totals → Type 0
KeepsBounds m y =
    ((47 ≤ m) × (m < 1200))
    × (((length y.import ≡ 3) × (length y.export ≡ 3))
    × ((sum y.import + sum y.export ≤ 74500000) × ((y.charge ≤ most_money) × (y.value ≤ most_money))))

-- whether one number is at most another
at_most : (a b : ℕ) → Decides (nat_le a b) (a ≤ b)
at_most a b = (leb-true a b, le-leb a b)

-- the test passes exactly where the facts hold
pub within_decides : (m : ℕ) (y : Totals) → Decides (within m y) (KeepsBounds m y)
within_decides m y =
    Decides-and _ _ (Decides-and _ _ (at_most 47 m) (Decides-ltb m 1200))
    (Decides-and _ _ (Decides-and _ _ (Decides-eqb (length y.import) 3) (Decides-eqb (length y.export) 3))
    (Decides-and _ _ (at_most (sum y.import + sum y.export) 74500000)
    (Decides-and _ _ (at_most y.charge most_money) (at_most y.value most_money))))

-- the sums of a month whose totals keep the bounds
abbrev pub summed_up : (m : ℕ) (y : Totals) → KeepsBounds m y → MonthSums
summed_up m y h =
    record {
      month = m;
      totals = y;
      dated = h.0;
      zoned = h.1.0;
      energy = h.1.1.0;
      charged = h.1.1.1.0;
      valued = h.1.1.1.1;
    }

-- what a test gives where it passes, and none where it fails
abbrev pub if_passed : {A : Type 0} (b : Bool) → (b ≡ true → A) → Option A
if_passed true made = Some (made refl)
if_passed false made = None

-- a month's sums, where the totals keep the bounds that every complete month keeps
unfoldable pub sums_within : ℕ → Totals → Option MonthSums
sums_within m y = if_passed (within m y) (λ passed. summed_up m y ((within_decides m y).0 passed))
