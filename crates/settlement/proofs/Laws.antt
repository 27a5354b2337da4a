-- How money is rounded, how portions and periods end, how much is covered, and which zones and lines there are.
use Rattle.std.proofs.Common.{◌≡◌, ℕ, zero, suc, ◌+◌, ◌-◌, ◌*◌, ◌%◌, ◌<◌, ◌/◌, min, get_or, eqb, Contains, ◌⊎◌, [], ◌∷◌, sym, refl, ap, ◌∙◌, arith}
use Rattle.std.proofs.lemmas.Bool.Decides.{nat_tests}
use Rattle.std.proofs.lemmas.Bool.{eqb-true, eq-eqb}
use Rattle.calendar.specs.Calendar.{calendar_month_of}
use Rattle.portions.specs.Sums.{total}
use Rattle.settlement.specs.Coverings.{counted_for}
use Rattle.settlement.specs.Table.{ends, period_of}
use Rattle.settlement.specs.Metering.{metering, or_monthly}
use Rattle.settlement.specs.Rounding.{RoundsMoney}
use Rattle.settlement.specs.Ending.{EndsPortions}
use Rattle.settlement.specs.Year.{EndsPeriods}
use Rattle.settlement.specs.Tenths.{GivesTenths}
use Rattle.settlement.specs.Listed.{ListsZones, NamesZones}
use Rattle.settlement.specs.Room.{AsksForLines}
use Rattle.settlement.specs.Entries.{TakesByZone}
use Rattle.settlement.specs.Billing.{billing}
use Rattle.hours.specs.Zones.{zone_number}
use Rattle.hours.specs.declared.sums.MonthSums.{MonthSums}
use Rattle.hours.specs.declared.zones.Zone.{Zone}
use Rattle.hours.specs.declared.zones.Zone.TheVariants.{First, Second, Third}

pub rounds_money : RoundsMoney
rounds_money = record {
  bill = λ sums. record { from = omega arith; below = omega arith };
  deposit = λ sums. record { from = omega arith; below = omega arith };
  cap = λ o sums. record { within = omega arith; no_larger = λ k le. omega arith };
}

smaller_is : (a b : ℕ) → (min a b ≡ a) ⊎ (min a b ≡ b)
smaller_is a b = grind arith

pub ends_portions : EndsPortions
ends_portions = record {
  energy_life = refl;
  deposit_life = refl;
  energy_refund = λ p. refl;
  deposit_refund = λ p. record { at_most_one = omega arith; at_most_other = omega arith; one_of_them = smaller_is p.terms p.left };
  energy_rest = λ p. omega arith;
  deposit_rest = λ p. omega arith;
}

pub gives_tenths : GivesTenths
gives_tenths = record {
  eight = λ o some few. grind (arith, nat_tests);
  seven = λ o some few. grind (arith, nat_tests);
  ten = λ o. refl;
}

-- the k-th of the months with which periods end
even_month : (k d : ℕ) → k < 6 → get_or (2 ∷ 4 ∷ 6 ∷ 8 ∷ 10 ∷ 12 ∷ []) k d ≡ 2 * k + 2
even_month zero d less = refl
even_month (suc zero) d less = refl
even_month (suc (suc zero)) d less = refl
even_month (suc (suc (suc zero))) d less = refl
even_month (suc (suc (suc (suc zero)))) d less = refl
even_month (suc (suc (suc (suc (suc zero))))) d less = refl
even_month (suc (suc (suc (suc (suc (suc k)))))) d less = absurd (omega arith)

half_month : (k d : ℕ) → k < 2 → get_or (6 ∷ 12 ∷ []) k d ≡ 6 * k + 6
half_month zero d less = refl
half_month (suc zero) d less = refl
half_month (suc (suc k)) d less = absurd (omega arith)

pub ends_periods : EndsPeriods
ends_periods = record {
  every_month = λ o is m. ap (λ n. ends (or_monthly (period_of n)) m) is;
  every_second = λ o is m.
      let at : metering.ends_in o m ≡ eqb (m % 2) 1 = ap (λ n. ends (or_monthly (period_of n)) m) is in (
        λ ends. let odd = eqb-true (m % 2) 1 (sym at ∙ ends) in (m % 12 / 2, omega arith, omega (arith, even_month (m % 12 / 2) (calendar_month_of m) (omega arith))),
        λ c. at ∙ eq-eqb (m % 2) 1 (omega (arith, even_month c.0 (calendar_month_of m) c.1, c.2)),
      );
  every_sixth = λ o is m.
      let at : metering.ends_in o m ≡ eqb (m % 6) 5 = ap (λ n. ends (or_monthly (period_of n)) m) is in (
        λ ends. let last = eqb-true (m % 6) 5 (sym at ∙ ends) in (m % 12 / 6, omega arith, omega (arith, half_month (m % 12 / 6) (calendar_month_of m) (omega arith))),
        λ c. at ∙ eq-eqb (m % 6) 5 (omega (arith, half_month c.0 (calendar_month_of m) c.1, c.2)),
      );
  billed = λ o m. refl;
}

same_zone : (y z : Zone) → zone_number y ≡ zone_number z → y ≡ z
same_zone First First e = refl
same_zone First Second e = absurd (omega (arith, e))
same_zone First Third e = absurd (omega (arith, e))
same_zone Second First e = absurd (omega (arith, e))
same_zone Second Second e = refl
same_zone Second Third e = absurd (omega (arith, e))
same_zone Third First e = absurd (omega (arith, e))
same_zone Third Second e = absurd (omega (arith, e))
same_zone Third Third e = refl

has_zone : (z : Zone) → Contains metering.zones z
has_zone First = (0, omega arith, refl)
has_zone Second = (1, omega arith, refl)
has_zone Third = (2, omega arith, refl)

has_once : (z : Zone) → total (λ k. counted_for metering z k 1) metering.zones ≡ 1
has_once First = refl
has_once Second = refl
has_once Third = refl

pub lists_zones : ListsZones metering
lists_zones = record { placed = same_zone; listed = has_zone; once = has_once }

pub lists_one : ListsZones billing
lists_one = record { placed = λ y z e. refl; listed = λ z. (0, omega arith, refl); once = λ z. refl }

pub asks_for_lines : AsksForLines
asks_for_lines = record { metered = refl; billed = refl; metered_room = refl; billed_room = refl }

stored_of : (sums : MonthSums) (z : Zone) → metering.stored sums z ≡ get_or sums.totals.export (zone_number z - 1) 0
stored_of sums First = refl
stored_of sums Second = refl
stored_of sums Third = refl

pending_of : (sums : MonthSums) (z : Zone) → metering.demand sums z ≡ get_or sums.totals.import (zone_number z - 1) 0
pending_of sums First = refl
pending_of sums Second = refl
pending_of sums Third = refl

pub takes_by_zone : TakesByZone
takes_by_zone = record { stored = stored_of; pending = pending_of }

pub names_zones : NamesZones
names_zones = record { place = λ z. refl; order = refl; mark = λ z. refl; no_mark = refl }
