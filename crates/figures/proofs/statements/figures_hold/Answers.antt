use Rattle.std.proofs.Common.{refl}
use Rattle.calendar.specs.Sums.{sum_to}
use Rattle.calendar.specs.Calendar.{days_before_month}
use Rattle.calendar.specs.Hour.{hours_before}
use Rattle.hours.specs.Month.{sum_over}
use Rattle.figures.proofs.statements.figures_hold.Goals as goal

pub returns : goal.returns
unfolding sum_to days_before_month hours_before sum_over
returns c =
    record {
      february_2024_hours = refl;
      march_2024_hours = refl;
      october_2024_hours = refl;
      sellers_table_taken = refl;
      sellers_table_given = refl;
      halves = refl;
      thirds = refl;
      invoice_emptied = refl;
      open_in_87 = refl;
      ended_in_88 = refl;
      deposit_open_in_87 = refl;
      deposit_ended_in_88 = refl;
      energy_refund = refl;
      refund_below_the_cap = refl;
      refund_at_the_cap = refl;
      refund_above_the_cap = refl;
      settlements = record { left_of_two = refl; due_of_a_year = refl; wanted_for_1000 = refl; covered_by_1429 = refl; covered_by_999 = refl; due_after_999 = refl; used_for_1 = refl; covered_of_1 = refl; due_of_1 = refl; due_of_zones_in_need = refl; left_by_zone_in_need = refl; kept_by_108 = refl; lost_by_109 = refl; deposit_for_300_zloty = refl; cap_at_20_percent = refl; deposit_at_a_half = refl; deposit_below_a_half = refl; bill_at_a_half = refl; bill_below_a_half = refl; cap_below_2 = refl; openings = record { first_month = refl; last_month = refl; most_power = refl; few_slots = refl; early = refl; late = refl; no_power = refl; much_power = refl; no_months = refl; three_months = refl; tenths_at_10000 = refl; tenths_at_10001 = refl; no_percentage = refl; whole_percentage = refl; billed_few_slots = refl; billed_early = refl; billed_late = refl; much_percentage = refl } };
    }
