-- The metering account: an energy store for each zone, and the import that is pending in each.
use Rattle.std.specs.Prelude.{◌≡◌, ◌≢◌, ℕ, ◌+◌, ◌-◌, ◌*◌, ◌/◌, ◌<◌, min, Bool, true, false, cond, List, [], ◌∷◌, ◌++◌, length, Some, None, Option, is_some, unwrap_or, nat_le, nat_lt, slice_index, ◌⊎◌}
use Rattle.faults.specs.declared.AccountFault.{AccountFault}
use Rattle.faults.specs.declared.AccountFault.TheVariants.{InStore, MonthOutOfRange, PowerOutOfRange, PeriodUnknown}
use Rattle.faults.specs.declared.StoreFault.TheVariants.{TooFewSlots}
use Rattle.hours.specs.declared.sums.MonthSums.{MonthSums}
use Rattle.portions.specs.Sums.{sum}
use Rattle.ledger.specs.Rules.{Rule}
use Rattle.ledger.specs.Ledger as ledger
use Rattle.ledger.specs.Ledger.{Ledger, lefts}
use Rattle.histories.specs.Machines.{asks}
use Rattle.ledger.specs.Steps.{takings, drawing, entering, turning, refunds, losses}
use Rattle.settlement.specs.declared.answers.Line.{Line}
use Rattle.settlement.specs.declared.answers.Settlement.{Settlement}
use Rattle.settlement.specs.declared.states.MonthState.{MonthState}
use Rattle.settlement.specs.declared.states.MonthState.TheVariants.{Waiting, Entered, Settled}
use Rattle.settlement.specs.declared.states.Period.{Period}
use Rattle.settlement.specs.declared.states.Period.TheVariants.{Monthly}
use Rattle.hours.specs.declared.zones.Zone.{Zone}
use Rattle.hours.specs.Zones.{zone_number}
use Rattle.hours.specs.declared.zones.Zone.TheVariants.{First, Second, Third}
use Rattle.settlement.specs.declared.zones.Zones.{Zones}
use Rattle.settlement.specs.Zones.{of, put, all, each, each_two}
use Rattle.settlement.specs.Kinds.{energy}
use Rattle.settlement.specs.Table.{ends, period_of}
use Rattle.settlement.specs.Lines.{lines_of}
use Rattle.settlement.specs.Accounts.{Workings, Covering}

-- what a metering account means: the coefficient in tenths, its period, the import pending and the store of each zone
pub record MeterAccount : Type 0 where
  pub opened : Bool
  pub coefficient : ℕ
  pub period : Period
  pub state : MonthState
  pub pending : Zones ℕ
  pub stores : Zones (Ledger (Unit {0}))

-- what one is opened for: the fewest slots that a store has, the month, the power in W and the months of a period
pub record MeterOpening : Type 0 where
  pub slots : ℕ
  pub month : ℕ
  pub power : ℕ
  pub months : ℕ

-- before an opening is accepted
abbrev pub closed : MeterAccount
closed = record { opened = false; coefficient = 8; period = Monthly; state = Waiting; pending = all 0; stores = all ledger.closed }

-- the coefficient of an installation of so many W, in tenths
abbrev pub coefficient_for : ℕ → ℕ
coefficient_for power = cond (nat_le power 10000) 8 7

-- the period of so many months, where there is one
abbrev pub or_monthly : Option Period → Period
or_monthly period = unwrap_or period Monthly

-- right after an opening
abbrev pub opening : MeterOpening → MeterAccount
opening o = record { opened = true; coefficient = coefficient_for o.power; period = or_monthly (period_of o.months); state = Waiting; pending = all 0; stores = all (ledger.opening o.month) }

-- an opening asks for 13 slots a store, a month from 47 to 1,199, a power from 1 to 50,000 W and a period of 1, 2 or 6 months
abbrev pub open_refusal : MeterOpening → Option AccountFault
open_refusal o =
    asks (nat_lt 12 o.slots) (InStore TooFewSlots)
    (asks (nat_le 47 o.month) MonthOutOfRange (asks (nat_le o.month 1199) MonthOutOfRange
    (asks (nat_le 1 o.power) PowerOutOfRange (asks (nat_le o.power 50000) PowerOutOfRange
    (asks (is_some (period_of o.months)) PeriodUnknown None)))))

-- when a number applies to an opening: for the slots, the month, the power and the period
abbrev pub Applies : MeterOpening → ℕ → Type 0
Applies o n =
    ((n ≡ 1) × (o.slots < 13))
    ⊎ (((n ≡ 2) × ((o.month < 47) ⊎ (1199 < o.month)))
    ⊎ (((n ≡ 21) × ((o.power ≡ 0) ⊎ (50000 < o.power)))
    ⊎ ((n ≡ 22) × (o.months ≢ 1) × (o.months ≢ 2) × (o.months ≢ 6))))

-- the energies of a month's sums, by zone
abbrev pub split_by_zone : List ℕ → Zones ℕ
split_by_zone xs = record { one = slice_index xs 0; two = slice_index xs 1; three = slice_index xs 2 }

-- after an accepted enter: each zone's export is stored, and its import is pending with what was
abbrev pub entering_meter : MonthSums → MeterAccount → MeterAccount
entering_meter sums a = record {
  opened = true;
  coefficient = a.coefficient;
  period = a.period;
  state = Entered;
  pending = each_two ◌+◌ a.pending (split_by_zone sums.totals.import);
  stores = each_two (λ amount store. entering amount tt store) (split_by_zone sums.totals.export) a.stores;
}

-- wanted of a store to cover p: 10 p / c, rounded up
abbrev pub wanted : ℕ → ℕ → ℕ
wanted c p = (10 * p + (c - 1)) / c

-- covered of p by u from a store: u c / 10, rounded down, and at most p
abbrev pub covered : ℕ → ℕ → ℕ → ℕ
covered c p u = min p (u * c / 10)

-- how far a settlement has come: the stores, and the rest that is not covered in each zone
pub record Course : Type 0 where
  pub stores : Zones (Ledger (Unit {0}))
  pub rests : Zones ℕ

-- what the rule takes for a zone's rest from the store of a zone
abbrev pub taken : Rule → ℕ → Zone → Zone → Course → List ℕ
taken rule c zone from course = takings rule (wanted c (of zone course.rests)) (of from course.stores)

-- a zone's rest is covered from one store; a rest of 0 wants 0, which takes nothing
abbrev pub cover : Rule → ℕ → Zone → Zone → Course → Course
cover rule c zone from course = record {
  stores = put from (drawing (taken rule c zone from course) (of from course.stores)) course.stores;
  rests = put zone (of zone course.rests - covered c (of zone course.rests) (sum (taken rule c zone from course))) course.rests;
}

-- the first pass: each zone from its own store
abbrev pub own_stores : List (Zone × Zone)
own_stores = (First, First) ∷ (Second, Second) ∷ (Third, Third) ∷ []

-- the second pass: each zone from the stores of the others
abbrev pub other_stores : List (Zone × Zone)
other_stores = (First, Second) ∷ (First, Third) ∷ (Second, First) ∷ (Second, Third) ∷ (Third, First) ∷ (Third, Second) ∷ []

-- one after the other
abbrev pub covers : Rule → ℕ → List (Zone × Zone) → Course → Course
covers rule c [] course = course
covers rule c (pair ∷ pairs) course = covers rule c pairs (cover rule c pair.0 pair.1 course)

-- a covering, as it is told
abbrev pub covering_at : Rule → ℕ → Zone → Zone → Course → Covering Zone
covering_at rule c zone from course = record {
  zone = zone;
  from = from;
  rest = of zone course.rests;
  wanted = wanted c (of zone course.rests);
  used = sum (taken rule c zone from course);
  covers = covered c (of zone course.rests) (sum (taken rule c zone from course));
}

-- the coverings of several pairs, after others
abbrev pub coverings : Rule → ℕ → List (Zone × Zone) → Course → List (Covering Zone) → List (Covering Zone)
coverings rule c [] course before = before
coverings rule c (pair ∷ pairs) course before =
    coverings rule c pairs (cover rule c pair.0 pair.1 course) (covering_at rule c pair.0 pair.1 course ∷ before)

-- where a settlement begins
abbrev pub outset : MeterAccount → Course
outset a = record { stores = a.stores; rests = a.pending }

-- and ends
abbrev pub settled_course : Rule → MeterAccount → Course
settled_course rule a = covers rule a.coefficient (own_stores ++ other_stores) (outset a)

-- after an accepted settlement: nothing is pending
abbrev pub settling_meter : Rule → MeterAccount → MeterAccount
settling_meter rule a = record { opened = true; coefficient = a.coefficient; period = a.period; state = Settled; pending = all 0; stores = (settled_course rule a).stores }

-- a line for each portion of each store, zone by zone, from what was left in each before and the stores after
abbrev pub all_lines : Zones (List ℕ) → Zones (Ledger (Unit {0})) → List Line
all_lines before stores =
    lines_of (Some First) before.one stores.one.portions
    ++ (lines_of (Some Second) before.two stores.two.portions
    ++ lines_of (Some Third) before.three stores.three.portions)

-- the lines of a settlement that comes to this end
abbrev pub zone_lines : MeterAccount → Course → List Line
zone_lines a end = all_lines (each lefts a.stores) end.stores

-- its lines
abbrev pub meter_lines : Rule → MeterAccount → List Line
meter_lines rule a = zone_lines a (settled_course rule a)

-- the answer of a settlement that comes to this end: the rests are due, and the others of what was pending are covered
abbrev pub answered : MeterAccount → Course → Settlement
answered a end = record { covered = each_two (λ p rest. p - rest) a.pending end.rests; due = end.rests; lines = length (zone_lines a end) }

-- its answer
abbrev pub settlement : Rule → MeterAccount → Settlement
settlement rule a = answered a (settled_course rule a)

-- after an accepted turn
abbrev pub turning_meter : MeterAccount → MeterAccount
turning_meter a = record { opened = true; coefficient = a.coefficient; period = a.period; state = Waiting; pending = a.pending; stores = each (turning energy) a.stores }

-- a figure of each store, summed
abbrev pub over_stores : (Ledger (Unit {0}) → ℕ) → MeterAccount → ℕ
over_stores figure a = figure a.stores.one + figure a.stores.two + figure a.stores.three

-- how a metering account works; its stores turn together, so each has its month
abbrev pub metering : Workings MeterOpening MeterAccount Settlement Zone (Unit {0})
metering = record {
  zones = First ∷ Second ∷ Third ∷ [];
  place = zone_number;
  mark = λ z. Some z;
  standing = λ a. record { opened = a.opened; month = a.stores.one.month; state = a.state; ends = ends a.period a.stores.one.month };
  store = λ a z. of z a.stores;
  pending = λ a z. of z a.pending;
  kind = energy;
  fewest_lines = 39;
  closed = closed;
  open_refusal = open_refusal;
  Applies = Applies;
  own_month = λ o. o.month;
  ends_in = λ o m. ends (or_monthly (period_of o.months)) m;
  opening = opening;
  stored = λ sums z. of z (split_by_zone sums.totals.export);
  terms = λ o sums. tt;
  demand = λ sums z. of z (split_by_zone sums.totals.import);
  tenths = λ o. coefficient_for o.power;
  coverings = λ rule a. coverings rule a.coefficient (own_stores ++ other_stores) (outset a) [];
  settlement = settlement;
  covered = λ s z. of z s.covered;
  due = λ s z. of z s.due;
  count = λ s. s.lines;
  lines = meter_lines;
  refunds = over_stores (refunds energy);
  losses = over_stores (losses energy);
  entering = entering_meter;
  settling = settling_meter;
  turning = turning_meter;
}
