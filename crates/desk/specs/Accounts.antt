-- What records do to the account.
use Rattle.std.specs.Prelude.{ℕ, cond, Some, None, Option, nat_le}
use Rattle.faults.specs.declared.ProgramFault.TheVariants.{OutOfPlace}
use Rattle.hours.specs.declared.sums.MonthSums.{MonthSums}
use Rattle.portions.specs.Taking.{oldest, proportional}
use Rattle.ledger.specs.Rules.{Rule}
use Rattle.settlement.specs.Accounts.{refusal}
use Rattle.settlement.specs.Accounts.Call.{enter, settle, turn}
use Rattle.settlement.specs.Metering.{MeterOpening, metering}
use Rattle.settlement.specs.Billing.{BillOpening, billing}
use Rattle.answers.specs.Said.Said.{nothing, settled, paid, turned}
use Rattle.desk.specs.State.{Account}
use Rattle.desk.specs.State.Account.{none, metered, billed}
use Rattle.desk.specs.Outcome.{Outcome, refused, by_account}

-- the rule that settlements go by: proportional through month 74 (March 2022), oldest first afterwards
abbrev pub settling_rule : Rule
settling_rule month lefts wanted = cond (nat_le month 74) (proportional lefts wanted) (oldest lefts wanted)

-- the month of the account, if one is open
abbrev pub own_month : Account → Option ℕ
own_month none = None
own_month (metered a) = Some (metering.standing a).month
own_month (billed b) = Some (billing.standing b).month

-- a metering account is opened, where no account is open
abbrev pub metering_opened : MeterOpening → Account → Outcome Account
metering_opened o none = by_account (metering.open_refusal o) none nothing (metered (metering.opening o))
metering_opened o (metered a) = refused OutOfPlace (metered a)
metering_opened o (billed b) = refused OutOfPlace (billed b)

-- a billing account likewise
abbrev pub billing_opened : BillOpening → Account → Outcome Account
billing_opened o none = by_account (billing.open_refusal o) none nothing (billed (billing.opening o))
billing_opened o (metered a) = refused OutOfPlace (metered a)
billing_opened o (billed b) = refused OutOfPlace (billed b)

-- a month's sums are entered
abbrev pub sums_entered : MonthSums → Account → Outcome Account
sums_entered sums none = refused OutOfPlace none
sums_entered sums (metered a) = by_account (refusal metering (enter sums) a) (metered a) nothing (metered (metering.entering sums a))
sums_entered sums (billed b) = by_account (refusal billing (enter sums) b) (billed b) nothing (billed (billing.entering sums b))

-- what is pending is settled, with room for so many lines
abbrev pub account_settled : ℕ → Account → Outcome Account
account_settled room none = refused OutOfPlace none
account_settled room (metered a) =
    by_account (refusal metering (settle settling_rule room) a) (metered a)
    (settled (metering.lines settling_rule a) (metering.settlement settling_rule a)) (metered (metering.settling settling_rule a))
account_settled room (billed b) =
    by_account (refusal billing (settle settling_rule room) b) (billed b)
    (paid (billing.lines settling_rule b) (billing.settlement settling_rule b)) (billed (billing.settling settling_rule b))

-- the account is turned to the next month
abbrev pub account_turned : Account → Outcome Account
account_turned none = refused OutOfPlace none
account_turned (metered a) = by_account (refusal metering turn a) (metered a) (turned (metering.refunds a) (metering.losses a)) (metered (metering.turning a))
account_turned (billed b) = by_account (refusal billing turn b) (billed b) (turned (billing.refunds b) (billing.losses b)) (billed (billing.turning b))
