-- What the program holds between two records.
use Rattle.std.specs.Prelude.{ℕ, List, ℤ, None, Option}
use Rattle.hours.specs.Month.{HourRead}
use Rattle.settlement.specs.Metering.{MeterAccount}
use Rattle.settlement.specs.Billing.{BillAccount}

-- the account that is open, if one is
pub data Account : Type 0 where
  none : Account
  metered : (account : MeterAccount) → Account
  billed : (account : BillAccount) → Account

-- an open book: what it was opened with, the prices given for it so far, and the hours read so far
pub record BookState : Type 0 where
  pub month : ℕ
  -- the zone of each clock hour, of a working day and of a Saturday or Sunday, and the sale price of each zone
  pub marks : List (List ℕ)
  pub sale : List ℕ
  -- the hour prices, from the month's first hour on, and the month price
  pub hourly : List ℤ
  pub monthly : Option ℤ
  pub hours : List HourRead

-- all of it: an account, and a book
pub record State : Type 0 where
  pub account : Account
  pub book : Option BookState

-- before the first record there is neither
abbrev pub outset : State
outset = record { account = none; book = None }

-- the memory that the program works in: the slots of each store of a metering account and of a billing account, and the room for lines
pub record Memory : Type 0 where
  pub meter_slots : ℕ
  pub bill_slots : ℕ
  pub lines : ℕ
