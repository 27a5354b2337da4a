-- What the code's desk means.
use Rattle.std.specs.Prelude.{◌≡◌, ◌≢◌, [], ℕ, ◌<◌, List, ℤ, Some, None, Ok, Err, vec_items, Option, Result}
use Rattle.std.specs.Option.{option_map}
use Rattle.faults.specs.declared.BookFault.{BookFault}
use Rattle.faults.specs.declared.ProgramFault.{ProgramFault}
use Rattle.faults.specs.declared.ProgramFault.TheVariants.{OutOfPlace}
use Rattle.calendar.specs.Hour.{month_hours}
use Rattle.hours.specs.Price.{from_some, hour_gives, month_gives}
use Rattle.hours.specs.Marks.{zone_by_marks}
use Rattle.hours.specs.Reading.{zone_at}
use Rattle.hours.specs.Month.{HasRead}
use Rattle.hours.specs.declared.prices.HourPrices.{HourPrices}
use Rattle.hours.specs.declared.prices.MonthPrice.{MonthPrice}
use Rattle.records.specs.Records.{Rec}
use Rattle.records.specs.Records.Rec.{opens_metering, opens_billing, opens_book, gives_month_price, gives_hour_prices, reading, finish, settle, turn}
use Rattle.store.specs.Held.{room}
use Rattle.accounts.specs.Means.{fewest}
use Rattle.accounts.specs.Metered as metering
use Rattle.accounts.specs.Billed as billing
use Rattle.desk.specs.declared.steps.Desk.{Desk}
use Rattle.desk.specs.declared.step_fault.StepFault.{StepFault}
use Rattle.desk.specs.declared.step_fault.StepFault.TheVariants.{Refused, NoMemory}
use Rattle.desk.specs.declared.account_calls.Accounts.{Accounts}
use Rattle.desk.specs.declared.account_calls.Sort.{Sort}
use Rattle.desk.specs.declared.account_calls.Sort.TheVariants as sort
use Rattle.desk.specs.declared.book.OpenBook.{OpenBook}
use Rattle.settlement.specs.declared.answers.Line.{Line}
use Rattle.settlement.specs.Metering.{MeterAccount}
use Rattle.settlement.specs.Billing.{BillAccount}
use Rattle.answers.specs.declared.kinds.Answer.{Answer}
use Rattle.answers.specs.declared.kinds.Answer.TheVariants.{Nothing, Settled, Paid, Turned}
use Rattle.answers.specs.Said.{Said, said}
use Rattle.answers.specs.Said.Said.{nothing}
use Rattle.desk.specs.State.{Account, BookState, State, Memory}
use Rattle.desk.specs.State.Account.{none, metered, billed}
use Rattle.desk.specs.Outcome.{Outcome}
use Rattle.desk.specs.Books.{hourly_at, finish_refusal}
use Rattle.desk.specs.Steps.{taken}

-- the hour prices, if there are any: their month and their list
abbrev pub hours_are : Option HourPrices → Option (ℕ × List ℤ)
hours_are prices = option_map (λ h. (h.month, vec_items h.prices)) prices

-- what they give for a month and a place
abbrev pub hours_give : Option (ℕ × List ℤ) → ℕ → ℕ → Option ℤ
hours_give prices m p = from_some (λ h. hour_gives h.0 h.1 m p) prices

-- the month price, if there is one: its month and the price
abbrev pub month_is : Option MonthPrice → Option (ℕ × ℤ)
month_is price = option_map (λ h. (h.month, h.price)) price

-- what it gives for a month and a place
abbrev pub monthly_gives : Option (ℕ × ℤ) → ℕ → ℕ → Option ℤ
monthly_gives price m p = from_some (λ h. month_gives h.0 h.1 m p) price

-- the code's book has the month, the zones, the sale prices and the prices of s, and has read its hours
pub record Holds (b : OpenBook) (s : BookState) : Type 0 where
  pub dated : b.month ≡ s.month
  pub month : b.book.terms.month.number ≡ s.month
  pub sales : b.book.terms.sale ≡ s.sale
  pub zones : (p : ℕ) → p < month_hours s.month → zone_at b.book.terms p ≡ zone_by_marks s.marks s.month p
  pub read : HasRead b.book.terms s.hours b.book.tally
  pub hourly : (p : ℕ) → hours_give (hours_are b.prices.upper) s.month p ≡ hourly_at s.hourly p
  pub monthly : (p : ℕ) → monthly_gives (month_is b.prices.lower) s.month p ≡ s.monthly

-- a call on the book was accepted, and it holds the new, or refused by the fault, and it holds the old
abbrev pub HoldsAfter : Option BookFault → BookState → BookState → Result (Unit {0}) BookFault → OpenBook → Type 0
HoldsAfter refusal old new (Ok _) b = (refusal ≡ None) × Holds b new
HoldsAfter refusal old new (Err fault) b = (refusal ≡ Some fault) × Holds b old

-- what is done to an open book is refused by this, and otherwise it becomes that
abbrev pub Changes : (OpenBook → Result (Unit {0}) BookFault → OpenBook → Type 0) → (BookState → Option BookFault) → (BookState → BookState) → Type 0
Changes Does refusal becomes = (b b' : OpenBook) (r : Result (Unit {0}) BookFault) (s : BookState) → Does b r b' → Holds b s → HoldsAfter (refusal s) s (becomes s) r b'

-- a book that is not finished is as it was
abbrev pub Kept : BookState → BookFault → OpenBook → Type 0
Kept s fault b = (finish_refusal s ≡ Some fault) × Holds b s

-- the code's book, if there is one, holds what the state says
abbrev pub BookHolds : Option OpenBook → Option BookState → Type 0
BookHolds None None = Unit {0}
BookHolds None (Some s) = ⊥
BookHolds (Some b) None = ⊥
BookHolds (Some b) (Some s) = Holds b s

-- an answer that says nothing, or a refusal
abbrev pub nothing_said : Result (Unit {0}) ProgramFault → Result Said ProgramFault
nothing_said (Ok _) = Ok nothing
nothing_said (Err fault) = Err fault

-- a call on the book came out so: its answer is the one defined, and the code's book holds what is left
abbrev pub BookCame : Outcome (Option BookState) → Result Said ProgramFault → Option OpenBook → Type 0
BookCame o r b = (o.answer ≡ r) × BookHolds b o.after

-- the account that is open, from which it is and what the two mean
abbrev pub account_in : Option Sort → MeterAccount → BillAccount → Account
account_in None m b = none
account_in (Some sort.Metering) m b = metered m
account_in (Some sort.Billing) m b = billed b

-- the open account that the code's two accounts mean
abbrev pub account_of : Accounts → Account
account_of a = account_in a.opened (metering.metered a.metering) (billing.billed a.billing)

-- the slots of each store of a metering account, and those of a billing account
abbrev pub slots_of : Accounts → ℕ × ℕ
slots_of a = (fewest a.metering.meters.stores, room a.billing.store)

-- what needs an open account is out of place where there is none
abbrev pub in_place : {X : Type 0} → Option X → Result X ProgramFault
in_place None = Err OutOfPlace
in_place (Some x) = Ok x

-- a call on the account came out so
abbrev pub AccountCame : Outcome Account → Result Said ProgramFault → Account → Type 0
AccountCame o r account = (o.answer ≡ r) × (o.after ≡ account)

-- what the two accounts mean, open or not
abbrev pub both : Accounts → MeterAccount × BillAccount
both a = (metering.metered a.metering, billing.billed a.billing)

-- what is not open is as it was: the other account where one is open, and both where none is
abbrev pub Rests : Option Sort → Accounts → Accounts → Type 0
Rests None a a' = both a' ≡ both a
Rests (Some sort.Metering) a a' = billing.billed a'.billing ≡ billing.billed a.billing
Rests (Some sort.Billing) a a' = metering.metered a'.metering ≡ metering.metered a.metering

-- a call on the code's accounts came out as is defined of the open one, left alone what is not open, and left as many slots
pub record Called (does : Account → Outcome Account) (r : Result Said ProgramFault) (a a' : Accounts) : Type 0 where
  pub came : AccountCame (does (account_of a)) r (account_of a')
  pub rests : Rests a'.opened a a'
  pub slots : slots_of a' ≡ slots_of a

-- what an answer says with the caller's lines, or a refusal
abbrev pub said_with : List Line → Result Answer ProgramFault → Result Said ProgramFault
said_with lines (Ok answer) = Ok (said answer lines)
said_with lines (Err fault) = Err fault

-- how many of the caller's lines an answer wrote
abbrev pub lines_of : Answer → ℕ
lines_of Nothing = 0
lines_of (Settled s) = s.lines
lines_of (Paid p) = p.lines
lines_of (Turned refunded lost) = 0

-- a refusal writes none
abbrev pub lines_written : {E : Type 0} → Result Answer E → ℕ
lines_written (Ok answer) = lines_of answer
lines_written (Err fault) = 0

-- the memory that a step works in, with room for so many lines
abbrev pub memory_of : Desk → ℕ → Memory
memory_of d lines = record { meter_slots = (slots_of d.accounts).0; bill_slots = (slots_of d.accounts).1; lines = lines }

-- the code's desk stands at s
pub record Means (d : Desk) (s : State) : Type 0 where
  pub account : account_of d.accounts ≡ s.account
  pub book : BookHolds d.book s.book

-- a record came out so: its answer is the one defined, and the desk stands where it is defined to
abbrev pub Came : Outcome State → Result Said ProgramFault → (State → Type 0) → Type 0
Came o r Stands = (o.answer ≡ r) × Stands o.after

-- what was done at a desk came out as is defined of each state that it stood at, left alone what is not open, and left as many slots
pub record Done (does : State → Outcome State) (r : Result Said ProgramFault) (d d' : Desk) : Type 0 where
  pub came : (s : State) → Means d s → Came (does s) r (Means d')
  pub rests : Rests d'.accounts.opened d.accounts d'.accounts
  pub slots : slots_of d'.accounts ≡ slots_of d.accounts

-- a record that brings at least one hour price
abbrev pub BringsPrices : Rec → Type 0
BringsPrices (opens_metering month power period) = ⊥
BringsPrices (opens_billing month percentage) = ⊥
BringsPrices (opens_book marks sale) = ⊥
BringsPrices (gives_month_price price) = ⊥
BringsPrices (gives_hour_prices prices) = prices ≢ []
BringsPrices (reading import export) = ⊥
BringsPrices finish = ⊥
BringsPrices settle = ⊥
BringsPrices turn = ⊥

-- a step took the record as it is defined; memory can be wanting only for hour prices, and then nothing differs
abbrev pub Took : Memory → State → Rec → Result Answer StepFault → List Line → (State → Type 0) → Type 0
Took memory s said_by (Ok answer) lines Stands = Came (taken memory s said_by) (Ok (said answer lines)) Stands
Took memory s said_by (Err (Refused fault)) lines Stands = Came (taken memory s said_by) (Err fault) Stands
Took memory s said_by (Err NoMemory) lines Stands = BringsPrices said_by × Stands s
