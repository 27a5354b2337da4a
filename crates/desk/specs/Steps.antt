-- What each record does.
use Rattle.std.specs.Prelude.{ℕ, List, Some, None, Option}
use Rattle.faults.specs.declared.BookFault.{BookFault}
use Rattle.faults.specs.declared.BookFault.TheVariants.{HoursMissing}
use Rattle.faults.specs.declared.ProgramFault.TheVariants.{OutOfPlace, InBook}
use Rattle.hours.specs.Opening.{book_open_refusal}
use Rattle.hours.specs.declared.sums.MonthSums.{MonthSums}
use Rattle.settlement.specs.Metering.{MeterOpening}
use Rattle.settlement.specs.Billing.{BillOpening}
use Rattle.records.specs.Records.{Rec}
use Rattle.records.specs.Records.Rec.{opens_metering, opens_billing, opens_book, gives_month_price, gives_hour_prices, reading, finish, settle, turn}
use Rattle.desk.specs.State.{Account, BookState, State, Memory}
use Rattle.desk.specs.Outcome.{Outcome, refused, by_book}
use Rattle.desk.specs.Accounts.{own_month, metering_opened, billing_opened, sums_entered, account_settled, account_turned}
use Rattle.desk.specs.Books.{begun, price_in_range, each_in_range, price_refusal, with_monthly, with_hourly, with_next_hour, hour_refusal, finish_refusal, book_sums}

-- what a metering account is opened for
abbrev pub meter_opening : Memory → (month power period : ℕ) → MeterOpening
meter_opening memory month power period = record { slots = memory.meter_slots; month = month; power = power; months = period }

-- what a billing account is opened for
abbrev pub bill_opening : Memory → (month percentage : ℕ) → BillOpening
bill_opening memory month percentage = record { slots = memory.bill_slots; month = month; percentage = percentage }

-- the outcome of a record that bears on the account alone
abbrev pub on_account : Option BookState → Outcome Account → Outcome State
on_account book o = record { answer = o.answer; after = record { account = o.after; book = book } }

-- and of one that bears on the book alone
abbrev pub on_book : Account → Outcome (Option BookState) → Outcome State
on_book account o = record { answer = o.answer; after = record { account = account; book = o.after } }

-- a book is opened for a month, where none is open
abbrev pub book_opened : List (List ℕ) → List ℕ → ℕ → Option BookState → Outcome (Option BookState)
book_opened marks sale month (Some b) = refused OutOfPlace (Some b)
book_opened marks sale month None = by_book (book_open_refusal month marks sale) None (Some (begun month marks sale))

-- the open book is refused something, or becomes another
abbrev pub change : (BookState → Option BookFault) → (BookState → BookState) → ℕ → Option BookState → Outcome (Option BookState)
change refusal becomes month None = refused OutOfPlace None
change refusal becomes month (Some b) = by_book (refusal b) (Some b) (Some (becomes b))

-- what is done to the book where an account is open, from the account's month
abbrev pub with_account : (ℕ → Option BookState → Outcome (Option BookState)) → Option ℕ → Option BookState → Outcome (Option BookState)
with_account does None book = refused OutOfPlace book
with_account does (Some month) book = does month book

-- a book's sums are entered, and it is gone, also where the account refuses them
abbrev pub enter_book : Option MonthSums → Account → BookState → Outcome State
enter_book (Some sums) account b = on_account None (sums_entered sums account)
enter_book None account b = refused (InBook HoursMissing) (record { account = account; book = Some b })

-- a complete book is finished and its sums are entered
abbrev pub finish_complete : Option BookFault → Account → BookState → Outcome State
finish_complete (Some fault) account b = refused (InBook fault) (record { account = account; book = Some b })
finish_complete None account b = enter_book (book_sums b) account b

-- the open book is finished, where an account is open
abbrev pub finish_book : Option ℕ → Account → Option BookState → Outcome State
finish_book None account book = refused OutOfPlace (record { account = account; book = book })
finish_book (Some month) account None = refused OutOfPlace (record { account = account; book = None })
finish_book (Some month) account (Some b) = finish_complete (finish_refusal b) account b

-- what is done to the book of a state
abbrev pub book_step : (ℕ → Option BookState → Outcome (Option BookState)) → State → Outcome State
book_step does s = on_book s.account (with_account does (own_month s.account) s.book)

-- what a record does
abbrev pub taken : Memory → State → Rec → Outcome State
taken memory s (opens_metering month power period) = on_account s.book (metering_opened (meter_opening memory month power period) s.account)
taken memory s (opens_billing month percentage) = on_account s.book (billing_opened (bill_opening memory month percentage) s.account)
taken memory s (opens_book marks sale) = book_step (book_opened marks sale) s
taken memory s (gives_month_price price) = book_step (change (λ b. price_refusal (price_in_range price)) (with_monthly price)) s
taken memory s (gives_hour_prices prices) = book_step (change (λ b. price_refusal (each_in_range prices)) (with_hourly prices)) s
taken memory s (reading import export) = book_step (change (hour_refusal import export) (with_next_hour import export)) s
taken memory s finish = finish_book (own_month s.account) s.account s.book
taken memory s settle = on_account s.book (account_settled memory.lines s.account)
taken memory s turn = on_account s.book (account_turned s.account)
