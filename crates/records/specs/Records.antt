-- What a record says.
use Rattle.std.specs.Prelude.{ℕ, ◌+◌, ◌*◌, ◌%◌, cond, List, [], ◌∷◌, length, take, drop, ℤ, Some, None, Ok, Err, Option, Result, ◌==◌, nat_lt, slice_index}
use Rattle.faults.specs.declared.ProgramFault.{ProgramFault}
use Rattle.faults.specs.declared.ProgramFault.TheVariants.{Malformed}
use Rattle.records.specs.Bytes.{two_at, four_at}
use Rattle.records.specs.Prices.{price_at, prices_read}
use Rattle.records.specs.declared.decoding.Record.{Record}
use Rattle.records.specs.declared.decoding.Record.TheVariants.{OpenMetering, OpenBilling, OpenBook, MonthPrice, HourPrices, Reading, Finish, Settle, Turn}

-- what a record says; a book has two rows of 24 marks, and three sale prices
pub data Rec : Type 0 where
  opens_metering : (month power period : ℕ) → Rec
  opens_billing : (month percentage : ℕ) → Rec
  opens_book : (marks : List (List ℕ)) (sale : List ℕ) → Rec
  gives_month_price : (price : ℤ) → Rec
  gives_hour_prices : (prices : List ℤ) → Rec
  reading : (import export : ℕ) → Rec
  finish : Rec
  settle : Rec
  turn : Rec

-- what a record says, or that it is malformed
abbrev pub Read : Type 0
Read = Result Rec ProgramFault

-- a payload of n bytes says r, and any other is malformed
abbrev pub exactly : ℕ → List ℕ → Rec → Read
exactly n p r = cond (length p == n) (Ok r) (Err Malformed)

-- kind 1: month, power, period
abbrev pub decoded_metering : List ℕ → Read
decoded_metering p = exactly 7 p (opens_metering (two_at p 0) (four_at p 2) (slice_index p 6))

-- kind 2: month, percentage
abbrev pub decoded_billing : List ℕ → Read
decoded_billing p = exactly 3 p (opens_billing (two_at p 0) (slice_index p 2))

-- three sale prices from place i on
abbrev pub sale_at : List ℕ → ℕ → List ℕ
sale_at bs i = four_at bs i ∷ four_at bs (i + 4) ∷ four_at bs (i + 8) ∷ []

-- the sale prices of bytes that are three prices
abbrev pub sale_in : List ℕ → Option (List ℕ)
sale_in bs = cond (length bs == 12) (Some (sale_at bs 0)) None

-- kind 3: two rows of marks, three sale prices
abbrev pub decoded_book : List ℕ → Read
decoded_book p = exactly 60 p (opens_book (take 24 p ∷ take 24 (drop 24 p) ∷ []) (sale_at p 48))

-- kind 4: one price
abbrev pub decoded_price : List ℕ → Read
decoded_price p = exactly 4 p (gives_month_price (price_at p 0))

-- kind 5: at most 745 prices
abbrev pub decoded_hours : List ℕ → Read
decoded_hours p = cond (nat_lt (4 * 745) (length p)) (Err Malformed) (cond (length p % 4 == 0) (Ok (gives_hour_prices (prices_read p))) (Err Malformed))

-- kind 6: import, export
abbrev pub decoded_reading : List ℕ → Read
decoded_reading p = exactly 8 p (reading (four_at p 0) (four_at p 4))

-- what a record of kind k says with the payload p
abbrev pub decoded : ℕ → List ℕ → Read
decoded k p =
    cond (k == 1) (decoded_metering p)
    (cond (k == 2) (decoded_billing p)
    (cond (k == 3) (decoded_book p)
    (cond (k == 4) (decoded_price p)
    (cond (k == 5) (decoded_hours p)
    (cond (k == 6) (decoded_reading p)
    (cond (k == 7) (exactly 0 p finish)
    (cond (k == 8) (exactly 0 p settle)
    (cond (k == 9) (exactly 0 p turn) (Err Malformed)))))))))

-- what a record of the code says
abbrev pub record_model : Record → Rec
record_model (OpenMetering month power period) = opens_metering month power period
record_model (OpenBilling month percentage) = opens_billing month percentage
record_model (OpenBook working weekend sale) = opens_book (working.now ∷ weekend.now ∷ []) sale
record_model (MonthPrice price) = gives_month_price price
record_model (HourPrices bytes) = gives_hour_prices (prices_read bytes.now)
record_model (Reading import export) = reading import export
record_model Finish = finish
record_model Settle = settle
record_model Turn = turn

-- what the code's decoding gave
abbrev pub read_model : Result Record ProgramFault → Read
read_model (Ok r) = Ok (record_model r)
read_model (Err f) = Err f
