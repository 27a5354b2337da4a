-- The reading that stands first, if a reading does.
use Rattle.std.specs.Prelude.{ℕ, List, Some, None, Ok, Err, Option}
use Rattle.records.specs.Frames.{Framed, framed}
use Rattle.records.specs.Records.{Read, decoded}
use Rattle.records.specs.Records.Rec.{opens_metering, opens_billing, opens_book, gives_month_price, gives_hour_prices, reading, finish, settle, turn}
use Rattle.records.specs.declared.readings.NextReading.{NextReading}

-- what a reading says, and the bytes after its record
pub record FirstReading : Type 0 where
  pub import : ℕ
  pub export : ℕ
  pub rest : List ℕ

-- what was read with these bytes after it, if it is a reading
abbrev pub if_reading : List ℕ → Read → Option FirstReading
if_reading rest (Ok (reading import export)) = Some (record { import = import; export = export; rest = rest })
if_reading rest (Ok (opens_metering month power period)) = None
if_reading rest (Ok (opens_billing month percentage)) = None
if_reading rest (Ok (opens_book marks sale)) = None
if_reading rest (Ok (gives_month_price price)) = None
if_reading rest (Ok (gives_hour_prices prices)) = None
if_reading rest (Ok finish) = None
if_reading rest (Ok settle) = None
if_reading rest (Ok turn) = None
if_reading rest (Err fault) = None

-- what a record says that was found, if it is a reading
abbrev pub reading_in : Option Framed → Option FirstReading
reading_in None = None
reading_in (Some f) = if_reading f.rest (decoded f.kind f.payload)

-- the reading that the bytes begin with, if their first record is one
abbrev pub first_reading : List ℕ → Option FirstReading
first_reading bs = reading_in (framed bs)

-- what the code found
abbrev pub reading_model : Option NextReading → Option FirstReading
reading_model None = None
reading_model (Some r) = Some (record { import = r.import; export = r.export; rest = r.rest.now })
