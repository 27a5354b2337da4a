-- Readings that follow one another in a file, each of them accepted.
use Rattle.std.specs.Prelude.{◌≡◌, ℕ, zero, suc, List, None, Some}
use Rattle.records.specs.Records.Rec.{reading}
use Rattle.records.specs.Readings.{FirstReading, first_reading}
use Rattle.answers.specs.Said.Said.{nothing}
use Rattle.desk.specs.State.{BookState, State, Memory}
use Rattle.desk.specs.Outcome.{accepted}
use Rattle.desk.specs.Books.{hour_refusal, with_next_hour}
use Rattle.desk.specs.Steps.{taken}

-- a book accepts a reading of this import and export, and is then this
abbrev pub HourAccepted : BookState → ℕ → ℕ → BookState → Type 0
HourAccepted b import export b' = (hour_refusal import export b ≡ None) × (b' ≡ with_next_hour import export b)

-- the record of a reading is accepted, and the program is then here; in whatever memory, as a reading takes none
abbrev pub ReadingAccepted : State → ℕ → ℕ → State → Type 0
ReadingAccepted s import export s' = (memory : Memory) → taken memory s (reading import export) ≡ accepted nothing s'

module _ {X : Type 0} (Accepts : X → ℕ → ℕ → X → Type 0) where
  -- the reading at the front of the bytes is accepted, and leaves this; these bytes follow it
  pub record NextAccepted (x : X) (bytes : List ℕ) (x' : X) (rest : List ℕ) : Type 0 where
    pub next : FirstReading
    pub first : first_reading bytes ≡ Some next
    pub accepts : Accepts x next.import next.export x'
    pub behind : rest ≡ next.rest

  -- so many readings from the front of the bytes are accepted, one after the other, and the last leaves this; these bytes follow
  abbrev pub Stretch : ℕ → X → List ℕ → X → List ℕ → Type 0
  Stretch zero x bytes x' rest = (x' ≡ x) × (rest ≡ bytes)
  Stretch (suc n) x bytes x' rest = (y : X) × (from : List ℕ) × Stretch n x bytes y from × NextAccepted y from x' rest

  -- what follows begins with no reading that is accepted
  abbrev pub Over : X → List ℕ → Type 0
  Over x bytes = (x' : X) (rest : List ℕ) → NextAccepted x bytes x' rest → ⊥

  -- as many readings as are accepted have been read from the front of the bytes, and what there is now stands where they lead
  pub record ReadOn (x : X) (bytes rest : List ℕ) (Stands : X → Type 0) : Type 0 where
    pub readings : ℕ
    pub after : X
    pub stretch : Stretch readings x bytes after rest
    pub over : Over after rest
    pub stands : Stands after
