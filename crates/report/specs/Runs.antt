-- A run over a record file: its records one after another, and the text that it prints.
use Rattle.std.specs.Prelude.{ℕ, zero, suc, ◌+◌, List, [], ◌∷◌, ◌++◌, length, take, drop, Some, None, Ok, Err, Option, Result}
use Rattle.std.specs.List.{flat_map}
use Rattle.faults.specs.declared.ProgramFault.{ProgramFault}
use Rattle.faults.specs.declared.ProgramFault.TheVariants.{FileEnds}
use Rattle.faults.specs.Numbers.{program_number}
use Rattle.records.specs.Frames.{Framed, framed, head_kind}
use Rattle.records.specs.declared.frames.Frame.{Frame}
use Rattle.records.specs.declared.frames.Placed.{Placed}
use Rattle.records.specs.Records.{Read, decoded}
use Rattle.answers.specs.Said.{Said}
use Rattle.answers.specs.Answers.{said_text, refusal_text}
use Rattle.desk.specs.State.{State, Memory, outset}
use Rattle.desk.specs.Outcome.{Outcome, refused}
use Rattle.desk.specs.Steps.{taken}

-- the program works with 13 slots for each store and room for 39 lines, so that no file is refused for want of them
abbrev pub program_memory : Memory
program_memory = record { meter_slots = 13; bill_slots = 13; lines = 39 }

-- a record of the file: where it begins, its bytes, and what the program held before it
pub record Entry : Type 0 where
  pub place : ℕ
  pub bytes : List ℕ
  pub before : State

-- what its kind and its payload say
abbrev pub says : List ℕ → Read
says bytes = decoded (head_kind bytes) (drop 4 bytes)

-- what a record says that was found in a file
abbrev pub read_of : Frame → Read
read_of f = decoded f.kind f.payload.now

-- what comes of what a record says: a malformed one is refused
abbrev pub handled : State → Read → Outcome State
handled s (Ok said) = taken program_memory s said
handled s (Err fault) = refused fault s

-- what comes of a record that was found
abbrev pub comes : State → Placed → Outcome State
comes s p = handled s (read_of p.frame)

-- what comes of a record
abbrev pub outcome : Entry → Outcome State
outcome e = handled e.before (says e.bytes)

-- what is printed for an answer, or for a refusal of the record at this place
abbrev pub answer_text : ℕ → Result Said ProgramFault → List ℕ
answer_text place (Ok said) = said_text said
answer_text place (Err fault) = refusal_text place (program_number fault)

-- what is printed for a record
abbrev pub entry_text : Entry → List ℕ
entry_text e = answer_text e.place (outcome e).answer

-- the whole records of a file, the place where they end, and the bytes after that
pub record Trace : Type 0 where
  pub entries : List Entry
  pub stop : ℕ
  pub rest : List ℕ

-- a record before all others
abbrev pub first : Entry → Trace → Trace
first e t = record { entries = e ∷ t.entries; stop = t.stop; rest = t.rest }

-- no whole record
abbrev pub no_record : ℕ → List ℕ → Trace
no_record at bs = record { entries = []; stop = at; rest = bs }

-- with the first record of the bytes, if they do not end in it
abbrev pub by_frame : {X : Type 0} → Option Framed → X → (Framed → X) → X
by_frame None none some = none
by_frame (Some f) none some = some f

-- the record at a place whose frame this is
abbrev pub entry_at : ℕ → State → List ℕ → Framed → Entry
entry_at at s bs f = record { place = at; bytes = take (4 + length f.payload) bs; before = s }

-- the records of the bytes, the first of them at this place and state; k bounds their number
unfoldable pub traced : ℕ → State → ℕ → List ℕ → Trace
traced zero s at bs = no_record at bs
traced (suc k) s at bs =
    by_frame (framed bs) (no_record at bs) (λ f. first (entry_at at s bs f) (traced k (outcome (entry_at at s bs f)).after (at + (4 + length f.payload)) f.rest))

-- the records of a file
abbrev pub trace : List ℕ → Trace
trace input = traced (length input) outset 0 input

-- what is printed at the end: nothing, or that the file ends in a record
abbrev pub end_text : ℕ → List ℕ → List ℕ
end_text at [] = []
end_text at (b ∷ bs) = refusal_text at (program_number FileEnds)

-- what a trace prints: for each record its text, and what stands at the end
abbrev pub trace_text : Trace → List ℕ
trace_text t = flat_map entry_text t.entries ++ end_text t.stop t.rest

-- what the program prints of a file
abbrev pub report_text : List ℕ → List ℕ
report_text input = trace_text (trace input)
