-- What holds of every run, in the words of a record file and its accounts.
use Rattle.std.specs.Prelude.{◌≡◌, ℕ, ◌+◌, ◌⊎◌, List, [], ◌∷◌, ◌++◌, length, None, Ok, Err, Result, ◌≢◌}
use Rattle.std.specs.List.{flat_map}
use Rattle.faults.specs.declared.AccountFault.{AccountFault}
use Rattle.faults.specs.declared.ProgramFault.{ProgramFault}
use Rattle.faults.specs.declared.ProgramFault.TheVariants.{InAccount}
use Rattle.faults.specs.Numbers.{program_number}
use Rattle.records.specs.Frames.{framed, head_length}
use Rattle.records.specs.Records.{Read}
use Rattle.records.specs.Records.Rec.{finish}
use Rattle.settlement.specs.declared.answers.Line.{Line}
use Rattle.answers.specs.declared.kinds.Answer.{Answer}
use Rattle.answers.specs.Answers.{refusal_text}
use Rattle.answers.specs.Said.{said}
use Rattle.desk.specs.declared.step_fault.StepFault.{StepFault}
use Rattle.desk.specs.declared.step_fault.StepFault.TheVariants.{Refused as refused, NoMemory}
use Rattle.desk.specs.State.{State}
use Rattle.desk.specs.Means.{BringsPrices, Came}
use Rattle.report.specs.Runs.{Entry, handled, says, outcome, entry_text, trace, report_text}
use Rattle.report.specs.Past.{past_of, Keeps}

-- the bytes of records, one after another
abbrev pub bytes_of : List Entry → List ℕ
bytes_of es = flat_map (λ e. e.bytes) es

-- e is the record of the run that comes after the records `earlier`
abbrev pub Follows : List ℕ → List Entry → Entry → Type 0
Follows input earlier e = (later : List Entry) × ((trace input).entries ≡ earlier ++ (e ∷ later))

-- every byte of a file belongs to exactly one record, up to the end or to a record in which the file ends
pub record EveryByte (input : List ℕ) : Type 0 where
  pub in_order : bytes_of (trace input).entries ++ (trace input).rest ≡ input
  -- a record begins where those before it end, and is as long as its head says
  pub begins : (earlier : List Entry) (e : Entry) → Follows input earlier e → e.place ≡ length (bytes_of earlier)
  pub as_long : (earlier : List Entry) (e : Entry) → Follows input earlier e → length e.bytes ≡ 4 + head_length e.bytes
  -- what is left is no whole record, and begins where the records end
  pub no_more : framed (trace input).rest ≡ None
  pub stops : (trace input).stop ≡ length (bytes_of (trace input).entries)

-- a refused record leaves account and book as they were
abbrev pub NothingDiffers : Entry → Type 0
NothingDiffers e = (outcome e).after ≡ e.before

-- but for sums that the account refuses: they are struck, and their book is gone
pub record BookGone (e : Entry) (fault : ProgramFault) : Type 0 where
  pub finishes : says e.bytes ≡ Ok finish
  pub by_account : (f : AccountFault) × (fault ≡ InAccount f)
  pub account : (outcome e).after.account ≡ e.before.account
  pub book : (outcome e).after.book ≡ None

-- a refused record prints its refusal line and nothing else, and nothing differs afterwards, but for sums that are struck
pub record Refused (e : Entry) (fault : ProgramFault) : Type 0 where
  pub alone : entry_text e ≡ refusal_text e.place (program_number fault)
  pub leaves : NothingDiffers e ⊎ BookGone e fault
  -- sums that the account refuses are not kept in their book
  pub struck : says e.bytes ≡ Ok finish → (f : AccountFault) → fault ≡ InAccount f → BookGone e fault

-- every refused record of a run is so
abbrev pub RefusedAlone : List ℕ → Type 0
RefusedAlone input = (earlier : List Entry) (e : Entry) → Follows input earlier e → (fault : ProgramFault) → (outcome e).answer ≡ Err fault → Refused e fault

-- a run takes up where the record before it left off
abbrev pub Continues : List ℕ → Type 0
Continues input = (earlier : List Entry) (d e : Entry) → Follows input (earlier ++ (d ∷ [])) e → e.before ≡ (outcome d).after

-- after every record the account keeps its promise, for the history that is read off the records up to it: what is due is
-- what was not covered, and something is due only if nothing is left
abbrev pub PromisesKept : List ℕ → Type 0
PromisesKept input = (earlier : List Entry) (e : Entry) → Follows input earlier e → Keeps (past_of (earlier ++ (e ∷ []))) (outcome e).after.account

-- what was read brings hour prices
abbrev pub ReadsPrices : Read → Type 0
ReadsPrices (Ok said) = BringsPrices said
ReadsPrices (Err fault) = ⊥

-- a step handled what was read as it is defined, with its lines in the caller's list; memory can be wanting only for hour prices
abbrev pub Handled : State → Read → Result Answer StepFault → List Line → (State → Type 0) → Type 0
Handled s read (Ok answer) lines Stands = Came (handled s read) (Ok (said answer lines)) Stands
Handled s read (Err (refused fault)) lines Stands = Came (handled s read) (Err fault) Stands
Handled s read (Err NoMemory) lines Stands = ReadsPrices read

-- a record of the run brings hour prices
abbrev pub KeepsPrices : List ℕ → Type 0
KeepsPrices input = (earlier : List Entry) × (e : Entry) × Follows input earlier e × ReadsPrices (says e.bytes)

-- a run needs memory for what it prints and for the hour prices that it keeps, and for nothing else
abbrev pub NeedsMemory : List ℕ → Type 0
NeedsMemory input = (report_text input ≢ []) ⊎ KeepsPrices input
