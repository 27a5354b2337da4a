-- What comes of a record: its answer, and what it leaves.
use Rattle.std.specs.Prelude.{Some, None, Ok, Err, Option, Result}
use Rattle.faults.specs.declared.AccountFault.{AccountFault}
use Rattle.faults.specs.declared.BookFault.{BookFault}
use Rattle.faults.specs.declared.ProgramFault.{ProgramFault}
use Rattle.faults.specs.declared.ProgramFault.TheVariants.{InBook, InAccount}
use Rattle.answers.specs.Said.{Said}
use Rattle.answers.specs.Said.Said.{nothing}

-- an answer or a refusal, and what there is afterwards
pub record Outcome (X : Type 0) : Type 0 where
  pub answer : Result Said ProgramFault
  pub after : X

module _ {X : Type 0} where
  -- a refusal, which leaves x
  abbrev pub refused : ProgramFault → X → Outcome X
  refused fault x = record { answer = Err fault; after = x }

  -- an accepted record, which leaves x
  abbrev pub accepted : Said → X → Outcome X
  accepted said x = record { answer = Ok said; after = x }

  -- what an account refuses leaves the old, and what it accepts says this and leaves the new
  abbrev pub by_account : Option AccountFault → X → Said → X → Outcome X
  by_account (Some fault) old said new = refused (InAccount fault) old
  by_account None old said new = accepted said new

  -- the same of a book, which says nothing
  abbrev pub by_book : Option BookFault → X → X → Outcome X
  by_book (Some fault) old new = refused (InBook fault) old
  by_book None old new = accepted nothing new
