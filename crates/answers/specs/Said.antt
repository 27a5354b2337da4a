-- What an accepted record is answered.
use Rattle.std.specs.Prelude.{ℕ, List, take}
use Rattle.settlement.specs.declared.answers.Line.{Line}
use Rattle.settlement.specs.declared.answers.Settlement.{Settlement}
use Rattle.settlement.specs.declared.answers.Payment.{Payment}
use Rattle.answers.specs.declared.kinds.Answer.{Answer}
use Rattle.answers.specs.declared.kinds.Answer.TheVariants.{Nothing, Settled, Paid, Turned}

-- what an accepted record is answered, with the lines of its settlement
pub data Said : Type 0 where
  nothing : Said
  settled : (lines : List Line) (answer : Settlement) → Said
  paid : (lines : List Line) (answer : Payment) → Said
  turned : (refunded lost : ℕ) → Said

-- what an answer of the code says, with the caller's list of lines
abbrev pub said : Answer → List Line → Said
said Nothing lines = nothing
said (Settled s) lines = settled (take s.lines lines) s
said (Paid p) lines = paid (take p.lines lines) p
said (Turned refunded lost) lines = turned refunded lost
