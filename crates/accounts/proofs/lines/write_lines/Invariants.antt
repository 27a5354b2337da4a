use Rattle.std.proofs.Common.{◌≡◌}
use lib.Seq.{paste}
use Rattle.portions.specs.Listed.{listed}
use Rattle.store.specs.Reading.{ledger_of}
use Rattle.settlement.specs.Lines.{lines_of}
use Rattle.accounts.proofs.lines.write_lines.Given as goal

abbrev pub invariant-loop-place : goal.invariant-loop-place
invariant-loop-place g l = l.line-items ≡ paste l.initial.line-items 0 (lines_of l.zone (listed l.before) (ledger_of g.K.Kind l.store).portions) l.place
