use Rattle.answers.specs.Adds.{Added}
use Rattle.answers.proofs.printing.print_lines.Given as goal

-- the lines so far were added
abbrev pub invariant-loop-line : goal.invariant-loop-line
invariant-loop-line l = Added l.yielded l.initial.out l.out
