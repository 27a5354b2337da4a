use Rattle.std.specs.Io.KnownBytes.{Keeps}
use Rattle.report.proofs.pieces.read_some.Given as goal

abbrev pub invariant-loop-turn : goal.invariant-loop-turn
invariant-loop-turn g l = Keeps (g.R.Read.remaining l.fn.source) (g.R.Read.remaining l.source)
