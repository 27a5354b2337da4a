use Rattle.std.proofs.Common.{string_bytes}
use Rattle.report.proofs.Coming.{Coming}
use Rattle.report.proofs.pieces.run_from.Given as goal

abbrev pub invariant-loop-turn : goal.invariant-loop-turn
invariant-loop-turn g l = Coming (g.R.Read.remaining l.fn.source) (g.R.Read.remaining l.source) (string_bytes l.out) l.work.desk l.place l.held.items
