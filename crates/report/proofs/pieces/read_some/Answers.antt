use Rattle.report.proofs.Known.{keeps_on, keeps_same, reads_after}
use Rattle.report.proofs.pieces.read_some.Goals as goal

pub loop-turn-init : goal.loop-turn-init
loop-turn-init g c = keeps_same _

pub returns-in_default-clause-bytes : goal.returns-in_default-clause-bytes
returns-in_default-clause-bytes g c = keeps_on _ _ _ c.loop-turn.invariant c.in-Err.ensures.bytes

pub returns-in_default-2-clause-bytes : goal.returns-in_default-2-clause-bytes
returns-in_default-2-clause-bytes g c = reads_after _ _ _ _ _ c.loop-turn.invariant c.read.ensures.bytes

pub loop-turn-preserved : goal.loop-turn-preserved
loop-turn-preserved g c = keeps_on _ _ _ c.loop-turn.invariant c.in-Err.ensures.bytes

pub returns-clause-bytes : goal.returns-clause-bytes
returns-clause-bytes g c = c.loop-turn.invariant
