use Rattle.std.proofs.Common.{arith}
use Rattle.portions.specs.Takes.{share_more}
use Rattle.portions.proofs.proportional.take_shares.Goals as goal

pub overflow_cast-taking : goal.overflow_cast-taking
overflow_cast-taking c =
    omega (arith, share_more c.min-w.result c.max-t.result c.loop-amount.before c.from-in-loop-amount.result (omega arith) (omega arith))
