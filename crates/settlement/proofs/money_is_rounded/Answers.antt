use Rattle.settlement.proofs.Laws.{rounds_money}
use Rattle.settlement.proofs.money_is_rounded.Goals as goal

pub returns : goal.returns
returns c = rounds_money
