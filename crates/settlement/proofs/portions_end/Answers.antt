use Rattle.settlement.proofs.Laws.{ends_portions}
use Rattle.settlement.proofs.portions_end.Goals as goal

pub returns : goal.returns
returns c = ends_portions
