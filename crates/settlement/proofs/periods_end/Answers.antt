use Rattle.settlement.proofs.Laws.{ends_periods}
use Rattle.settlement.proofs.periods_end.Goals as goal

pub returns : goal.returns
returns c = ends_periods
