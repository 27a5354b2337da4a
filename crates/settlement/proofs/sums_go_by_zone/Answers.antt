use Rattle.settlement.proofs.Laws.{takes_by_zone}
use Rattle.settlement.proofs.sums_go_by_zone.Goals as goal

pub returns : goal.returns
returns c = takes_by_zone
