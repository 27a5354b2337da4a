use Rattle.settlement.proofs.Laws.{gives_tenths}
use Rattle.settlement.proofs.tenths_follow_power.Goals as goal

pub returns : goal.returns
returns c = gives_tenths
