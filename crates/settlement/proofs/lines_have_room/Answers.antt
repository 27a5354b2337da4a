use Rattle.settlement.proofs.Laws.{asks_for_lines}
use Rattle.settlement.proofs.lines_have_room.Goals as goal

pub returns : goal.returns
returns c = asks_for_lines
