use Rattle.histories.proofs.Runs.{history_decides}
use Rattle.ledger.specs.Steps.{machine}
use Rattle.ledger.proofs.histories_decide.Goals as goal

pub returns : goal.returns
returns g c kind = history_decides (machine kind)
