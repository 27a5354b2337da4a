use Rattle.histories.proofs.Runs.{have_histories}
use Rattle.ledger.specs.Steps.{machine}
use Rattle.ledger.proofs.calls_have_histories.Goals as goal

pub returns : goal.returns
returns g c kind = have_histories (machine kind)
