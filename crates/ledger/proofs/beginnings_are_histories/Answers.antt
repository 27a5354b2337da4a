use Rattle.histories.proofs.Runs.{beginnings}
use Rattle.ledger.specs.Steps.{machine}
use Rattle.ledger.proofs.beginnings_are_histories.Goals as goal

pub returns : goal.returns
returns g c kind = beginnings (machine kind)
