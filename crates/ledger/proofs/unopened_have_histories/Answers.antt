use Rattle.histories.proofs.Unopened.{unopened_have_histories}
use Rattle.ledger.specs.Ledger.{closed}
use Rattle.ledger.specs.Steps.{machine}
use Rattle.ledger.proofs.unopened_have_histories.Goals as goal

pub returns : goal.returns
returns g c kind = unopened_have_histories (machine kind) closed
