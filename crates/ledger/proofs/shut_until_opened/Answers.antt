use Rattle.ledger.proofs.shut_until_opened.Goals as goal
use Rattle.ledger.proofs.Unopened.{never_opened}

pub returns : goal.returns
returns g c = never_opened
