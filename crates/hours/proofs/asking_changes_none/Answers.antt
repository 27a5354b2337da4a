use Rattle.hours.proofs.Sources.{steady_for}
use Rattle.hours.proofs.asking_changes_none.Goals as goal

pub returns : goal.returns
returns g c = steady_for g.S.PriceSource g.met.S.PriceSource.steady
