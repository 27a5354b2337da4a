use Rattle.hours.proofs.Sources.{left_as_asked}
use Rattle.hours.proofs.readings_leave_as_asked.Goals as goal

pub returns : goal.returns
returns g c = left_as_asked g.S.PriceSource
