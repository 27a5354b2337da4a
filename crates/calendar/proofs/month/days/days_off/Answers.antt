use Rattle.std.proofs.Common.{refl}
use Rattle.calendar.proofs.DaysOff.{agree}
use Rattle.calendar.proofs.month.days.days_off.Goals as goal

pub returns : goal.returns
returns c = agree _ 63 refl
