use Rattle.calendar.proofs.DaysOff.{off_at}
use Rattle.calendar.proofs.month.Month.is_day_off.Goals as goal

pub returns : goal.returns
returns c =
    let m = c.args.self.now in
    off_at c.days_off.result m.number m.first c.args.day c.days_off.ensures m.begins c.requires
