use Rattle.std.proofs.Common.{sym, refl}
use Rattle.hours.proofs.Openings.{named_rows, not_refused, too_high, zones_marked}
use Rattle.hours.proofs.History.{read_none}
use Rattle.hours.proofs.book.Book.open.Goals as goal

pub returns-then-not-all_cheap-clause-opened : goal.returns-then-not-all_cheap-clause-opened
returns-then-not-all_cheap-clause-opened c =
    too_high c.args.month c.args.tariff.marks c.args.tariff.sale c.if-month-lt47.false c.in-Some.ensures.1
    (named_rows c.in_ok-marks.marks c.args.tariff.marks c.in_ok-marks.ensures) (sym c.if-not-all_cheap.ensures.value)

pub returns-clause-opened : goal.returns-clause-opened
returns-clause-opened c =
    let kept = c.in_ok-marks.marks in
    record {
      accepted = not_refused c.args.month c.args.tariff.marks c.args.tariff.sale c.if-month-lt47.false c.in-Some.ensures.1
          (named_rows kept c.args.tariff.marks c.in_ok-marks.ensures) (sym c.if-not-all_cheap.ensures.value);
      month = c.in-Some.ensures.0;
      marked = c.in_ok-marks.ensures;
      sales = refl;
      zones = zones_marked c.in-Some.month.number c.args.month kept c.args.tariff.marks c.in-Some.ensures.0 c.in_ok-marks.ensures;
      unread = c.empty.ensures;
    }

pub returns-clause-history : goal.returns-clause-history
returns-clause-history c = read_none _ _ c.empty.ensures
