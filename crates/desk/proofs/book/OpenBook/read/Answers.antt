use Rattle.std.proofs.Common.{refl}
use Rattle.desk.proofs.NextHour.{read_holds, kept_prices}
use Rattle.desk.proofs.book.OpenBook.read.Goals as goal

pub returns : goal.returns
returns c s holds =
    let e = c.read_asking.ensures in
    read_holds c.args.self.now s holds _ c.args.reading.import c.args.reading.export _ e.answer refl e.terms e.history (kept_prices _ _ _ _ _ _ e.asked)
