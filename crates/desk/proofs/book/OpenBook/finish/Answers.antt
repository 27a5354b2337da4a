use Rattle.std.proofs.Common.{rules}
use Rattle.desk.proofs.Finished.{passed_on}
use Rattle.desk.proofs.book.OpenBook.finish.Goals as goal

pub returns : goal.returns
returns c s holds = passed_on c.args.self s holds c.finish.result c.map_err.result _ c.finish.ensures.sums c.map_err.ensures.cases (λ u back gives. search rules)
