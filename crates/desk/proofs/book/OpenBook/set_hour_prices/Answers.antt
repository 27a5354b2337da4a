use Rattle.std.proofs.lemmas.Result.{err_from_is_err_and}
use Rattle.desk.proofs.Prices.{refused_prices, with_prices}
use Rattle.desk.proofs.book.OpenBook.set_hour_prices.Goals as goal

pub returns-in_err-prices : goal.returns-in_err-prices
returns-in_err-prices c s holds =
    let p = err_from_is_err_and c.from_residual.result c.from_residual.ensures.1 in
    let a = c.in_err-prices.ensures in
    refused_prices _ s _ c.args.self.now a.0 (cc (p.1, p.2, a.1)) holds

pub returns : goal.returns
returns c s holds =
    let a = c.in_ok-prices.ensures in
    with_prices c.args.self.now s c.in_ok-prices.prices _ holds a.0 a.1
