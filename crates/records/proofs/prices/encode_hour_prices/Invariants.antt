use Rattle.std.proofs.Common.{vec_items}
use Rattle.records.proofs.Begun.{Begun}
use Rattle.records.proofs.prices.encode_hour_prices.Given as goal

abbrev pub invariant-loop-price : goal.invariant-loop-price
invariant-loop-price l = Begun l.len0 l.len1 l.prices l.price-index (vec_items l.bytes)
