use Rattle.std.proofs.Common.{◌/◌, length, refl, rules}
use Rattle.std.proofs.lemmas.Iterator.{YieldsList-from_map, YieldsList-from_slice, items_from_collect}
use Rattle.std.specs.Simd.{first_chunks}
use Rattle.records.specs.Prices.{price_at}
use Rattle.records.proofs.Fours.{fours_read}
use Rattle.records.proofs.prices.price_list.Goals as goal

pub returns-clause-prices : goal.returns-clause-prices
returns-clause-prices c =
    let fours = first_chunks 4 (length c.args.bytes.now / 4) c.args.bytes.now in
    let prices = items_from_collect _ c.collect.ensures.ran (YieldsList-from_map _ (λ four. price_at four 0) (YieldsList-from_slice fours cc) c.map.ensures.closure (λ x r q k. search rules)) in
    rw (← fours_read (length c.args.bytes.now / 4) c.args.bytes.now refl) prices
