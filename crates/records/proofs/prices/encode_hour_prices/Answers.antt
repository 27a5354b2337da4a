use Rattle.std.proofs.Common.{◌≡◌, ◌*◌, ◌<◌, ◌≤◌, ◌++◌, length, get_or, pos, vec_items, arith, w32, SFits, rules}
use Rattle.records.specs.Bytes.{two_at}
use Rattle.records.proofs.Begun.{begun_all, begun_more}
use Rattle.records.proofs.Written.{two_written}
use Rattle.records.proofs.prices.encode_hour_prices.Goals as goal

pub loop-price-preserved : goal.loop-price-preserved
loop-price-preserved c =
    let within : c.loop-price.price-index < length c.args.prices.now = search rules in
    let fits : SFits w32 (get_or c.args.prices.now c.loop-price.price-index (pos 0)) = search rules in
    let more : vec_items c.extend_from_slice-in-loop-price.new.self ≡ vec_items c.loop-price.bytes ++ c.to_le_bytes-in-loop-price.result = search rules in
    begun_more _ _ c.args.prices.now c.loop-price.price-index (vec_items c.loop-price.bytes) _ _ within fits c.loop-price.invariant c.to_le_bytes-in-loop-price.ensures more

pub returns : goal.returns
returns c =
    let few : length c.args.prices.now ≤ 745 = search rules in
    let long : two_at c.to_le_bytes.result 0 ≡ 4 * length c.args.prices.now = two_written (4 * length c.args.prices.now) c.to_le_bytes.result (omega arith) c.to_le_bytes.ensures in
    let all : c.loop-price.price-index ≡ length c.args.prices.now = search rules in
    (few, begun_all _ _ c.args.prices.now c.loop-price.price-index (vec_items c.loop-price.bytes) few long all c.loop-price.invariant)
