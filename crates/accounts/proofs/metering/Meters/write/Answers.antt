use Rattle.std.proofs.Common.{arith}
use Rattle.portions.specs.Listed.{listed}
use Rattle.settlement.specs.Zones.{each}
use Rattle.accounts.specs.Means.{energy_kind, energies}
use Rattle.accounts.proofs.Facts.{few_open}
use Rattle.accounts.proofs.Covered.{zones_count, zones_lines}
use Rattle.accounts.proofs.metering.Meters.write.Goals as goal

pub write_lines-three-requires-clause-room : goal.write_lines-three-requires-clause-room
write_lines-three-requires-clause-room c =
    let m = c.args.self.now in
    let one = few_open energy_kind m.stores.one in
    let two = few_open energy_kind m.stores.two in
    let three = few_open energy_kind m.stores.three in
    let first = c.write_lines-one in
    let second = c.write_lines-two in
    omega (arith, one, two, three, c.requires.room, first.ensures.count, second.ensures.count, first.auto.lines, second.auto.lines, c.split_at_mut-rest.ensures.back_len, c.split_at_mut-rest-2.ensures.back_len)

pub returns : goal.returns
returns c =
    let before = each listed c.args.before.now in
    let stores = each energies c.args.self.now.stores in
    let first = c.write_lines-one.ensures in
    let second = c.write_lines-two.ensures in
    let third = c.write_lines-three.ensures in
    let rest = c.split_at_mut-rest.ensures in
    let last = c.split_at_mut-rest-2.ensures in
    record {
      count = zones_count before stores c.requires.known _ _ first.count second.count _ third.count;
      lines = zones_lines before stores c.requires.known _ _ first.count second.count c.args.lines.now _ _ _ _ _ _ _ first.lines rest.front rest.back second.lines last.front last.back third.lines;
    }
