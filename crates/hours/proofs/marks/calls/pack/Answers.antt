use Rattle.std.proofs.Common.{◌≡◌, ◌+◌, ◌-◌, ◌*◌, ◌∙◌, ap, sym, get_or, length, drop, length-drop, subst, rules, arith}
use Rattle.hours.specs.Packed.{Coded, packed}
use Rattle.hours.specs.Zones.{zone_bits}
use Rattle.hours.specs.declared.zones.Zone.TheVariants.{First}
use Rattle.hours.proofs.Packed.{packed_coded, packed_more, packed_none, packed_room}
use Rattle.hours.proofs.marks.calls.pack.Goals as goal

pub loop-hour-init : goal.loop-hour-init
loop-hour-init c =
    let l : length c.args.zones ≡ 24 = search rules in
    packed_none (drop 24 c.args.zones) (simp length-drop (omega arith))

pub overflow_mul-bits : goal.overflow_mul-bits
overflow_mul-bits c =
    let l : length c.args.zones ≡ 24 = search rules in
    let r = packed_room c.args.zones c.loop-hour.hour l (omega arith) in
    let i = c.loop-hour.invariant in
    omega arith

pub overflow_add-bits : goal.overflow_add-bits
overflow_add-bits c =
    let l : length c.args.zones ≡ 24 = search rules in
    let r = packed_room c.args.zones c.loop-hour.hour l (omega arith) in
    let i = c.loop-hour.invariant in
    omega arith

pub loop-hour-preserved : goal.loop-hour-preserved
loop-hour-preserved c =
    let l : length c.args.zones ≡ 24 = search rules in
    let i = c.loop-hour.hour - 1 in
    let k : c.loop-hour.hour ≡ i + 1 = omega arith in
    let b : zone_bits (get_or c.args.zones i First) ≡ c.from.result = sym (c.from.ensures ∙ ap (λ n. n - 1) c.number.ensures) in
    let m = packed_more c.args.zones i c.loop-hour.bits (omega arith) (c.loop-hour.invariant ∙ ap (λ n. packed (drop n c.args.zones)) k) in
    sym (ap (λ n. 4 * c.loop-hour.bits + n) b) ∙ m

pub returns : goal.returns
returns c =
    let done : c.loop-hour.hour ≡ 0 = omega arith in
    let value : c.loop-hour.bits ≡ packed c.args.zones = c.loop-hour.invariant ∙ ap (λ n. packed (drop n c.args.zones)) done in
    record { value = value; coded = subst Coded (sym value) (packed_coded c.args.zones) }
