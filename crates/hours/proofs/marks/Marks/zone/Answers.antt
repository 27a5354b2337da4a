use Rattle.std.proofs.Common.{◌≡◌, ◌*◌, ◌/◌, ◌%◌, ◌^◌, cond, ◌∙◌, ap, sym, arith}
use Rattle.std.proofs.lemmas.Bool.Decides.{nat_tests}
use Rattle.std.proofs.lemmas.Nat.{and_mask}
use Rattle.hours.specs.Marks.{zone_kept}
use Rattle.hours.specs.Zones.{zone_of_bits}
use Rattle.hours.proofs.marks.Marks.zone.Goals as goal
use Rattle.hours.proofs.marks.Marks.zone.Goals.{then-weekend, else-weekend}

pub returns : goal.returns
returns c =
    let m = c.args.self in
    let at = c.args.clock in
    let row : c.if-weekend.row ≡ cond c.args.weekend m.weekend m.working = elim c.if-weekend.branch [
      | then-weekend w ↦ w.row-is ∙ sym (ap (λ b. cond b m.weekend m.working) w.if-weekend.true)
      | else-weekend w ↦ w.row-is ∙ sym (ap (λ b. cond b m.weekend m.working) w.if-weekend.false)
    ] in
    let value : c.of_bits.result ≡ zone_kept m c.args.weekend at = c.of_bits.ensures ∙ ap zone_of_bits (and_mask (c.if-weekend.row / 2 ^ (2 * at)) 2) ∙ ap (λ n. zone_of_bits (n / 2 ^ (2 * at) % 4)) row in
    let inside = c.if-clock-ge24.false in
    grind (arith, nat_tests)
