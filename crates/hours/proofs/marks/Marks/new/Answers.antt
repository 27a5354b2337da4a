use Rattle.std.proofs.Common.{◌≡◌, ◌∙◌, ap₂, [], ◌∷◌, List, ℕ, length, rules}
use Rattle.hours.proofs.Packed.{both_rows, packed_marked_by}
use Rattle.hours.proofs.marks.Marks.new.Goals as goal

pub returns : goal.returns
returns c =
    let working = c.in_ok-zones_of.ensures in
    let weekend = c.in_ok-zones_of-2.ensures in
    let two : length c.args.rows ≡ 2 = search rules in
    packed_marked_by _ c.args.rows c.in_ok-zones_of.field-0 c.in_ok-zones_of-2.field-0 working.sized weekend.sized c.pack.ensures.value c.pack-2.ensures.value
    (ap₂ (λ (x y : List ℕ). x ∷ y ∷ []) working.named weekend.named ∙ both_rows c.args.rows two)
