use Rattle.std.proofs.Common.{◌≡◌, ◌<◌, ◌≤◌, Some, None, Option, ◌∙◌, ap, refl, sym, subst, arith}
use Rattle.std.proofs.lemmas.Bool.Decides.{nat_tests}
use Rattle.calendar.proofs.Hours.{hour_inside}
use Rattle.calendar.specs.declared.month.days.Hour.{Hour}
use Rattle.hours.specs.Marks.{zone_kept}
use Rattle.hours.specs.Reading.{hours_of, zone_at}
use Rattle.hours.specs.Zones.{zone_number}
use Rattle.hours.specs.declared.zones.Zone.{Zone}
use Rattle.hours.proofs.book.Terms.zone_at.Goals as goal

pub returns : goal.returns
returns c =
    let t = c.args.self.now in
    let at = hour_inside t.month.number c.args.place c.in_ok-hour.hour c.in_ok-hour.ensures.value in
    let here : c.zone.result ≡ Some (zone_kept t.marks c.in_ok-hour.hour.weekend c.in_ok-hour.hour.clock) = grind (arith, nat_tests) in
    let z = here ∙ ap (λ (h : Hour). Some (zone_kept t.marks h.weekend h.clock)) at.1 in
    let Found : Option Zone → Type 0 = elim [ Some z ↦ (c.args.place < hours_of t) × (zone_number z ≡ zone_at t c.args.place) | None ↦ hours_of t ≤ c.args.place ] in
    subst Found (sym z) (at.0, refl)
