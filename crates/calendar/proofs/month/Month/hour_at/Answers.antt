use Rattle.std.proofs.Common.{◌≡◌, ◌<◌, ◌%◌, ◌∙◌, ap, sym, subst, arith, ℕ, Bool, ◌/◌}
use Rattle.calendar.specs.Even.{place_if_even}
use Rattle.calendar.specs.Hour.{HourAt, hours_at_change, month_hours}
use Rattle.calendar.proofs.Hours.{hour, hour_found, hour_is, one_hour}
use Rattle.calendar.proofs.month.Month.hour_at.Goals as goal

pub returns : goal.returns
returns c =
    let s = c.args.self.now in
    let m = s.number in
    let p = c.args.place in
    let e = c.even_place-even.result in
    let k : p < month_hours m = subst (λ (n : ℕ). p < n) s.long c.if-place-self.false in
    let q : e ≡ place_if_even s.sunday (hours_at_change (m % 12)) p = c.even_place-even.ensures.value ∙ ap (λ x. place_if_even s.sunday x p) s.changes in
    let h = subst (λ (w : Bool). HourAt m p (record { day = e / 24; clock = e % 24; weekend = w })) (sym c.is_day_off.ensures) (hour m s.sunday p e s.last s.inside k q) in
    record { value = sym (hour_found m p _ k (hour_is m p _ h)); one = one_hour m p _ h; clock = omega arith }
