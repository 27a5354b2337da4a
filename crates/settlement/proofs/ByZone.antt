-- Lemmas on what zones have.
use Rattle.std.proofs.Common.{◌≡◌, Bool, true, false, eqb, refl, rules}
use Rattle.hours.specs.declared.zones.Zone.{Zone}
use Rattle.hours.specs.Zones.{zone_number}
use Rattle.settlement.specs.declared.zones.Zones.{Zones}
use Rattle.settlement.specs.Zones.{of, put, all, each, each_two}
use Rattle.hours.specs.declared.zones.Zone.TheVariants.{First, Second, Third}

module _ {X : Type 0} where
  pub of_put : (z : Zone) (x : X) (xs : Zones X) → of z (put z x xs) ≡ x
  of_put First x xs = refl
  of_put Second x xs = refl
  of_put Third x xs = refl

  pub of_all : (z : Zone) (x : X) → of z (all x) ≡ x
  of_all First x = refl
  of_all Second x = refl
  of_all Third x = refl

  -- what relates the new to the old at the zone that is put, and each to itself, relates new to old at every zone
  pub put_relates : (R : X → X → Type 0) → ((x : X) → R x x) → (z : Zone) (x : X) (xs : Zones X) → R x (of z xs) → (other : Zone) → R (of other (put z x xs)) (of other xs)
  put_relates R same z x xs r other = search rules

  -- what holds at every zone, and of what is put, holds after
  pub put_holds : (P : Zone → X → Type 0) (z : Zone) (x : X) (xs : Zones X) → P z x → ((other : Zone) → P other (of other xs)) → (other : Zone) → P other (of other (put z x xs))
  put_holds P z x xs p ps other = search rules

  -- what holds of what is put where it is put, and of the others elsewhere, holds at each zone
  pub put_either : (Q : Bool → Zone → X → Type 0) (z : Zone) (x : X) (xs : Zones X) → Q true z x → ((other : Zone) → Q false other (of other xs)) → (other : Zone) → Q (eqb (zone_number z) (zone_number other)) other (of other (put z x xs))
  put_either Q z x xs here there other = search rules

pub of_each : {X Y : Type 0} (f : X → Y) (z : Zone) (xs : Zones X) → of z (each f xs) ≡ f (of z xs)
of_each f First xs = refl
of_each f Second xs = refl
of_each f Third xs = refl

pub of_each_two : {X Y W : Type 0} (f : X → Y → W) (z : Zone) (xs : Zones X) (ys : Zones Y) → of z (each_two f xs ys) ≡ f (of z xs) (of z ys)
of_each_two f First xs ys = refl
of_each_two f Second xs ys = refl
of_each_two f Third xs ys = refl
