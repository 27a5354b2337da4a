-- One thing for each of the three zones.
use Rattle.std.specs.Prelude.{List, [], ◌∷◌}
use Rattle.hours.specs.declared.zones.Zone.{Zone}
use Rattle.hours.specs.declared.zones.Zone.TheVariants.{First, Second, Third}
use Rattle.settlement.specs.declared.zones.Zones.{Zones}

module _ {X : Type 0} where
  -- what a zone has
  abbrev pub of : Zone → Zones X → X
  of First xs = xs.one
  of Second xs = xs.two
  of Third xs = xs.three

  -- all as before but one zone's
  abbrev pub put : Zone → X → Zones X → Zones X
  put First x xs = record { one = x; two = xs.two; three = xs.three }
  put Second x xs = record { one = xs.one; two = x; three = xs.three }
  put Third x xs = record { one = xs.one; two = xs.two; three = x }

  -- what the zones have, in their order
  abbrev pub in_order : Zones X → List X
  in_order xs = xs.one ∷ xs.two ∷ xs.three ∷ []

  -- the same for each zone
  abbrev pub all : X → Zones X
  all x = record { one = x; two = x; three = x }

-- f of what each zone has
abbrev pub each : {X Y : Type 0} → (X → Y) → Zones X → Zones Y
each f xs = record { one = f xs.one; two = f xs.two; three = f xs.three }

-- f of the two things that each zone has
abbrev pub each_two : {X Y W : Type 0} → (X → Y → W) → Zones X → Zones Y → Zones W
each_two f xs ys = record { one = f xs.one ys.one; two = f xs.two ys.two; three = f xs.three ys.three }

-- R holds of what each zone has in the one and in the other
abbrev pub Matched : {X Y : Type 0} → (X → Y → Type 0) → Zones X → Zones Y → Type 0
Matched R xs ys = R xs.one ys.one × R xs.two ys.two × R xs.three ys.three

-- and of three
abbrev pub MatchedThree : {X Y W : Type 0} → (X → Y → W → Type 0) → Zones X → Zones Y → Zones W → Type 0
MatchedThree R xs ys ws = R xs.one ys.one ws.one × R xs.two ys.two ws.two × R xs.three ys.three ws.three
