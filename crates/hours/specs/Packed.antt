-- A row of zones in two bits each.
use Rattle.std.specs.Prelude.{ℕ, ◌+◌, ◌*◌, ◌/◌, ◌%◌, ◌^◌, ◌<◌, List, [], ◌∷◌, map}
use Rattle.std.specs.List.{range_with_len}
use Rattle.hours.specs.Zones.{zone_bits, zone_of_bits}
use Rattle.hours.specs.declared.zones.Zone.{Zone}

-- a row of zones in two bits each, the first lowest
unfoldable pub packed : List Zone → ℕ
packed [] = 0
packed (z ∷ zs) = zone_bits z + 4 * packed zs

-- the two bits at place c of a packed row
abbrev pub bits_in : ℕ → ℕ → ℕ
bits_in bits c = bits / 2 ^ (2 * c) % 4

-- they stand for a zone at each place
abbrev pub Coded : ℕ → Type 0
Coded bits = (c : ℕ) → c < 24 → bits_in bits c < 3

-- the zone at place c of a packed row
abbrev pub zone_in : ℕ → ℕ → Zone
zone_in bits c = zone_of_bits (bits_in bits c)

-- the 24 zones of a packed row
unfoldable pub zones_in : ℕ → List Zone
zones_in bits = map (λ c. zone_in bits c) (range_with_len 0 24)
