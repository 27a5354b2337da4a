-- The zones and the marks that name them.
use Rattle.std.specs.Prelude.{◌≡◌, ℕ, zero, suc, ◌-◌, Bool, false, ◌&&◌, Result, MatchResult, nat_le}
use Rattle.faults.specs.declared.BookFault.{BookFault}
use Rattle.faults.specs.declared.BookFault.TheVariants.{MarkOutOfRange}
use Rattle.hours.specs.declared.zones.Zone.{Zone}
use Rattle.hours.specs.declared.zones.Zone.TheVariants.{First, Second, Third}

-- the number of a zone
abbrev pub zone_number : Zone → ℕ
zone_number First = 1
zone_number Second = 2
zone_number Third = 3

-- a mark names one of the zones 1, 2 and 3
abbrev pub names_zone : ℕ → Bool
names_zone n = nat_le 1 n && nat_le n 3

-- the result is the zone that the mark names, or refusal 11 of a mark that names none
abbrev pub Named : ℕ → Result Zone BookFault → Type 0
Named mark r = MatchResult r (λ zone. zone_number zone ≡ mark) (λ fault. (fault ≡ MarkOutOfRange) × (names_zone mark ≡ false))

-- what stands for a zone in two bits: its number less one
abbrev pub zone_bits : Zone → ℕ
zone_bits z = zone_number z - 1

-- the zone that they stand for
abbrev pub zone_of_bits : ℕ → Zone
zone_of_bits zero = First
zone_of_bits (suc zero) = Second
zone_of_bits (suc (suc n)) = Third
