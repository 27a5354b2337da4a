-- The lines of a settlement.
use Rattle.std.specs.Prelude.{ℕ, ◌-◌, List, [], ◌∷◌, ◌++◌, length, drop, Some, None, Option}
use Rattle.portions.specs.Portions.{Portion}
use Rattle.settlement.specs.declared.answers.Line.{Line}
use Rattle.hours.specs.declared.zones.Zone.{Zone}
use Rattle.hours.specs.Zones as zones

-- the number that stands for a zone in a line and where it is printed: 0 for none, as a deposit has none
abbrev pub zone_number : Option Zone → ℕ
zone_number (Some zone) = zones.zone_number zone
zone_number None = 0

-- the line of a portion that had so much left before the settlement
abbrev pub line_of : {T : Type 0} → Option Zone → ℕ → Portion T → Line
line_of zone was p = record { zone = zone_number zone; month = p.month; used = was - p.left; left = p.left }

-- a line for each portion of a zone, from what was left in each before and the portions after
abbrev pub lines_of : {T : Type 0} → Option Zone → List ℕ → List (Portion T) → List Line
lines_of z [] after = []
lines_of z (was ∷ before) [] = []
lines_of z (was ∷ before) (p ∷ after) = line_of z was p ∷ lines_of z before after

-- the caller's lines with these written over the first ones: the others stay
abbrev pub written : List Line → List Line → List Line
written new old = new ++ drop (length new) old
