-- Zone marks: the zone of each clock hour, 24 of a working day and 24 of a Saturday or Sunday.
use Rattle.std.specs.Prelude.{◌≡◌, ℕ, ◌<◌, Bool, false, cond, List, [], ◌∷◌, Result, MatchResult, map, slice_index, slice_index_or}
use Rattle.std.specs.List.{list_all}
use Rattle.calendar.specs.Hour.{hour_of_place}
use Rattle.faults.specs.declared.BookFault.{BookFault}
use Rattle.faults.specs.declared.BookFault.TheVariants.{MarkOutOfRange}
use Rattle.hours.specs.Zones.{names_zone, zone_number}
use Rattle.hours.specs.Packed.{packed, zone_in, zones_in}
use Rattle.hours.specs.declared.marks.Marks.{Marks}
use Rattle.hours.specs.declared.zones.Zone.{Zone}

-- every mark of a row names a zone
abbrev pub each_zone : List ℕ → Bool
each_zone row = list_all names_zone row

-- the mark of a clock hour of a working day, or of a Saturday or Sunday, in two rows
abbrev pub mark_at : List (List ℕ) → Bool → ℕ → ℕ
mark_at rows weekend clock = slice_index (slice_index_or rows (cond weekend 1 0) []) clock

-- the zone at place p of month m, by the two rows of marks
abbrev pub zone_by_marks : List (List ℕ) → ℕ → ℕ → ℕ
zone_by_marks marks m p = mark_at marks (hour_of_place m p).weekend (hour_of_place m p).clock

-- the marks that name a row of zones
abbrev pub marks_of : List Zone → List ℕ
marks_of zones = map zone_number zones

-- the result is the zones that a row of marks names, or refusal 11 of a row with a mark that names none
abbrev pub RowNamed : List ℕ → Result (List Zone) BookFault → Type 0
RowNamed row r = MatchResult r (λ zones. marks_of zones ≡ row) (λ fault. (fault ≡ MarkOutOfRange) × (each_zone row ≡ false))

-- the zone that marks have for a clock hour of a working day, or of a Saturday or Sunday
abbrev pub zone_kept : Marks → Bool → ℕ → Zone
zone_kept m weekend clock = zone_in (cond weekend m.weekend m.working) clock

-- the two rows that marks are of: of a working day, and of a Saturday or Sunday
abbrev pub rows_of : Marks → List (List ℕ)
rows_of m = marks_of (zones_in m.working) ∷ marks_of (zones_in m.weekend) ∷ []

-- the marks are those of the two rows: unpacked, they are the rows again; their numbers are the zones that the rows name, packed,
-- and no others stand for them, so the rows decide the numbers; and in either row each clock hour has the zone that its mark names
pub record MarkedBy (m : Marks) (rows : List (List ℕ)) : Type 0 where
  pub unpacked : rows_of m ≡ rows
  pub numbers : (working weekend : List Zone) → marks_of working ∷ marks_of weekend ∷ [] ≡ rows →
      (m.working ≡ packed working) × (m.weekend ≡ packed weekend)
  pub named : (weekend : Bool) (clock : ℕ) → clock < 24 →
      zone_number (zone_kept m weekend clock) ≡ mark_at rows weekend clock
