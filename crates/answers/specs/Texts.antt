-- The text of printed lines.
use Rattle.std.specs.Prelude.{ℕ, List, [], ◌∷◌, ◌++◌, decimal}
use Rattle.std.specs.List.{flat_map}
use Rattle.settlement.specs.Lines.{zone_number}
use Rattle.answers.specs.declared.kinds.Printed.{Printed}
use Rattle.answers.specs.declared.kinds.Printed.TheVariants.{Line, Due, Turned, Refused}

-- a blank, a number, and what follows them
abbrev pub field : ℕ → List ℕ → List ℕ
field n rest = 32 ∷ decimal n ++ rest

-- the end of a line
abbrev pub line_end : List ℕ
line_end = 10 ∷ []

-- a printed line: L, D, T or R, its numbers, and its end
abbrev pub line_text : Printed → List ℕ
line_text (Line l) = 76 ∷ field l.zone (field l.month (field l.used (field l.left line_end)))
line_text (Due zone due) = 68 ∷ field (zone_number zone) (field due line_end)
line_text (Turned refunded lost) = 84 ∷ field refunded (field lost line_end)
line_text (Refused place number) = 82 ∷ field place (field number line_end)

-- printed lines, one after another
abbrev pub lines_text : List Printed → List ℕ
lines_text ps = flat_map line_text ps
