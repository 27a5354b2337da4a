-- What is printed for an answer and for a refusal.
use Rattle.std.specs.Prelude.{ℕ, List, [], ◌∷◌, ◌++◌, map, Some, None}
use Rattle.hours.specs.declared.zones.Zone.TheVariants.{First, Second, Third}
use Rattle.settlement.specs.declared.zones.Zones.{Zones}
use Rattle.answers.specs.declared.kinds.Printed.{Printed}
use Rattle.answers.specs.declared.kinds.Printed.TheVariants.{Line, Due, Turned, Refused}
use Rattle.answers.specs.Said.{Said, nothing, settled, paid, turned}
use Rattle.answers.specs.Texts.{line_text, lines_text}

-- what is due in each zone
abbrev pub dues : Zones ℕ → List Printed
dues due = Due (Some First) due.one ∷ Due (Some Second) due.two ∷ Due (Some Third) due.three ∷ []

-- what is due of a bill
abbrev pub bill_due : ℕ → Printed
bill_due due = Due None due

-- the lines that are printed for an answer, in their order
abbrev pub printed : Said → List Printed
printed nothing = []
printed (settled lines answer) = map Line lines ++ dues answer.due
printed (paid lines answer) = map Line lines ++ bill_due answer.due ∷ []
printed (turned refunded lost) = Turned refunded lost ∷ []

-- the text that is printed for an answer
abbrev pub said_text : Said → List ℕ
said_text s = lines_text (printed s)

-- the text that is printed for a refusal: the record's place and the refusal's number
abbrev pub refusal_text : ℕ → ℕ → List ℕ
refusal_text place number = line_text (Refused place number)
