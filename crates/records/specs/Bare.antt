-- The records with no payload.
use Rattle.records.specs.Records.{Rec, finish, settle, turn}
use Rattle.records.specs.declared.bare.Bare.{Bare}
use Rattle.records.specs.declared.bare.Bare.TheVariants.{Finish, Settle, Turn}

-- what such a record says
abbrev pub bare_said : Bare → Rec
bare_said Finish = finish
bare_said Settle = settle
bare_said Turn = turn
