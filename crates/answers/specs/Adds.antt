-- What a printing adds to a text.
use Rattle.std.specs.Prelude.{◌≡◌, ℕ, ◌+◌, ◌<◌, ◌≤◌, List, ◌++◌, length, take, Ok, Err, string_bytes, string_capacity, Result, String}
use Rattle.answers.specs.declared.kinds.Printed.{Printed}
use Rattle.answers.specs.Texts.{lines_text}

module _ {Z : Type 0} where
  -- the text gained these lines, and lost no room
  pub record Added (ps : List Printed) (before after : String Z) : Type 0 where
    pub text : string_bytes after ≡ string_bytes before ++ lines_text ps
    pub room : string_capacity before ≤ string_capacity after

  -- the text gained some first lines of these but not all of them, for which it had too little room
  pub record Begun (ps : List Printed) (before after : String Z) : Type 0 where
    pub many : ℕ
    pub short : many < length ps
    pub text : string_bytes after ≡ string_bytes before ++ lines_text (take many ps)
    pub full : string_capacity before < length (string_bytes before) + length (lines_text ps)

  -- the text gained these lines, or began to where memory was wanting
  abbrev pub Adds : {T E : Type 0} → Result T E → List Printed → String Z → String Z → Type 0
  Adds (Ok x) ps before after = Added ps before after
  Adds (Err e) ps before after = Begun ps before after
