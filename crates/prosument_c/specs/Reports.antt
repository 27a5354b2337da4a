-- A report in the caller's memory.
use Rattle.std.specs.Prelude.{◌≡◌, ℕ, cond, List, ◌++◌, length, drop, nat_le}
use Rattle.report.specs.Runs.{report_text}
use Rattle.report.specs.Laws.{NeedsMemory}

-- the number that is returned for a text of these bytes: 0, or 41 for too little room
abbrev pub text_number : List ℕ → List ℕ → ℕ
text_number bytes text = cond (nat_le (length bytes) (length text)) 0 41

-- the caller's bytes afterwards: the text stands at their beginning, and the others are as they were
abbrev pub text_after : List ℕ → List ℕ → List ℕ
text_after bytes text = cond (nat_le (length bytes) (length text)) (bytes ++ drop (length bytes) text) text

-- the report of the file was given, or had no room, and its length was told; or memory is wanting (42), and nothing differs
pub data Reports (file : List ℕ) (number : ℕ) (text : List ℕ) (long : ℕ) (text' : List ℕ) (long' : ℕ) : Type 0 where
  given : number ≡ text_number (report_text file) text → text' ≡ text_after (report_text file) text → long' ≡ length (report_text file) → Reports file number text long text' long'
  no_memory : number ≡ 42 → NeedsMemory file → text' ≡ text → long' ≡ long → Reports file number text long text' long'
