-- Records appended to a file in the caller's memory.
use Rattle.std.specs.Prelude.{◌≡◌, ℕ, ◌+◌, ◌<◌, ◌≤◌, Bool, cond, List, ◌++◌, length, take, drop, ℤ, nat_le}
use Rattle.records.specs.Records.{Rec}
use Rattle.records.specs.Records.Rec.{gives_hour_prices}
use Rattle.records.specs.Says.{Says}

-- whether bytes have room after the first `used` of a file
abbrev pub fits : List ℕ → List ℕ → ℕ → Bool
fits bytes file used = nat_le (used + length bytes) (length file)

-- the number that is returned: 0, or 41 for too little room
abbrev pub number_for : List ℕ → List ℕ → ℕ → ℕ
number_for bytes file used = cond (fits bytes file used) 0 41

-- the file afterwards: the bytes stand after those in use, and the others are as they were
abbrev pub file_after : List ℕ → List ℕ → ℕ → List ℕ
file_after bytes file used = cond (fits bytes file used) (take used file ++ (bytes ++ drop (used + length bytes) file)) file

-- how many bytes are in use afterwards
abbrev pub length_after : List ℕ → List ℕ → ℕ → ℕ
length_after bytes file used = cond (fits bytes file used) (used + length bytes) used

-- a record that says this was appended, or had no room: then nothing differs
pub record Appends (said : Rec) (number : ℕ) (file : List ℕ) (used : ℕ) (file' : List ℕ) (used' : ℕ) : Type 0 where
  pub bytes : List ℕ
  pub says : Says bytes said
  pub answer : number ≡ number_for bytes file used
  pub laid : file' ≡ file_after bytes file used
  pub counted : used' ≡ length_after bytes file used

-- nothing differs
abbrev pub Same : List ℕ → ℕ → List ℕ → ℕ → Type 0
Same file used file' used' = (file' ≡ file) × (used' ≡ used)

-- hour prices were appended, or are too many (43), or memory is wanting (42): then nothing differs
pub data AppendsPrices (prices : List ℤ) (number : ℕ) (file : List ℕ) (used : ℕ) (file' : List ℕ) (used' : ℕ) : Type 0 where
  appended : length prices ≤ 745 → Appends (gives_hour_prices prices) number file used file' used' → AppendsPrices prices number file used file' used'
  too_many : 745 < length prices → number ≡ 43 → Same file used file' used' → AppendsPrices prices number file used file' used'
  no_memory : length prices ≤ 745 → number ≡ 42 → Same file used file' used' → AppendsPrices prices number file used file' used'
