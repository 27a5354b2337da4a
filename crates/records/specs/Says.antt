-- Bytes that are a record.
use Rattle.std.specs.Prelude.{◌≡◌, ℕ, List, ◌∷◌, ◌++◌, length, drop, Some, Ok}
use Rattle.records.specs.Frames.{framed, head_kind}
use Rattle.records.specs.Records.{Rec, decoded}

-- these bytes, whatever follows them, are one record, and what stands after its head says this
pub record Says (bytes : List ℕ) (said : Rec) : Type 0 where
  pub alone : (rest : List ℕ) → framed (bytes ++ rest) ≡ Some (record { kind = head_kind bytes; payload = drop 4 bytes; rest = rest })
  pub means : decoded (head_kind bytes) (drop 4 bytes) ≡ Ok said

-- the record of a book: its head, two rows of marks and three prices of four bytes
pub record BookBytes (working weekend sale bytes : List ℕ) : Type 0 where
  pub laid : bytes ≡ 60 ∷ 0 ∷ 3 ∷ 0 ∷ (working ++ (weekend ++ sale))
  pub working_long : length working ≡ 24
  pub weekend_long : length weekend ≡ 24
  pub sale_long : length sale ≡ 12
