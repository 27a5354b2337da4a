-- Where one record ends and the next begins.
use Rattle.std.specs.Prelude.{◌≡◌, ℕ, ◌+◌, ◌-◌, ◌≤◌, Bool, cond, List, length, take, drop, Some, None, Option, nat_le}
use Rattle.records.specs.Bytes.{two_at}
use Rattle.records.specs.declared.frames.Frame.{Frame}
use Rattle.records.specs.declared.left.Frames.{Frames}
use Rattle.records.specs.declared.frames.Placed.{Placed}

-- a record's kind and payload, and the bytes after it
pub record Framed : Type 0 where
  pub kind : ℕ
  pub payload : List ℕ
  pub rest : List ℕ

-- the length of the payload, which stands first
abbrev pub head_length : List ℕ → ℕ
head_length bs = two_at bs 0

-- the kind, which stands second
abbrev pub head_kind : List ℕ → ℕ
head_kind bs = two_at bs 2

-- the bytes do not end in their first record
abbrev pub whole : List ℕ → Bool
whole bs = nat_le (4 + head_length bs) (length bs)

-- the first record of bytes that hold a whole one, and what follows it
abbrev pub first_frame : List ℕ → Framed
first_frame bs = record { kind = head_kind bs; payload = take (head_length bs) (drop 4 bs); rest = drop (4 + head_length bs) bs }

-- the first record of the bytes, if they do not end in it
abbrev pub framed : List ℕ → Option Framed
framed bs = cond (whole bs) (Some (first_frame bs)) None

-- what a frame of the code stands for
abbrev pub frame_model : Option Frame → Option Framed
frame_model None = None
frame_model (Some f) = Some (record { kind = f.kind; payload = f.payload.now; rest = f.rest.now })

-- the record at the front was given with its place, and those behind it are left
pub record Gives (s : Frames) (p : Placed) (t : Frames) : Type 0 where
  pub frame : framed s.rest.now ≡ frame_model (Some p.frame)
  pub place : p.place ≡ s.place
  pub behind : t.rest.now ≡ p.frame.rest.now
  pub end : t.place + length t.rest.now ≡ s.place + length s.rest.now

-- what a call for the next record gives: none only where no whole record is left, and then nothing changes
abbrev pub NextGives : Frames → Option Placed → Frames → Type 0
NextGives s None t = (framed s.rest.now ≡ None) × (t ≡ s)
NextGives s (Some p) t = Gives s p t

-- `rest` is what is left of the bytes behind some of them
pub record Behind (bytes rest : List ℕ) : Type 0 where
  pub within : length rest ≤ length bytes
  pub left : rest ≡ drop (length bytes - length rest) bytes
