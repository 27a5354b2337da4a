-- A source whose bytes are known, over reads that a signal interrupts and reads that bring something.
use Rattle.std.proofs.Common.{ℕ, List, Some, None, Ok, Err, Option, Result, sym, refl, ◌∙◌}
use Rattle.std.specs.Io.KnownBytes.{Consumes, Keeps, ReadConsumes}

-- bytes that stay stay on
pub keeps_on : (a b c : Option (List ℕ)) → Keeps a b → Keeps b c → Keeps a c
keeps_on None b c k l = tt
keeps_on (Some xs) None c k l = absurd k
keeps_on (Some xs) (Some ys) None k l = absurd l
keeps_on (Some xs) (Some ys) (Some zs) k l = l ∙ k

pub keeps_same : (a : Option (List ℕ)) → Keeps a a
keeps_same None = tt
keeps_same (Some xs) = refl

consumes_on : (a b c : Option (List ℕ)) (bs : List ℕ) → Keeps a b → Consumes b c bs → Consumes a c bs
consumes_on None b c bs k l = tt
consumes_on (Some xs) None c bs k l = absurd k
consumes_on (Some xs) (Some ys) None bs k l = absurd l
consumes_on (Some xs) (Some ys) (Some zs) bs k l = sym k ∙ l

-- a read after bytes have stayed
pub reads_after : {E : Type 0} (a b c : Option (List ℕ)) (r : Result ℕ E) (buf : List ℕ) → Keeps a b → ReadConsumes b c r buf → ReadConsumes a c r buf
reads_after a b c (Ok n) buf k l = (consumes_on a b c _ k l.0, l.1)
reads_after a b c (Err e) buf k l = keeps_on a b c k l
