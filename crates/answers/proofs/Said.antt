-- Answers, the lines that are printed for them, and their text.
use Rattle.std.proofs.Common.{◌≡◌, ℕ, [], length, ap, arith}
use Rattle.std.proofs.lemmas.List.{length-append}
use Rattle.answers.specs.Answers.{refusal_text}

-- a refusal is never without text
pub refusal_some : (place number : ℕ) → refusal_text place number ≡ [] → ⊥
refusal_some place number e = omega (arith, simp length-append at (ap length e))
