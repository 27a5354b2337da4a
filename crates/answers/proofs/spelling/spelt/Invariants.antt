use Rattle.std.proofs.Common.{◌≡◌, ◌+◌, ◌*◌, ◌≤◌, ◌∷◌, length, take, flat_map, decimal}
use Rattle.answers.proofs.spelling.spelt.Given as goal

-- the letter and the numbers so far, each of at most 21 places
abbrev pub invariant-loop-number : goal.invariant-loop-number
invariant-loop-number l =
    (l.text.bytes ≡ l.fn.letter ∷ flat_map (λ n. 32 ∷ decimal n) (take l.number-index l.numbers))
    × (length l.text.bytes ≤ 1 + 21 * l.number-index)
