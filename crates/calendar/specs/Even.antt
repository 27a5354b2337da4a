-- A month as if its clocks did not change.
use Rattle.std.specs.Prelude.{ℕ, ◌+◌, ◌-◌, ◌*◌, cond, ◌==◌, nat_le, nat_lt}

-- place p as if every day had 24 hours, where the day s has h
abbrev pub place_if_even : ℕ → ℕ → ℕ → ℕ
place_if_even s h p =
    cond (h == 23) (cond (nat_le (24 * s + 2) p) (p + 1) p) (cond (h == 25) (cond (nat_lt (24 * s + 2) p) (p - 1) p) p)
