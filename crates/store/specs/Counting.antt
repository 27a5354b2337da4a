-- The running totals, as calls raise them.
use Rattle.std.specs.Prelude.{ℕ, ◌+◌}
use Rattle.store.specs.declared.totals.Totals.{Totals}

-- with an amount more entered
abbrev pub more_entered : Totals → ℕ → Totals
more_entered t amount = record { entered = t.entered + amount; used = t.used; refunded = t.refunded; lost = t.lost }

-- with a sum more used
abbrev pub more_used : Totals → ℕ → Totals
more_used t sum = record { entered = t.entered; used = t.used + sum; refunded = t.refunded; lost = t.lost }

-- with so much more refunded and lost
abbrev pub more_ended : Totals → ℕ → ℕ → Totals
more_ended t refund loss = record { entered = t.entered; used = t.used; refunded = t.refunded + refund; lost = t.lost + loss }
