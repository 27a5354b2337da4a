-- What a turn does to the rows in use: which stay, and what those that end refund and lose.
use Rattle.std.specs.Prelude.{ℕ, ◌-◌, List, filter}
use Rattle.portions.specs.declared.Slot.{Slot}
use Rattle.portions.specs.declared.Kind.{Ghosts}
use Rattle.portions.specs.Sums.{total}
use Rattle.portions.specs.Slots.{reads, plain}
use Rattle.ledger.specs.Steps.{ends_by, stays_in}

-- what the portion in a row refunds at its end
abbrev pub refund_in : {K T : Type 0} → Ghosts K T → Slot → ℕ
refund_in k row = k.refund (reads k.term row)

-- what it loses
abbrev pub loss_in : {K T : Type 0} → Ghosts K T → Slot → ℕ
loss_in k row = (plain row).left - refund_in k row

-- the rows that stay as the month comes
abbrev pub staying : {K T : Type 0} → Ghosts K T → ℕ → List Slot → List Slot
staying k month rows = filter (λ row. stays_in k.LIFE month (plain row)) rows

-- the rows that end
abbrev pub ending : {K T : Type 0} → Ghosts K T → ℕ → List Slot → List Slot
ending k month rows = filter (λ row. ends_by k.LIFE month (plain row)) rows

-- the refunds of those that end, summed
abbrev pub refunds_in : {K T : Type 0} → Ghosts K T → ℕ → List Slot → ℕ
refunds_in k month rows = total (refund_in k) (ending k month rows)

-- their losses, summed
abbrev pub losses_in : {K T : Type 0} → Ghosts K T → ℕ → List Slot → ℕ
losses_in k month rows = total (loss_in k) (ending k month rows)
