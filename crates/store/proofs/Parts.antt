-- What every store keeps, part by part.
use Rattle.std.proofs.Common.{◌≡◌, ◌+◌, ◌-◌, ◌*◌, ◌≤◌, true}
use Rattle.portions.specs.declared.Kind.{Ghosts}
use Rattle.ledger.specs.Ledger.{left_in}
use Rattle.store.specs.declared.Store.{Store}
use Rattle.store.specs.Held.{room}
use Rattle.store.specs.Sound.{rises, due, kept, span}

pub record Parts {K T : Type 0} {k : Ghosts K T} (s : Store K T k) : Type 0 where
  pub roomy : span k.LIFE s.opened ≤ room s
  pub rising : rises (s.month + 1 - span k.LIFE s.opened) (s.month + 1) (kept s.rows) ≡ true
  pub balance : s.totals.used + s.totals.refunded + s.totals.lost + left_in (kept s.rows) ≡ s.totals.entered
  pub bounded : s.totals.entered ≤ 100000000 * due s.month (kept s.rows)
  pub dated : s.month ≤ 1199

pub parts : {K T : Type 0} {k : Ghosts K T} (s : Store K T k) → Parts s
parts s = record { roomy = s.sound.0.0; rising = s.sound.0.1; balance = s.sound.1.0; bounded = s.sound.1.1; dated = s.sound.1.2 }
