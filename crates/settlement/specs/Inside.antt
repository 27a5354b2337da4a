-- The calls that an account makes on its stores, read off its own calls.
use Rattle.std.specs.Prelude.{cond, List, [], ◌∷◌, ◌++◌, ◌==◌}
use Rattle.histories.specs.Histories as histories
use Rattle.ledger.specs.Rules.{Rule, by_rule}
use Rattle.ledger.specs.Ledger.{Ledger}
use Rattle.ledger.specs.Steps.{refunds, losses}
use Rattle.ledger.specs.History as store
use Rattle.settlement.specs.Accounts.{Workings, Covering, machine}
use Rattle.settlement.specs.History.{Event, History, entered, settled, turned}

module _ {O A S Z T : Type 0} (works : Workings O A S Z T) where
  -- where the calls h bring an account that was opened so
  abbrev pub at : O → History O S → A
  at o h = histories.brought (machine works) o h

  -- the draws that coverings by a rule make on the store of z
  abbrev pub draws_on : Z → Rule → List (Covering Z) → store.History T
  draws_on z rule [] = []
  draws_on z rule (c ∷ cs) =
      cond (works.place c.from == works.place z)
      (store.drew (by_rule rule c.wanted) c.used ∷ draws_on z rule cs)
      (draws_on z rule cs)

  -- the calls on the store of z that an event means, where the account is at a: a refused call means none
  abbrev pub calls_in : O → Z → A → Event O S → store.History T
  calls_in o z a (entered sums) = store.entered (works.stored sums z) (works.terms o sums) ∷ []
  calls_in o z a (settled rule lines answer) = draws_on z rule (works.coverings rule a)
  calls_in o z a (turned refunded lost) =
      store.turned (refunds works.kind (works.store a z)) (losses works.kind (works.store a z)) ∷ []
  calls_in o z a _ = []

  -- those that a history means
  abbrev pub store_calls : O → Z → History O S → store.History T
  store_calls o z [] = []
  store_calls o z (e ∷ h) = calls_in o z (at o h) e ++ store_calls o z h

  -- where the store of z stands after the calls h and the draws of these coverings by a rule
  abbrev pub store_after : O → History O S → Rule → List (Covering Z) → Z → Ledger T
  store_after o h rule cs z = store.at works.kind (works.own_month o) (draws_on z rule cs ++ store_calls o z h)
