-- A store that was never opened stays so with each call but an opening that is accepted.
use Rattle.std.proofs.Common.{◌≡◌, ℕ, List, [], ◌∷◌, cond, is_ok, Ok, Err, Result, ◌∙◌}
use Rattle.faults.specs.declared.StoreFault.{StoreFault}
use Rattle.histories.specs.Machines.{gives, leaves}
use Rattle.histories.specs.Histories.{event}
use Rattle.histories.specs.Histories.Event.{refused}
use Rattle.histories.specs.Unopened.{OpenCarries}
use Rattle.histories.proofs.Keeps.{does, does_open}
use Rattle.portions.specs.declared.Slot.{Slot}
use Rattle.portions.specs.declared.Kind.{Ghosts}
use Rattle.ledger.specs.Ledger.{closed}
use Rattle.ledger.specs.Calls.{Call, Answer, Follows}
use Rattle.ledger.specs.Calls.Call.{open_for}
use Rattle.ledger.specs.Steps.{machine}
use Rattle.ledger.specs.Unopened.{NeverOpened}
use Rattle.ledger.proofs.Unopened.{never_opened}
use Rattle.store.specs.declared.Store.{Store}
use Rattle.store.specs.Held.{lent, room}
use Rattle.store.specs.Reading.{kind_of, ledger_of}
use Rattle.store.specs.Slots.{kept_over, Accounted}
use Rattle.store.specs.Unopened.{AsLent, StaysAsLent, OpenStaysAsLent}

module _ {K T : Type 0} {k : Ghosts K T} where
  -- right after it was made
  pub as_made : (slots : List Slot) (s : Store K T k) → ledger_of k s ≡ closed → lent s ≡ slots → AsLent slots [] s
  as_made slots s state same = record { shut = never_opened (kind_of k) [] (ledger_of k s) state; slots_as_lent = same }

  module _ (s s' : Store K T k) where
    -- after a call that may follow an opening
    pub stays : (call : Call T) → Follows call → (r : Result (Answer call) StoreFault) → r ≡ gives (machine (kind_of k)) call (ledger_of k s) → ledger_of k s' ≡ leaves (machine (kind_of k)) call (ledger_of k s) →
        Accounted (is_ok r) s s' → StaysAsLent s call r s'
    stays call follows r told moved accounted slots h was =
        let shut = never_opened (kind_of k) (event call r ∷ h) (ledger_of k s') (ledger_of k s, was.shut.had, does (machine (kind_of k)) (ledger_of k s) (ledger_of k s') call follows r told moved) in
        record { shut = shut; slots_as_lent = same r accounted.kept shut ∙ was.slots_as_lent }
      where
        same : (r : Result (Answer call) StoreFault) → lent s' ≡ cond (is_ok r) (kept_over k (ledger_of k s').portions (lent s)) (lent s) → NeverOpened (kind_of k) (event call r ∷ h) (ledger_of k s') → lent s' ≡ lent s
        same (Ok answer) kept shut = absurd shut.all_refused.0
        same (Err fault) kept shut = kept

    -- after an opening
    pub open_stays : (month : ℕ) (r : Result (Unit {0}) StoreFault) → r ≡ gives (machine (kind_of k)) (open_for (room s) month) (ledger_of k s) →
        ledger_of k s' ≡ leaves (machine (kind_of k)) (open_for (room s) month) (ledger_of k s) → lent s' ≡ lent s → OpenStaysAsLent s month r s'
    open_stays month r told moved same slots =
        does_open (machine (kind_of k)) (ledger_of k s) (ledger_of k s') call (λ r. OpenCarries (AsLent slots) s call r s') (λ e moved. tt)
        (λ fault came h was. record { shut = never_opened (kind_of k) (refused call fault ∷ h) (ledger_of k s') (ledger_of k s, was.shut.had, came); slots_as_lent = same ∙ was.slots_as_lent })
        r told moved
      where
        call : Call T
        call = open_for (room s) month
