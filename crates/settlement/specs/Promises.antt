-- What an account promises after every history, and what a call keeps of it.
use Rattle.std.specs.Prelude.{◌≡◌, ◌≤◌, length, Result}
use Rattle.faults.specs.declared.AccountFault.{AccountFault}
use Rattle.histories.specs.Histories as histories
use Rattle.ledger.specs.Rules.{Rule}
use Rattle.ledger.specs.History as store
use Rattle.ledger.specs.Totals as store_totals
use Rattle.ledger.specs.Ways.{Way, Fair}
use Rattle.ledger.specs.Best as store_best
use Rattle.ledger.specs.Best.{NoBetter}
use Rattle.ledger.specs.Promises as store_promise
use Rattle.settlement.specs.Accepted.{NoneRefused}
use Rattle.settlement.specs.Accounts.{Workings, machine}
use Rattle.settlement.specs.Accounts.Call.{open_for}
use Rattle.settlement.specs.History.{Event, History, Had, in_all, unsettled}
use Rattle.settlement.specs.Inside.{store_calls}
use Rattle.settlement.specs.Settled.{AllSettledRightly}
use Rattle.settlement.specs.Turned.{TurnsTold}
use Rattle.settlement.specs.Best.{WentOldestFirst, HadOldestFirstRules, NoneBetter}
use Rattle.settlement.specs.Refusals.{stands, OpenedRightly, AllRightly}

module _ {O A S Z T : Type 0} (works : Workings O A S Z T) where
  -- the store of a zone has had the calls that the account's own calls mean, and no others, and all that a store
  -- promises holds of them
  pub record StoreKeeps (o : O) (h : History O S) (a : A) (z : Z) (calls : store.History T) : Type 0 where
    pub promised : store_promise.Promised works.kind (works.own_month o) calls (works.store a z)
    -- what was entered into it is what the accepted enters had for it
    pub entered_is : store_totals.Entered calls ≡ in_all (λ sums. works.stored sums z) h
    -- the account asks nothing of it that it refuses
    pub none_refused : NoneRefused calls
    -- its draws went oldest first where those of the settlements did
    pub oldest_first : WentOldestFirst works o z h → store_best.WentOldestFirst works.kind (works.own_month o) calls
    -- then no fair way of serving them uses more, or lets less run out
    pub best : WentOldestFirst works o z h → (way : Way) → Fair works.kind (works.own_month o) way calls →
        NoBetter works.kind (works.own_month o) calls way
    -- and so they did where the settlements had rules that go oldest first
    pub by_rules : HadOldestFirstRules works o h → WentOldestFirst works o z h

  -- the promise of an account that was opened so, has had the calls h and now is at a
  pub record Promised (o : O) (h : History O S) (a : A) : Type 0 where
    pub had : Had works o h a
    -- no number applied to its opening
    pub opened_rightly : OpenedRightly works o
    -- the account stands where its calls have brought it, and every one was accepted or refused as it should have been
    pub standing_told : works.standing a ≡ stands works o h
    pub rightly : AllRightly works o h
    -- what is pending in a zone is what its enters not yet settled asked for
    pub pending_told : (z : Z) → works.pending a z ≡ unsettled (λ sums. works.demand sums z) h
    -- each store inside keeps the promise of stores
    pub stores : (z : Z) → StoreKeeps o h a z (store_calls works o z h)
    -- what a settlement covers is drawn from the stores, as much as is wanted, and each zone in its turn; its lines
    -- tell what was drawn
    pub settled : AllSettledRightly works o h
    -- what the turns refund and lose is what the stores do
    pub turns_told : TurnsTold works o h
    -- where all draws went oldest first, no fair ways of serving them, one for each store, are better over all stores
    pub best : ((z : Z) → WentOldestFirst works o z h) → (ways : Z → Way) →
        ((z : Z) → Fair works.kind (works.own_month o) (ways z) (store_calls works o z h)) → NoneBetter works o h ways
    -- a settlement has a line for each open portion, and never more than it asks room for
    pub few_lines : (rule : Rule) → length (works.lines rule a) ≤ works.fewest_lines

  -- an account of this sort keeps its promise after every history
  abbrev pub KeepsPromise : Type 0
  KeepsPromise = (o : O) (h : History O S) (a : A) → Had works o h a → Promised o h a

  -- a call keeps the promise: whatever calls the account has had before, it has had them and this one after, and all is as promised
  abbrev pub Keeps : A → Event O S → A → Type 0
  Keeps before event after = histories.Keeps (machine works) Promised before event after

  -- an opening keeps it: an accepted one begins a history, and a refused one is a call like any other
  abbrev pub OpenKeeps : A → O → Result (Unit {0}) AccountFault → A → Type 0
  OpenKeeps before opening result after =
      histories.OpenKeeps (machine works) Promised before opening (open_for opening) result after
