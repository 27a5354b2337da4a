-- What an accepted settlement is: what its coverings come to, and told in its lines.
use Rattle.std.specs.Prelude.{◌≡◌, ℕ, ◌+◌, ◌*◌, ◌<◌, ◌≤◌}
use Rattle.histories.specs.Histories.{Always}
use Rattle.portions.specs.Sums.{total}
use Rattle.ledger.specs.Rules.{Rule}
use Rattle.ledger.specs.Ledger.{left_in}
use Rattle.settlement.specs.Accounts.{Workings}
use Rattle.settlement.specs.History.{Event, History, settled, unsettled}
use Rattle.settlement.specs.Inside.{at}
use Rattle.settlement.specs.Coverings.{used_for, used_from, covered_in, Lawful}
use Rattle.settlement.specs.Told.{TellsLines}

module _ {O A S Z T : Type 0} (works : Workings O A S Z T) where
  -- what the store of z has used in all where the account is at a
  abbrev pub used_before : A → Z → ℕ
  used_before a z = (works.store a z).used

  -- and after a settlement by this rule there
  abbrev pub used_after : Rule → A → Z → ℕ
  used_after rule a z = (works.store (works.settling rule a) z).used

  -- a settlement by this rule that answers so, where the account was at a, is what its coverings come to
  pub record IsWhatItsCoveringsComeTo (o : O) (a : A) (rule : Rule) (answer : S) : Type 0 where
    pub lawful : Always (Lawful works o a) (works.coverings rule a)
    -- what was pending is covered by them, or due
    pub covered_is : (z : Z) → works.covered answer z ≡ covered_in works z (works.coverings rule a)
    pub due_is : (z : Z) → works.covered answer z + works.due answer z ≡ works.pending a z
    -- and something is due only if nothing is left in any store
    pub due_only_when_empty : (z : Z) → 0 < works.due answer z →
        (from : Z) → left_in (works.store (works.settling rule a) from).portions ≡ 0
    -- each store has used so much more, and all of it for the zones
    pub risen : (z : Z) → used_after rule a z ≡ used_before a z + used_from works z (works.coverings rule a)
    pub for_zones :
        total (λ z. used_for works z (works.coverings rule a)) works.zones
        ≡ total (λ z. used_from works z (works.coverings rule a)) works.zones
    -- so no more is covered in a zone than was paid for
    pub paid : (z : Z) → 10 * works.covered answer z ≤ used_for works z (works.coverings rule a) * works.tenths o
    -- where ten tenths are covered, all that was used is, and what is covered is what the stores have used more
    pub at_par : works.tenths o ≡ 10 → (z : Z) → works.covered answer z ≡ used_for works z (works.coverings rule a)
    pub rise_at_par : works.tenths o ≡ 10 →
        total (used_before a) works.zones + total (works.covered answer) works.zones
        ≡ total (used_after rule a) works.zones

  -- a settlement by this rule that answers so, after the calls h
  pub record Settles (o : O) (h : History O S) (rule : Rule) (answer : S) : Type 0 where
    pub comes_to : IsWhatItsCoveringsComeTo o (at works o h) rule answer
    -- what the enters not yet settled asked for is covered, or due
    pub owed : (z : Z) → works.covered answer z + works.due answer z ≡ unsettled (λ sums. works.demand sums z) h
    pub told : TellsLines works o h (at works o h) rule answer

  -- an accepted settlement is so
  abbrev pub SettledRightly : O → History O S → Event O S → Type 0
  SettledRightly o h (settled rule lines answer) = Settles o h rule answer
  SettledRightly o h _ = Unit {0}

  -- every one is
  abbrev pub AllSettledRightly : O → History O S → Type 0
  AllSettledRightly o h = Always (SettledRightly o) h
