-- The laws of coverings decide what a settlement does.
use Rattle.std.specs.Prelude.{◌≡◌, ℕ, ◌+◌, ◌<◌, List, None}
use Rattle.histories.specs.Histories.{Always}
use Rattle.ledger.specs.Rules.{Rule, LawfulRule}
use Rattle.settlement.specs.Accounts.{Workings, Covering, refusal}
use Rattle.settlement.specs.Accounts.Call.{settle}
use Rattle.settlement.specs.History.{History, Had}
use Rattle.settlement.specs.Coverings.{Lawful, Emptied, covered_in, used_from}
use Rattle.settlement.specs.Settled.{used_before, used_after}

module _ {O A S Z T : Type 0} (works : Workings O A S Z T) where
  -- coverings that keep the laws at an account, and leave nothing due where something is left
  pub record Serves (o : O) (a : A) (cs : List (Covering Z)) : Type 0 where
    pub lawful : Always (Lawful works o a) cs
    pub complete : (z : Z) → covered_in works z cs < works.pending a z → (from : Z) → Emptied works a cs from

  -- a settlement by this rule at a covers in each zone, leaves due there and uses of its store what these coverings do
  pub record DoesAs (a : A) (rule : Rule) (cs : List (Covering Z)) : Type 0 where
    pub covered_is : (z : Z) → works.covered (works.settlement rule a) z ≡ covered_in works z cs
    pub due_is : (z : Z) → covered_in works z cs + works.due (works.settlement rule a) z ≡ works.pending a z
    pub risen : (z : Z) → used_after works rule a z ≡ used_before works a z + used_from works z cs

  -- the laws decide a settlement by this rule at a: its own coverings serve the account, and it does as any that do
  pub record IsDecided (o : O) (a : A) (rule : Rule) : Type 0 where
    pub own : Serves o a (works.coverings rule a)
    pub any : (cs : List (Covering Z)) → Serves o a cs → DoesAs a rule cs

  -- every accepted settlement is decided
  abbrev pub SettlementsDecided : Type 0
  SettlementsDecided =
      (o : O) (h : History O S) (a : A) → Had works o h a → (rule : Rule) → LawfulRule rule →
      (lines : ℕ) → refusal works (settle rule lines) a ≡ None → IsDecided o a rule
