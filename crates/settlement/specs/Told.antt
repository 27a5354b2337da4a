-- What a settlement's lines tell: of each open portion, what its coverings took from it and what they left.
use Rattle.std.specs.Prelude.{◌≡◌, ℕ, ◌+◌, List, [], ◌∷◌, map, length}
use Rattle.std.specs.List.{flat_map}
use Rattle.portions.specs.Sums.{total}
use Rattle.portions.specs.Portions.{Portion}
use Rattle.ledger.specs.Rules.{Rule}
use Rattle.ledger.specs.Ledger.{Ledger}
use Rattle.ledger.specs.Steps.{takings}
use Rattle.ledger.specs.Service.{taken_from}
use Rattle.settlement.specs.declared.answers.Line.{Line}
use Rattle.settlement.specs.Lines.{zone_number}
use Rattle.settlement.specs.Accounts.{Workings, Covering}
use Rattle.settlement.specs.History.{History}
use Rattle.settlement.specs.Inside.{store_after}
use Rattle.settlement.specs.Coverings.{counted_for, used_from}

module _ {O A S Z T : Type 0} (works : Workings O A S Z T) where
  -- what a draw takes from the portion of month k where the store is at s
  abbrev pub takes_from : Rule → ℕ → Ledger T → ℕ → ℕ
  takes_from rule wanted s k = taken_from k (takings rule wanted s) s.portions

  -- what coverings by a rule, after the calls h, took from the portion of month k in the store of z
  abbrev pub took : O → History O S → Rule → Z → List (Covering Z) → ℕ → ℕ
  took o h rule z [] k = 0
  took o h rule z (c ∷ cs) k =
      counted_for works z c.from (takes_from rule c.wanted (store_after works o h rule cs z) k) + took o h rule z cs k

  -- the lines of the store of z for a settlement at a, after the calls h: one for each open portion, oldest first
  abbrev pub lines_for : O → History O S → A → Rule → Z → List Line
  lines_for o h a rule z =
      map
      (λ (p : Portion T). record {
        zone = zone_number (works.mark z);
        month = p.month;
        used = took o h rule z (works.coverings rule a) p.month;
        left = p.left;
      })
      (works.store (works.settling rule a) z).portions

  -- a settlement by this rule at a, after the calls h, tells them, zone by zone
  pub record TellsLines (o : O) (h : History O S) (a : A) (rule : Rule) (answer : S) : Type 0 where
    pub told : works.lines rule a ≡ flat_map (lines_for o h a rule) works.zones
    pub counted : works.count answer ≡ length (works.lines rule a)
    -- and a zone's lines add up to what was used from its store
    pub add_up :
        (z : Z) → total (λ (l : Line). l.used) (lines_for o h a rule z) ≡ used_from works z (works.coverings rule a)
