-- What the settlement of a bill answers.
use Rattle.std.proofs.Common.{◌≡◌, ℕ, ◌-◌, ◌≤◌, List, length, None, sym, ap, ◌∙◌, arith}
use Rattle.std.proofs.lemmas.List.{length-map}
use Rattle.portions.specs.Portions.{Portion}
use Rattle.portions.specs.Sums.{sum}
use Rattle.ledger.specs.Rules.{Rule}
use Rattle.ledger.specs.Ledger.{Ledger, lefts}
use Rattle.ledger.specs.Steps.{drawing}
use Rattle.settlement.specs.Lines.{lines_of}
use Rattle.settlement.specs.Billing.{BillAccount, paid, payment, bill_lines}
use Rattle.settlement.proofs.Cover.{length_taking}
use Rattle.settlement.proofs.Lines.{length_lines_of}

module _ (rule : Rule) (b : BillAccount) (l : Ledger ℕ) (is : l ≡ drawing (paid rule b) b.store) where
  known_lefts : length l.portions ≤ length (lefts b.store)
  known_lefts =
      let n = ap (λ (x : Ledger ℕ). length x.portions) is ∙ length_taking (paid rule b) b.store.portions in
      omega (arith, n, length-map b.store.portions (λ (p : Portion ℕ). p.left))

  module _ (ls : List ℕ) (known : ls ≡ lefts b.store) where
    lines_are : lines_of None ls l.portions ≡ bill_lines rule b
    lines_are = ap (λ x. lines_of None x l.portions) known ∙ ap (λ (x : Ledger ℕ). lines_of None (lefts b.store) x.portions) is

    count_is : length l.portions ≡ length (bill_lines rule b)
    count_is = sym (length_lines_of None (lefts b.store) l.portions known_lefts) ∙ ap length (ap (λ x. lines_of None x l.portions) (sym known) ∙ lines_are)

    pub payment_is : (used lines : ℕ) → used ≡ sum (paid rule b) → lines ≡ length l.portions → record { used = used; due = b.bill - used; lines = lines } ≡ payment rule b
    payment_is used lines e f =
        let all = f ∙ count_is in cc
