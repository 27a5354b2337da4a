-- What a call answers and leaves, from the refusal that was found or from there being none.
use Rattle.std.proofs.Common.{◌≡◌, ℕ, IsErrAnd, Some, None, Ok, Err, Option, Result, refl, arith}
use Rattle.faults.specs.declared.AccountFault.{AccountFault}
use Rattle.hours.specs.declared.sums.MonthSums.{MonthSums}
use Rattle.settlement.specs.declared.answers.Returned.{Returned}
use Rattle.settlement.specs.declared.states.MonthState.{MonthState}
use Rattle.histories.specs.Machines.{answers, becomes}
use Rattle.settlement.specs.Steps.{hands_back}

pub refused : {V X : Type 0} (o : Option AccountFault) (fault : AccountFault) (v : MonthState) (w : V) (r : Result V AccountFault) (new old : X) →
    Err fault ≡ answers o v → IsErrAnd r (λ y. y ≡ fault) → (r ≡ answers o w) × (old ≡ becomes o new old)
refused None fault v w r new old e i = let z : ◌≡◌ {A = ℕ} 0 1 = cc in absurd (omega arith)
refused (Some other) fault v w (Ok x) new old e i = absurd i
refused (Some other) fault v w (Err y) new old e i = (cc, refl)

-- where a call was found to lead to a state, it is not refused, and that is the state
pub accepted : (o : Option AccountFault) (v next : MonthState) → Ok next ≡ answers o v → (None ≡ o) × (next ≡ v)
accepted None v next e = (refl, cc)
accepted (Some fault) v next e = let z : ◌≡◌ {A = ℕ} 0 1 = cc in absurd (omega arith)

-- sums that are not taken in are handed back
pub handed_back : (o : Option AccountFault) (fault : AccountFault) (sums : MonthSums) → (let gave : Result (Unit {0}) AccountFault = Err fault in gave ≡ answers o tt) → ◌≡◌ {A = Result (Unit {0}) Returned} (Err (record { fault = fault; sums = sums })) (hands_back sums o)
handed_back None fault sums e = let z : ◌≡◌ {A = ℕ} 0 1 = cc in absurd (omega arith)
handed_back (Some other) fault sums e = cc
