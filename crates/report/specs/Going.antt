-- Of use to the code alone: how far a run has come.
use Rattle.std.specs.Prelude.{◌≡◌, ℕ, ◌+◌, ◌≤◌, List, ◌++◌, length}
use Rattle.std.specs.List.{flat_map}
use Rattle.desk.specs.declared.steps.Desk.{Desk}
use Rattle.desk.specs.State.{State}
use Rattle.desk.specs.Means.{Means}
use Rattle.report.specs.Runs.{Entry, Trace, entry_text, traced, trace}

-- records before a trace
abbrev pub onto : List Entry → Trace → Trace
onto es t = record { entries = es ++ t.entries; stop = t.stop; rest = t.rest }

-- of the file `all`, the records before `rest`, which begins at place `at`, have printed out and lead to this state
pub record Going (all out : List ℕ) (state : State) (at : ℕ) (rest : List ℕ) : Type 0 where
  pub past : List Entry
  pub fuel : ℕ
  pub enough : length rest ≤ fuel
  pub place : at + length rest ≡ length all
  pub entries : trace all ≡ onto past (traced fuel state at rest)
  pub text : out ≡ flat_map entry_text past

-- and the desk stands there
abbrev pub Stands : (all out : List ℕ) → Desk → ℕ → List ℕ → Type 0
Stands all out d at rest = (s : State) × Means d s × Going all out s at rest

-- whatever bytes come later, a run that had come so far has now come so far
abbrev pub GoesOn : (out : List ℕ) → Desk → (at : ℕ) (rest : List ℕ) (out' : List ℕ) → Desk → (at' : ℕ) (rest' : List ℕ) → Type 0
GoesOn out d at rest out' d' at' rest' = (all later : List ℕ) → Stands all out d at (rest ++ later) → Stands all out' d' at' (rest' ++ later)
