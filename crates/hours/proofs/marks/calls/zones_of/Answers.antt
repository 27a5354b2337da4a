use Rattle.std.proofs.Common.{rules, ◌≡◌, ℕ, List, [], ◌∷◌, false, refl, ap, ◌∙◌, sym, IfOk, IfErr, Result, Ok, Err}
use Rattle.std.specs.List.{AllZip, IsAmong}
use Rattle.std.proofs.lemmas.Result.{IfErr-weaker, IfOk-weaker}
use Rattle.std.proofs.lemmas.List.Folds.{list_all_at}
use Rattle.faults.specs.declared.BookFault.{BookFault}
use Rattle.faults.specs.declared.BookFault.TheVariants.{MarkOutOfRange}
use Rattle.hours.specs.Zones.{names_zone, zone_number}
use Rattle.hours.specs.Marks.{RowNamed, each_zone, marks_of}
use Rattle.hours.specs.declared.zones.Zone.{Zone}
use Rattle.hours.proofs.marks.calls.zones_of.Goals as goal

-- zones that each have the number of their mark
named_all : {R : ℕ → Zone → Type 0} → ((x : ℕ) (z : Zone) → R x z → zone_number z ≡ x) → (row : List ℕ) (zones : List Zone) → AllZip R row zones → marks_of zones ≡ row
named_all h [] [] a = refl
named_all h [] (z ∷ zones) a = elim a [ ]
named_all h (x ∷ row) [] a = elim a [ ]
named_all h (x ∷ row) (z ∷ zones) a = ap (λ n. n ∷ marks_of zones) (h x z a.0) ∙ ap (λ ns. x ∷ ns) (named_all h row zones a.1)

-- what a row is made into
row_named : (row : List ℕ) (r : Result (List Zone) BookFault) → IfOk r (λ zones. marks_of zones ≡ row) → IfErr r (λ e. (e ≡ MarkOutOfRange) × (each_zone row ≡ false)) → RowNamed row r
row_named row (Ok zones) ok err = ok
row_named row (Err e) ok err = err

-- a mark among those of a row that names no zone
none_named : (row : List ℕ) (x : ℕ) → IsAmong row x → names_zone x ≡ false → each_zone row ≡ false
none_named row x among e = list_all_at names_zone row among.0 x among.1.0 (ap names_zone (sym among.1.1) ∙ e)

pub returns-clause-named : goal.returns-clause-named
returns-clause-named c =
    let row = c.args.row.now in
    row_named row c.try_map.result
    (IfOk-weaker c.try_map.result _ (λ zones. marks_of zones ≡ row) (λ zones z. named_all (λ x zone s. search rules) row zones z.whole) c.try_map.ensures.ok)
    (IfErr-weaker c.try_map.result _ (λ e. (e ≡ MarkOutOfRange) × (each_zone row ≡ false)) (λ e s. let named : (e ≡ MarkOutOfRange) × (names_zone s.0 ≡ false) = search rules in (named.0, none_named row s.0 s.1 named.1)) c.try_map.ensures.err)
