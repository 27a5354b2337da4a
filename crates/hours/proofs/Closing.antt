-- A month that was opened, read and finished.
use Rattle.std.proofs.Common.{◌≡◌, ℕ, suc, ◌+◌, ◌<◌, cond, eqb, List, [], ◌∷◌, length, ℤ, Some, None, Option, sym, refl, ap, ◌∙◌, subst, arith}
use Rattle.std.proofs.lemmas.Bool.Decides.{nat_tests}
use Rattle.std.specs.Option.{option_or}
use Rattle.calendar.specs.Hour.{month_hours}
use Rattle.faults.specs.declared.BookFault.{BookFault}
use Rattle.faults.specs.declared.BookFault.TheVariants.{HoursMissing}
use Rattle.hours.specs.Balance.{balance, energy_given, energy_taken}
use Rattle.hours.specs.Marks.{zone_by_marks}
use Rattle.hours.specs.Reading.{hours_of, zone_at}
use Rattle.hours.specs.Opening.{book_open_refusal, Opened}
use Rattle.hours.specs.Month.{HourRead, sum_over, taken_in, given_in, costs, Sums, HasRead, Finished}
use Rattle.hours.specs.Source.{asked_for}
use Rattle.hours.specs.Whole.{hours_from, MonthSummed, refused_at, refused_from, missing, month_refusal, until_refused, questions_from, month_questions}
use Rattle.hours.specs.declared.prices.PriceSource.{Ghosts}
use Rattle.hours.specs.declared.book.Reading.{Reading}
use Rattle.hours.specs.declared.book.Terms.{Terms}
use Rattle.hours.specs.declared.book.Tally.{Tally}
use Rattle.hours.specs.declared.sums.Totals.{Totals}
use Rattle.hours.specs.declared.whole.MonthRefused.{MonthRefused}
use Rattle.hours.proofs.Months.{hours_length}

-- sums of equal terms are equal
same_sum : {A : Type 0} (f g : ℕ → A → ℕ) (k : ℕ) (xs : List A) → ((j : ℕ) (x : A) → j < k + length xs → f j x ≡ g j x) → sum_over f k xs ≡ sum_over g k xs
unfolding sum_over
same_sum f g k [] e = refl
same_sum f g k (x ∷ xs) e =
    let a = e k x (omega arith) in
    let b = same_sum f g (suc k) xs (λ j y h. e j y (omega arith)) in
    ap (λ n. n + sum_over f (suc k) xs) a ∙ ap (λ n. g k x + n) b

-- the sums depend on the zones of the places that were read alone
sums_by : (zone zone' : ℕ → ℕ) (sale : List ℕ) (hs : List HourRead) (y : Totals) → ((k : ℕ) → k < length hs → zone k ≡ zone' k)
    → Sums zone sale hs y → Sums zone' sale hs y
sums_by zone zone' sale hs y e s =
    let at : (j : ℕ) → j < 0 + length hs → zone j ≡ zone' j = λ j h. e j (omega arith) in
    record {
      imports = λ z a b. s.imports z a b ∙ same_sum (taken_in zone z) (taken_in zone' z) 0 hs (λ j x h. ap (λ n. cond (eqb n z) (energy_taken (balance x.import x.export)) 0) (at j h));
      exports = λ z a b. s.exports z a b ∙ same_sum (given_in zone z) (given_in zone' z) 0 hs (λ j x h. ap (λ n. cond (eqb n z) (energy_given (balance x.import x.export)) 0) (at j h));
      charge = s.charge ∙ same_sum (costs zone sale) (costs zone' sale) 0 hs (λ j x h. ap (λ n. costs (λ k. n) sale j x) (at j h));
      value = s.value;
    }

-- a book's sums by the marks and the sale prices that it was opened with
pub marked_sums : (t : Terms) (m : ℕ) (marks : List (List ℕ)) (sale : List ℕ) (hs : List HourRead) (y : Totals)
    → t.sale ≡ sale → length hs ≡ month_hours m → ((p : ℕ) → p < month_hours m → zone_at t p ≡ zone_by_marks marks m p)
    → Sums (zone_at t) t.sale hs y → Sums (zone_by_marks marks m) sale hs y
marked_sums t m marks sale hs y e n zones s =
    sums_by (zone_at t) (zone_by_marks marks m) sale hs y (λ k h. zones k (subst (λ (x : ℕ). k < x) n h))
    (subst (λ (p : List ℕ). Sums (zone_at t) p hs y) e s)

-- what a finished month sums up
summed : (m : ℕ) (marks : List (List ℕ)) (sale : List ℕ) (prices : ℕ → Option ℤ) (rs : List Reading) (t t' : Terms) (y₀ y : Tally) (month : ℕ) (totals : Totals)
    → Opened m marks sale t y₀ → t' ≡ t → HasRead t (hours_from prices 0 rs) y → Finished t' y month totals
    → MonthSummed m marks sale prices rs month totals
summed m marks sale prices rs t t' y₀ y month totals o e r f₁ =
    let f : Finished t y month totals = subst (λ (u : Terms). Finished u y month totals) e f₁ in
    let n : length (hours_from prices 0 rs) ≡ month_hours m = sym r.hours ∙ f.complete ∙ ap month_hours o.month in
    record {
      dated = f.dated ∙ o.month;
      whole = sym (hours_length prices 0 rs) ∙ n;
      sums = subst (λ (w : Totals). Sums (zone_by_marks marks m) sale (hours_from prices 0 rs) w) (sym f.kept)
          (marked_sums t m marks sale (hours_from prices 0 rs) y.totals o.sales n o.zones r.sums);
    }

pub none_missing : {A : Type 0} (hours : ℕ) (rs : List A) → length rs ≡ hours → missing hours rs ≡ None
none_missing hours rs h = grind (arith, nat_tests)

pub some_missing : {A : Type 0} (hours : ℕ) (rs : List A) → length rs < hours → missing hours rs ≡ Some HoursMissing
some_missing hours rs h = grind (arith, nat_tests)

-- a month that is opened and read to the list's end is refused only for hours that are missing
refused_at_end : (m : ℕ) (marks : List (List ℕ)) (sale : List ℕ) (prices : ℕ → Option ℤ) (rs : List Reading) (f : Option BookFault)
    → book_open_refusal m marks sale ≡ None → None ≡ refused_from (month_hours m) prices 0 rs → missing (month_hours m) rs ≡ f
    → month_refusal m marks sale prices rs ≡ refused_at (length rs) f None
refused_at_end m marks sale prices rs f a b c =
    ap (λ o. refused_at 0 o (option_or (refused_from (month_hours m) prices 0 rs) (refused_at (length rs) (missing (month_hours m) rs) None))) a
    ∙ ap (λ o. option_or o (refused_at (length rs) (missing (month_hours m) rs) None)) (sym b)
    ∙ ap (λ o. refused_at (length rs) o None) c

complete_month : (m : ℕ) (marks : List (List ℕ)) (sale : List ℕ) (prices : ℕ → Option ℤ) (rs : List Reading)
    → book_open_refusal m marks sale ≡ None → None ≡ refused_from (month_hours m) prices 0 rs → length rs ≡ month_hours m
    → None ≡ month_refusal m marks sale prices rs
complete_month m marks sale prices rs a b c = sym (refused_at_end m marks sale prices rs None a b (none_missing (month_hours m) rs c))

short_month : (m : ℕ) (marks : List (List ℕ)) (sale : List ℕ) (prices : ℕ → Option ℤ) (rs : List Reading) (t t' : Terms) (y₀ y : Tally) (fault : BookFault)
    → Opened m marks sale t y₀ → t' ≡ t → None ≡ refused_from (month_hours m) prices 0 rs → HasRead t (hours_from prices 0 rs) y
    → y.hours < hours_of t' → fault ≡ HoursMissing → Some (record { read = length rs; fault = fault }) ≡ month_refusal m marks sale prices rs
short_month m marks sale prices rs t t' y₀ y fault o e b r s q =
    let n : y.hours ≡ length rs = r.hours ∙ hours_length prices 0 rs in
    let h : hours_of t' ≡ month_hours m = ap hours_of e ∙ ap month_hours o.month in
    let l : length rs < month_hours m = subst (λ (x : ℕ). x < month_hours m) n (subst (λ (x : ℕ). y.hours < x) h s) in
    ap (λ (f : BookFault). Some (record { read = length rs; fault = f })) q
    ∙ sym (refused_at_end m marks sale prices rs (Some HoursMissing) o.accepted b (some_missing (month_hours m) rs l))

-- what a book's calls say of its own month number, said of the month that was opened
pub finished_month : {S : Type 0} (G : Ghosts S) (s : G.State) (m : ℕ) (marks : List (List ℕ)) (sale : List ℕ) (rs : List Reading) (t t' : Terms) (y₀ y : Tally) (month : ℕ) (totals : Totals)
    → Opened m marks sale t y₀ → t' ≡ t → None ≡ refused_from (hours_of t) (G.gives s t.month.number) 0 rs
    → HasRead t (hours_from (G.gives s t.month.number) 0 rs) y → Finished t' y month totals
    → (None ≡ month_refusal m marks sale (G.gives s m) rs) × MonthSummed m marks sale (G.gives s m) rs month totals
finished_month G s m marks sale rs t t' y₀ y month totals o e r h f =
    let r' = subst (λ (n : ℕ). ◌≡◌ {A = Option MonthRefused} None (refused_from (month_hours n) (G.gives s n) 0 rs)) o.month r in
    let h' = subst (λ (n : ℕ). HasRead t (hours_from (G.gives s n) 0 rs) y) o.month h in
    let w = summed m marks sale (G.gives s m) rs t t' y₀ y month totals o e h' f in
    (complete_month m marks sale (G.gives s m) rs o.accepted r' w.whole, w)

pub unfinished_month : {S : Type 0} (G : Ghosts S) (s : G.State) (m : ℕ) (marks : List (List ℕ)) (sale : List ℕ) (rs : List Reading) (t t' : Terms) (y₀ y : Tally) (fault : BookFault)
    → Opened m marks sale t y₀ → t' ≡ t → None ≡ refused_from (hours_of t) (G.gives s t.month.number) 0 rs
    → HasRead t (hours_from (G.gives s t.month.number) 0 rs) y → y.hours < hours_of t' → fault ≡ HoursMissing
    → Some (record { read = length rs; fault = fault }) ≡ month_refusal m marks sale (G.gives s m) rs
unfinished_month G s m marks sale rs t t' y₀ y fault o e r h l q =
    short_month m marks sale (G.gives s m) rs t t' y₀ y fault o e
    (subst (λ (n : ℕ). ◌≡◌ {A = Option MonthRefused} None (refused_from (month_hours n) (G.gives s n) 0 rs)) o.month r)
    (subst (λ (n : ℕ). HasRead t (hours_from (G.gives s n) 0 rs) y) o.month h) l q

pub asked_month : {S : Type 0} (G : Ghosts S) (s : G.State) (m : ℕ) (marks : List (List ℕ)) (sale : List ℕ) (rs : List Reading) (t : Terms) (y₀ : Tally) (x : G.State)
    → Opened m marks sale t y₀
    → x ≡ asked_for G t.month.number (questions_from (hours_of t) (G.gives s t.month.number) 0 rs) s
    → x ≡ asked_for G m (month_questions m marks sale (G.gives s m) rs) s
asked_month G s m marks sale rs t y₀ x o a =
    a ∙ ap (λ n. asked_for G n (questions_from (month_hours n) (G.gives s n) 0 rs) s) o.month
    ∙ ap (λ f. asked_for G m (until_refused f (questions_from (month_hours m) (G.gives s m) 0 rs)) s) (sym o.accepted)
