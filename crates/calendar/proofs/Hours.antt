-- The hours before a day of a month: 24 for each day, but for the change of the clocks on the last Sunday.
use Rattle.std.proofs.Common.{◌≡◌, ℕ, zero, suc, ◌+◌, ◌-◌, ◌*◌, ◌/◌, ◌%◌, ◌<◌, ◌≤◌, Bool, true, false, cond, ◌&&◌, T, eqb, ltb, leb, Some, sym, refl, ap, ◌∙◌, subst, inl, inr, le_trans, le_refl, le_of_suc-le-suc, le-add_right, add-zero, le_of_lt, add-suc, arith}
use Rattle.std.proofs.lemmas.Bool.Decides.{nat_tests, leb_tells}
use Rattle.calendar.specs.declared.month.days.Hour.{Hour}
use Rattle.calendar.specs.Sums.{sum_to}
use Rattle.calendar.specs.Calendar.{weekday, is_last_sunday, days_of_month, days_before_month}
use Rattle.calendar.specs.Even.{place_if_even}
use Rattle.calendar.specs.Hour.{HourAt, OneHour, hour_of_place, hour_of, day_at, day_from, hours_at_change, day_hours, hours_before, month_hours, clock_hour}

-- a month has one last Sunday
pub only : (m s d : ℕ) → T (is_last_sunday m s) → s < days_of_month m → d < days_of_month m → is_last_sunday m d ≡ eqb d s
only m s d t h k = grind (arith, nat_tests)

-- d days of 24 hours, but for the day s, which has h
abbrev pub around : ℕ → ℕ → ℕ → ℕ
around s h d = cond (ltb s d) (24 * d + h - 24) (24 * d)

around_none : (s h : ℕ) → 0 ≡ around s h 0
around_none s h = grind (arith, nat_tests)

around_more : (s h d : ℕ) → 23 ≤ h → around s h d + cond (eqb d s) h 24 ≡ around s h (suc d)
around_more s h d b = grind (arith, nat_tests)

pub change_bounds : (c : ℕ) → (23 ≤ hours_at_change c) × (hours_at_change c ≤ 25)
change_bounds c = (grind (arith, nat_tests), grind (arith, nat_tests))

-- the hours before day d, where s is the last Sunday
pub before : (m s d : ℕ) → T (is_last_sunday m s) → s < days_of_month m → d ≤ days_of_month m
    → hours_before m d ≡ around s (hours_at_change (m % 12)) d
unfolding hours_before sum_to
before m s zero t h k = around_none s (hours_at_change (m % 12))
before m s (suc d) t h k =
    ap (λ n. n + day_hours m d) (before m s d t h (le_of_lt k))
    ∙ ap (λ (b : Bool). around s (hours_at_change (m % 12)) d + cond b (hours_at_change (m % 12)) 24) (only m s d t h k)
    ∙ around_more s (hours_at_change (m % 12)) d (change_bounds (m % 12)).0

-- every month has a last Sunday
abbrev pub sunday_of : ℕ → ℕ
sunday_of m = days_of_month m - 1 - (days_before_month m + days_of_month m + 4) % 7

pub month_bounds : (m : ℕ) → (28 ≤ days_of_month m) × (days_of_month m ≤ 31)
month_bounds m = (grind (arith, nat_tests), grind (arith, nat_tests))

sunday_by : (b n : ℕ) → 28 ≤ n → T (eqb ((b + (n - 1 - (b + n + 4) % 7) + 4) % 7) 6 && ltb n (n - 1 - (b + n + 4) % 7 + 8))
sunday_by b n h = grind (arith, nat_tests)

pub sunday_last : (m : ℕ) → T (is_last_sunday m (sunday_of m))
sunday_last m = sunday_by (days_before_month m) (days_of_month m) (month_bounds m).0

sunday_in : (b n : ℕ) → 28 ≤ n → n - 1 - (b + n + 4) % 7 < n
sunday_in b n h = omega arith

around_all : (s h n : ℕ) → s < n → around s h n ≡ 24 * n + h - 24
around_all s h n b = grind (arith, nat_tests)

pub total : (m : ℕ) → month_hours m ≡ 24 * days_of_month m + hours_at_change (m % 12) - 24
total m =
    let i = sunday_in (days_before_month m) (days_of_month m) (month_bounds m).0 in
    before m (sunday_of m) (days_of_month m) (sunday_last m) i (omega arith)
    ∙ around_all (sunday_of m) (hours_at_change (m % 12)) (days_of_month m) i

between : (n h x : ℕ) → (28 ≤ n) × (n ≤ 31) → (23 ≤ h) × (h ≤ 25) → x ≡ 24 * n + h - 24 → (671 ≤ x) × (x ≤ 745)
between n h x a b e = (omega arith, omega arith)

pub total_bounds : (m : ℕ) → (671 ≤ month_hours m) × (month_hours m ≤ 745)
total_bounds m = between (days_of_month m) (hours_at_change (m % 12)) (month_hours m) (month_bounds m) (change_bounds (m % 12)) (total m)

-- the day and the clock hour at an even place
pub record Placed (s h n p e : ℕ) : Type 0 where
  pub inside : e / 24 < n
  pub begun : around s h (e / 24) ≤ p
  pub unended : p < around s h (suc (e / 24))
  pub shown : e % 24 ≡ clock_hour (cond (eqb (e / 24) s) h 24) (p - around s h (e / 24))

placed_23 : (s n p : ℕ) → s < n → p < 24 * n - 1 → Placed s 23 n p (place_if_even s 23 p)
placed_23 s n p i k = record { inside = grind (arith, nat_tests); begun = grind (arith, nat_tests); unended = grind (arith, nat_tests); shown = grind (arith, nat_tests) }

placed_25 : (s n p : ℕ) → s < n → p < 24 * n + 1 → Placed s 25 n p (place_if_even s 25 p)
placed_25 s n p i k = record { inside = grind (arith, nat_tests); begun = grind (arith, nat_tests); unended = grind (arith, nat_tests); shown = grind (arith, nat_tests) }

placed_24 : (s n p : ℕ) → s < n → p < 24 * n → Placed s 24 n p (place_if_even s 24 p)
placed_24 s n p i k = record { inside = grind (arith, nat_tests); begun = grind (arith, nat_tests); unended = grind (arith, nat_tests); shown = grind (arith, nat_tests) }

by_change : (P : ℕ → Type 0) (c : ℕ) → P 23 → P 25 → P 24 → P (hours_at_change c)
by_change P c a b d =
    elim (eqb c 2) as (λ x. P (cond x 23 (cond (eqb c 9) 25 24)))
    [ true ↦ a | false ↦ elim (eqb c 9) as (λ x. P (cond x 25 24)) [ true ↦ b | false ↦ d ] ]

placed : (c s n p : ℕ) → s < n → p < 24 * n + hours_at_change c - 24 → Placed s (hours_at_change c) n p (place_if_even s (hours_at_change c) p)
placed c s n p i k =
    by_change (λ h. p < 24 * n + h - 24 → Placed s h n p (place_if_even s h p)) c
    (λ b. placed_23 s n p i (omega arith)) (λ b. placed_25 s n p i (omega arith)) (λ b. placed_24 s n p i (omega arith)) k

-- the hour of an even place is the one that the month's days and hours give
pub hour : (m s p e : ℕ) → T (is_last_sunday m s) → s < days_of_month m → p < month_hours m → e ≡ place_if_even s (hours_at_change (m % 12)) p
    → HourAt m p (record { day = e / 24; clock = e % 24; weekend = leb 5 (weekday m (e / 24)) })
hour m s p e t i k q =
    let k' : p < 24 * days_of_month m + hours_at_change (m % 12) - 24 = subst (λ (x : ℕ). p < x) (total m) k in
    let g : Placed s (hours_at_change (m % 12)) (days_of_month m) p e =
    subst (λ (x : ℕ). Placed s (hours_at_change (m % 12)) (days_of_month m) p x) (sym q) (placed (m % 12) s (days_of_month m) p i k') in
    let b : hours_before m (e / 24) ≡ around s (hours_at_change (m % 12)) (e / 24) = before m s (e / 24) t i (le_of_lt g.inside) in
    let a : hours_before m (suc (e / 24)) ≡ around s (hours_at_change (m % 12)) (suc (e / 24)) = before m s (suc (e / 24)) t i g.inside in
    let o : is_last_sunday m (e / 24) ≡ eqb (e / 24) s = only m s (e / 24) t i g.inside in
    record {
      inside = g.inside;
      begun = subst (λ (x : ℕ). x ≤ p) (sym b) g.begun;
      unended = subst (λ (x : ℕ). p < x) (sym a) g.unended;
      shown = g.shown
          ∙ ap (λ (x : Bool). clock_hour (cond x (hours_at_change (m % 12)) 24) (p - around s (hours_at_change (m % 12)) (e / 24))) (sym o)
          ∙ ap (λ (x : ℕ). clock_hour (day_hours m (e / 24)) (p - x)) (sym b);
      free = refl;
    }

by_leb : (a b : ℕ) (P : Bool → Type 0) → (a ≤ b → P true) → (b < a → P false) → P (leb a b)
by_leb a b P y n =
    elim (leb_tells a b)
    [ inl t ↦ subst P (sym t.0) (y t.1) | inr t ↦ subst P (sym t.0) (n t.1) ]

rises : (m a k : ℕ) → hours_before m a ≤ hours_before m (a + k)
unfolding hours_before sum_to
rises m a zero = rw add-zero (le_refl (hours_before m a))
rises m a (suc k) = rw add-suc (le_trans (rises m a k) (le-add_right (hours_before m (a + k)) (day_hours m (a + k))))

rises_to : (m a b : ℕ) → a ≤ b → hours_before m a ≤ hours_before m b
rises_to m a b h =
    let e : a + (b - a) ≡ b = omega arith in
    subst (λ (x : ℕ). hours_before m a ≤ hours_before m x) e (rises m a (b - a))

found : (m p d n : ℕ) → d ≤ n → hours_before m d ≤ p → p < hours_before m (suc d) → day_from m p n ≡ d
unfolding day_from
found m p d zero h b u = omega arith
found m p d (suc n) h b u =
    by_leb (hours_before m (suc n)) p (λ x. cond x (suc n) (day_from m p n) ≡ d)
    (λ y. by_leb (suc n) d (λ _. suc n ≡ d) (λ z. omega arith)
    (λ z. let r = rises_to m (suc d) (suc n) z in let bad : ⊥ = omega arith in absurd bad))
    (λ y.
    by_leb (suc n) d (λ _. day_from m p n ≡ d)
    (λ z. let e : suc n ≡ d = omega arith in let r = rises_to m (suc n) d z in let bad : ⊥ = omega arith in absurd bad)
    (λ z. found m p d n (le_of_suc-le-suc z) b u))

same_hour : (h : Hour) (d c : ℕ) (w : Bool) → h.day ≡ d → h.clock ≡ c → h.weekend ≡ w → h ≡ record { day = d; clock = c; weekend = w }
same_hour h d c w p q r = rw (sym p, sym q, sym r) refl

pub hour_is : (m p : ℕ) (h : Hour) → HourAt m p h → h ≡ hour_of_place m p
unfolding day_at
hour_is m p h a =
    let e : h.day ≡ day_at m p = sym (found m p h.day (days_of_month m) (le_of_lt a.inside) a.begun a.unended) in
    let f = ap (λ (d : ℕ). clock_hour (day_hours m d) (p - hours_before m d)) e in
    let g = ap (λ (d : ℕ). leb 5 (weekday m d)) e in
    same_hour h (day_at m p) _ _ e (a.shown ∙ f) (a.free ∙ g)

pub hour_found : (m p : ℕ) (h : Hour) → p < month_hours m → h ≡ hour_of_place m p → hour_of m p ≡ Some h
hour_found m p h k q = grind (arith, nat_tests)

-- an hour that is found is that of a place inside the month
pub hour_inside : (m p : ℕ) (h : Hour) → Some h ≡ hour_of m p → (p < month_hours m) × (h ≡ hour_of_place m p)
hour_inside m p h q = (grind (arith, nat_tests), grind (arith, nat_tests))

pub one_hour : (m p : ℕ) (h : Hour) → HourAt m p h → OneHour m p h
one_hour m p h a = record { stands = a; only = λ x b. hour_is m p x b ∙ sym (hour_is m p h a) }

-- the clock shows an hour below 24 at every place of a month
pub clock_within : (m p : ℕ) → p < month_hours m → (hour_of_place m p).clock < 24
clock_within m p k =
    let s = sunday_of m in
    let e = place_if_even s (hours_at_change (m % 12)) p in
    let a = hour m s p e (sunday_last m) (sunday_in (days_before_month m) (days_of_month m) (month_bounds m).0) k refl in
    let c : e % 24 < 24 = omega arith in
    subst (λ (h : Hour). h.clock < 24) (hour_is m p _ a) c
