-- What every store keeps from call to call: its totals, its balance, and which portions it tells.
use Rattle.std.proofs.Common.{◌≡◌, ℕ, ◌+◌, ◌-◌, ◌≤◌, true, List, [], ◌∷◌, length, filter, sym, refl, ap, ◌∙◌, inl, inr, arith}
use Rattle.std.proofs.lemmas.List.{length-map}
use Rattle.portions.specs.declared.TheConstants.{MOST_OPEN}
use Rattle.portions.specs.Portions.{Portion, fresh}
use Rattle.portions.specs.Totals.{total-++, total_split, total_parts}
use Rattle.histories.proofs.Runs.{Leads, holds}
use Rattle.ledger.specs.Kinds.{Kind, LawfulKind, loss}
use Rattle.ledger.specs.Ledger.{Ledger, left_in, lefts}
use Rattle.ledger.specs.Calls.Call.{open_for, enter, draw, turn}
use Rattle.ledger.specs.Steps.{machine, takings, ends_by, stays_in, ending, refunds, losses, turning}
use Rattle.ledger.specs.History.{History, Had, reached}
use Rattle.ledger.specs.Totals.{Entered, Used, Refunded, Lost, Balanced}
use Rattle.ledger.specs.Told.{WasEntered, Tells, RisingFrom, TellsExactly}
use Rattle.ledger.proofs.Asked.{enter_met, turn_met}
use Rattle.ledger.proofs.Lists.{within, left_taking, UpTo, upto_more, upto_push, upto_taking, upto_kept, before_none, rising_push, rising_taking, rising_kept, tells_push_back, tells_push_new, tells_push_old, tells_taking, tells_taking_back, tells_kept, tells_kept_back}

module _ {T : Type 0} (kind : Kind T) (m₀ : ℕ) where
  -- the month told is the one reached, and the open portions stand in its order
  pub record Sound (h : History T) (s : Ledger T) : Type 0 where
    pub is_open : s.opened ≡ true
    pub month_is : s.month ≡ reached m₀ h
    pub month_le : s.month ≤ 1199
    pub rising : RisingFrom 0 s.portions
    pub up_to : UpTo s.month s.portions

  sound_leads : Leads (machine kind) m₀ Sound
  sound_leads (open_for slots month) _ h s a = absurd a.follows
  sound_leads (enter amount terms) _ h s a =
      let ih = a.so in
      let none' = (enter_met amount s a.none).free in
      record { is_open = refl; month_is = ih.month_is; month_le = ih.month_le; rising = rising_push (fresh s.month amount terms) 0 s.portions (omega arith) (before_none s.month s.portions ih.up_to none') ih.rising; up_to = upto_push s.month (fresh s.month amount terms) (omega arith) s.portions ih.up_to }
  sound_leads (draw d) _ h s a =
      let ih = a.so in
      record { is_open = refl; month_is = ih.month_is; month_le = ih.month_le; rising = rising_taking 0 (takings d.rule d.wanted s) s.portions ih.rising; up_to = upto_taking s.month (takings d.rule d.wanted s) s.portions ih.up_to }
  sound_leads turn _ h s a =
      let ih = a.so in
      let early = (turn_met s a.none).early in
      record { is_open = refl; month_is = omega (arith, ih.month_is); month_le = omega (arith, early); rising = rising_kept 0 (stays_in kind.life (s.month + 1)) s.portions ih.rising; up_to = upto_more s.month (s.month + 1) (omega arith) (filter (stays_in kind.life (s.month + 1)) s.portions) (upto_kept s.month (stays_in kind.life (s.month + 1)) s.portions ih.up_to) }

  pub sound : (h : History T) (s : Ledger T) → Had kind m₀ h s → Sound h s
  sound = holds (machine kind) m₀ Sound (λ opens. record { is_open = refl; month_is = refl; month_le = opens.1; rising = tt; up_to = tt }) sound_leads (λ call fault h s so. assumption)

  -- which portions are told, both ways
  pub record Exact (h : History T) (s : Ledger T) (k a : ℕ) (t : T) : Type 0 where
    pub only : Tells s.portions k a t → WasEntered m₀ h k a t × (reached m₀ h ≤ k + kind.life)
    pub all : WasEntered m₀ h k a t → reached m₀ h ≤ k + kind.life → Tells s.portions k a t

  exact_leads : Leads (machine kind) m₀ (λ h s. (k a : ℕ) (t : T) → Exact h s k a t)
  exact_leads (open_for slots month) _ h s x k a t = absurd x.follows
  exact_leads (enter amount terms) _ h s x k a t =
      let ih = x.so k a t in
      let at = (sound h s x.had).month_is in
      let new = fresh s.month amount terms in
      record {
        only = λ e. elim (tells_push_back k a t new s.portions e) [ inl y ↦ (inl (sym at ∙ y.0, y.1, y.2), omega (arith, at, y.0)) | inr y ↦ (inr (ih.only y).0, (ih.only y).1) ];
        all = elim [ inl y ↦ (λ le. tells_push_new k a t new s.portions (at ∙ y.0, y.1, y.2)) | inr y ↦ (λ le. tells_push_old k a t new s.portions (ih.all y le)) ];
      }
  exact_leads (draw d) _ h s x k a t =
      let ih = x.so k a t in
      record {
        only = λ e. ih.only (tells_taking_back k a t (takings d.rule d.wanted s) s.portions e);
        all = λ e le. tells_taking k a t (takings d.rule d.wanted s) s.portions (ih.all e le);
      }
  exact_leads turn _ h s x k a t =
      let ih = x.so k a t in
      let at = (sound h s x.had).month_is in
      record {
        only = λ e. let back = tells_kept_back k a t kind.life (s.month + 1) s.portions e in ((ih.only back.0).0, omega (arith, at, back.1));
        all = λ e le. tells_kept k a t kind.life (s.month + 1) (omega (arith, at, le)) s.portions (ih.all e (omega (arith, le)));
      }

  pub exact : (h : History T) (s : Ledger T) → Had kind m₀ h s → (k a : ℕ) (t : T) → Exact h s k a t
  exact =
      holds (machine kind) m₀ (λ h s. (k a : ℕ) (t : T) → Exact h s k a t) (λ opens k a t. record { only = λ e. absurd e; all = λ e le. absurd e })
      exact_leads (λ call fault h s so k a t. let was = so k a t in assumption)

  pub tells_open : (h : History T) (s : Ledger T) → Had kind m₀ h s → TellsExactly kind m₀ h s
  tells_open h s had =
      let c = sound h s had in
      record { month_told = c.month_is; told_are_open = λ k a t. (exact h s had k a t).only; open_are_told = λ k a t. (exact h s had k a t).all; oldest_stands_first = c.rising }

module _ {T : Type 0} where
  rising_count : (b m : ℕ) (ps : List (Portion T)) → RisingFrom b ps → UpTo m ps → length ps ≤ m + 1 - b
  rising_count b m [] r u = omega arith
  rising_count b m (p ∷ ps) r u = omega (arith, r.0, u.0, rising_count (p.month + 1) m ps r.1 u.1)

  few_from : (n m : ℕ) (ps : List (Portion T)) → RisingFrom 0 ps → UpTo m ps → ((k a : ℕ) (t : T) → Tells ps k a t → m ≤ k + n) → length ps ≤ n + 1
  few_from n m [] r u still = omega arith
  few_from n m (p ∷ ps) r u still =
      omega (arith, u.0, rising_count (p.month + 1) m ps r.1 u.1, still p.month p.entered p.terms (inl (refl, refl, refl)))

  pub few_open : (kind : Kind T) (m₀ : ℕ) (h : History T) (s : Ledger T) → Had kind m₀ h s → length s.portions ≤ kind.life + 1
  few_open kind m₀ h s had =
      let c = sound kind m₀ h s had in
      few_from kind.life s.month s.portions c.rising c.up_to (λ k a t told. omega (arith, c.month_is, ((exact kind m₀ h s had k a t).only told).1))

-- a store has no more portions open than the law of rules speaks of
abbrev pub Few : {T : Type 0} → Ledger T → Type 0
Few s = length (lefts s) ≤ MOST_OPEN

module _ {T : Type 0} (kind : Kind T) (law : LawfulKind kind) (m₀ : ℕ) where
  pub few_lefts : (h : History T) (s : Ledger T) → Had kind m₀ h s → Few s
  few_lefts h s had = omega (arith, length-map s.portions (λ (p : Portion T). p.left), few_open kind m₀ h s had, law.life_to)

  -- the totals told are those of the history, and they balance
  pub record Counts (h : History T) (s : Ledger T) : Type 0 where
    pub entered_is : s.entered ≡ Entered h
    pub used_is : s.used ≡ Used h
    pub refunded_is : s.refunded ≡ Refunded h
    pub lost_is : s.lost ≡ Lost h
    pub balance : s.entered ≡ s.used + s.refunded + s.lost + left_in s.portions

  split_left : (s : Ledger T) → left_in s.portions ≡ left_in (turning kind s).portions + (refunds kind s + losses kind s)
  split_left s =
      let parts = total_parts (λ (p : Portion T). p.left) kind.refund (loss kind) (λ p. omega (arith, law.refund_within p)) (ending kind s) in
      let cut = total_split (λ (p : Portion T). p.left) (ends_by kind.life (s.month + 1)) s.portions in
      omega (arith, parts, cut)

  counts_lead : Leads (machine kind) m₀ Counts
  counts_lead (open_for slots month) _ h s a = absurd a.follows
  counts_lead (enter amount terms) _ h s a =
      let more = total-++ (λ (p : Portion T). p.left) s.portions (fresh s.month amount terms ∷ []) in
      record { entered_is = omega arith; used_is = a.so.used_is; refunded_is = a.so.refunded_is; lost_is = a.so.lost_is; balance = omega (arith, more) }
  counts_lead (draw d) answer h s a =
      let less = left_taking (takings d.rule d.wanted s) s.portions (within a.follows s.month (lefts s) d.wanted (few_lefts h s a.had)) in
      record { entered_is = a.so.entered_is; used_is = omega (arith, a.told); refunded_is = a.so.refunded_is; lost_is = a.so.lost_is; balance = omega (arith, less) }
  counts_lead turn answer h s a =
      let cut = split_left s in
      let refunded = ap (λ (x : ℕ × ℕ). x.0) a.told in
      let lost = ap (λ (x : ℕ × ℕ). x.1) a.told in
      record { entered_is = a.so.entered_is; used_is = a.so.used_is; refunded_is = omega (arith, refunded); lost_is = omega (arith, lost); balance = omega (arith, cut) }

  pub counts : (h : History T) (s : Ledger T) → Had kind m₀ h s → Counts h s
  counts = holds (machine kind) m₀ Counts (λ opens. record { entered_is = refl; used_is = refl; refunded_is = refl; lost_is = refl; balance = refl }) counts_lead (λ call fault h s so. assumption)

  pub conserves : (h : History T) (s : Ledger T) → Had kind m₀ h s → Balanced h s
  conserves h s had =
      let c = counts h s had in
      record { entered_told = c.entered_is; used_told = c.used_is; refunded_told = c.refunded_is; lost_told = c.lost_is; balance = omega (arith, c) }
