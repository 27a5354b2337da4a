-- The laws of coverings: what one wants of a store, uses and covers, and when it has its turn.
use Rattle.std.specs.Prelude.{◌≡◌, ◌≢◌, ℕ, ◌+◌, ◌-◌, ◌*◌, ◌<◌, ◌≤◌, min, cond, List, ◌==◌}
use Rattle.portions.specs.Sums.{total}
use Rattle.ledger.specs.Ledger.{left_in}
use Rattle.settlement.specs.Accounts.{Workings, Covering}

module _ {O A S Z T : Type 0} (works : Workings O A S Z T) where
  -- an amount that belongs to the zone k, where it is counted for z: all of it if they are one, and otherwise nothing
  abbrev pub counted_for : Z → Z → ℕ → ℕ
  counted_for z k amount = cond (works.place k == works.place z) amount 0

  -- what coverings used for a zone
  abbrev pub used_for : Z → List (Covering Z) → ℕ
  used_for z cs = total (λ (c : Covering Z). counted_for z c.zone c.used) cs

  -- what they used from its store
  abbrev pub used_from : Z → List (Covering Z) → ℕ
  used_from z cs = total (λ (c : Covering Z). counted_for z c.from c.used) cs

  -- and what they covered in it
  abbrev pub covered_in : Z → List (Covering Z) → ℕ
  covered_in z cs = total (λ (c : Covering Z). counted_for z c.zone c.covers) cs

  -- they have emptied the store of a zone
  abbrev pub Emptied : A → List (Covering Z) → Z → Type 0
  Emptied a cs z = used_from z cs ≡ left_in (works.store a z).portions

  -- they have covered all that was pending in a zone
  abbrev pub Covered : A → List (Covering Z) → Z → Type 0
  Covered a cs z = covered_in z cs ≡ works.pending a z

  -- what a covering wants, uses and covers, in a settlement at a, after those before it
  pub record Earned (o : O) (a : A) (before : List (Covering Z)) (c : Covering Z) : Type 0 where
    -- its rest is what is pending in its zone and not covered by those
    pub rest_is : c.rest + covered_in c.zone before ≡ works.pending a c.zone
    -- it wants the least amount of which so many tenths are at least the rest
    pub enough : 10 * c.rest ≤ c.wanted * works.tenths o
    pub least : (w : ℕ) → 10 * c.rest ≤ w * works.tenths o → c.wanted ≤ w
    -- it uses that, or all that those have left in the store
    pub used_is : c.used ≡ min c.wanted (left_in (works.store a c.from).portions - used_from c.from before)
    -- it covers the largest amount that is at most the rest and at most so many tenths of what it uses
    pub within_rest : c.covers ≤ c.rest
    pub paid_for : 10 * c.covers ≤ c.used * works.tenths o
    pub largest : (v : ℕ) → v ≤ c.rest → 10 * v ≤ c.used * works.tenths o → v ≤ c.covers

  -- a covering from another zone's store has its turn
  pub record InTurn (a : A) (before : List (Covering Z)) (c : Covering Z) : Type 0 where
    -- the zone's own store has been emptied
    pub own_store_first : Emptied a before c.zone
    -- the store's own zone is wholly covered
    pub own_zone_first : Covered a before c.from
    -- each lower store of the others has been emptied
    pub lower_stores_first :
        (k : Z) → works.place k ≢ works.place c.zone → works.place k < works.place c.from → Emptied a before k
    -- each lower zone is wholly covered
    pub lower_zones_first : (k : Z) → works.place k < works.place c.zone → Covered a before k

  -- a covering keeps the laws: it is earned, and takes something from another zone's store only in its turn
  pub record Lawful (o : O) (a : A) (before : List (Covering Z)) (c : Covering Z) : Type 0 where
    pub earned : Earned o a before c
    pub in_turn : works.place c.zone ≢ works.place c.from → 0 < c.used → InTurn a before c
