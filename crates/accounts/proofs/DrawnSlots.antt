-- What draws one after the other do to the slots.
use Rattle.std.proofs.Common.{◌≡◌, sym, refl, ap, subst, ◌∙◌}
use Rattle.portions.specs.declared.Kind.{Ghosts}
use Rattle.store.specs.declared.Store.{Store}
use Rattle.store.specs.Held.{lent}
use Rattle.store.specs.Reading.{ledger_of}
use Rattle.store.specs.Slots.{kept_over}
use Rattle.store.proofs.Slots.{untouched, kept_twice}
use Rattle.hours.specs.declared.zones.Zone.{Zone}
use Rattle.hours.specs.declared.zones.Zone.TheVariants.{First, Second, Third}
use Rattle.settlement.specs.declared.zones.Zones.{Zones}
use Rattle.settlement.specs.Zones.{of, put}
use Rattle.accounts.specs.Means.{EnergyStore}
use Rattle.accounts.specs.Slots.{Drawn, EachDrawn}
use Rattle.accounts.proofs.Facts.{in_use_is}

then_drawn : {K T : Type 0} {k : Ghosts K T} (s t u : Store K T k) → Drawn s t → Drawn t u → Drawn s u
then_drawn {k = k} s t u d e =
    let a = d.accounted in
    let b = e.accounted in
    let was = (ledger_of k t).portions in
    let now = (ledger_of k u).portions in
    record {
      accounted = record {
        kept = b.kept ∙ ap (kept_over k now) a.kept ∙ kept_twice k was now (lent s) (in_use_is k u ∙ e.same_use ∙ sym (in_use_is k t));
        same_room = b.same_room ∙ a.same_room;
        lender = b.lender ∙ a.lender;
      };
      same_use = e.same_use ∙ d.same_use;
    }

none_drawn : {K T : Type 0} {k : Ghosts K T} (s : Store K T k) → Drawn s s
none_drawn s = record { accounted = untouched s; same_use = refl }

module _ (s : Zones EnergyStore) where
  pub drawn_nowhere : EachDrawn s s
  drawn_nowhere = (none_drawn s.one, none_drawn s.two, none_drawn s.three)

  pub drawn_at : (z : Zone) (w x : EnergyStore) → w ≡ of z s → Drawn w x → EachDrawn s (put z x s)
  drawn_at z w x is d = go z (subst (λ v. Drawn v x) is d)
    where
      go : (z : Zone) → Drawn (of z s) x → EachDrawn s (put z x s)
      go First d = (d, none_drawn s.two, none_drawn s.three)
      go Second d = (none_drawn s.one, d, none_drawn s.three)
      go Third d = (none_drawn s.one, none_drawn s.two, d)

module _ (s t u : Zones EnergyStore) where
  pub then_each : EachDrawn s t → EachDrawn t u → EachDrawn s u
  then_each d e = (then_drawn s.one t.one u.one d.0 e.0, then_drawn s.two t.two u.two d.1 e.1, then_drawn s.three t.three u.three d.2 e.2)
