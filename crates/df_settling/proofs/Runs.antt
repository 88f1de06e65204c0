-- Units of a floor that are asked in any order make a journal of the floor.
use Rattle.df_settling.proofs.Names.{◌≡◌, ◌≢◌, inl, inr, List, [], ◌∷◌, refl, sym, ◌∙◌, Option, Some, None, Config, floor_brains, Mind, deliveries, Calls, Wait, Want, began_with, replies_of, wanted, left, own, rows, Tick, OwnState, Given, Entry, UnitName, asked, asked_of, run_of, with_get, with_want, IsFloorJournal, first_states, floor_brain}

some_left : (d : Given) (ds : List Given) → d ∷ ds ≢ []
some_left d ds e = let z : ⊥ = cc in z

module _ (c : Config) (ticks : List Tick) (past : List Entry) (j : IsFloorJournal c ticks past) (u : UnitName) (st : OwnState) (x : Mind)
    (own_is : own rows (first_states c) past u ≡ Some st) (begun : began_with floor_brain rows (first_states c) (floor_brains c ticks) past u ≡ Some x) where
  waits : (ds : List Given) → left st (deliveries rows (first_states c) past u) ≡ ds → (wanted floor_brain x (replies_of u past)).0 ≡ Wait →
      IsFloorJournal c ticks (with_get c past u ds)
  waits [] e w = j
  waits (d ∷ ds) e w = record {
    legal = (j.legal, refl);
    unaided = (j.unaided, tt);
    follows = (j.follows, (st, x, record { own = own_is; begun = begun; call = inr (w, refl, λ none. some_left d ds (sym e ∙ none)) }));
  }

  goes : (wish : Want) → (wanted floor_brain x (replies_of u past)).0 ≡ wish → IsFloorJournal c ticks (with_want c past u st wish)
  goes (Calls call) w = record {
    legal = (j.legal, refl);
    unaided = (j.unaided, tt);
    follows = (j.follows, (st, x, record { own = own_is; begun = begun; call = inl w }));
  }
  goes Wait w = waits (left st (deliveries rows (first_states c) past u)) refl w

asked_goes : (c : Config) (ticks : List Tick) (past : List Entry) → IsFloorJournal c ticks past → (u : UnitName) →
    IsFloorJournal c ticks (asked c ticks past u)
asked_goes c ticks past j u = go (own rows (first_states c) past u) refl (began_with floor_brain rows (first_states c) (floor_brains c ticks) past u) refl
  where
    go : (o : Option OwnState) → own rows (first_states c) past u ≡ o → (x : Option Mind) →
        began_with floor_brain rows (first_states c) (floor_brains c ticks) past u ≡ x → IsFloorJournal c ticks (asked_of c past u o x)
    go None e x k = j
    go (Some st) e None k = j
    go (Some st) e (Some x) k = goes c ticks past j u st x e k (wanted floor_brain x (replies_of u past)).0 refl

runs_from : (c : Config) (ticks : List Tick) (us : List UnitName) (past : List Entry) → IsFloorJournal c ticks past →
    IsFloorJournal c ticks (run_of c ticks us past)
runs_from c ticks [] past j = j
runs_from c ticks (u ∷ us) past j = runs_from c ticks us (asked c ticks past u) (asked_goes c ticks past j u)

pub runs : (c : Config) (ticks : List Tick) (us : List UnitName) → IsFloorJournal c ticks (run_of c ticks us [])
runs c ticks us = runs_from c ticks us [] (record { legal = tt; unaided = tt; follows = tt })
