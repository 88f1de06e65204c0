-- The place of the first row that passes a test, and what stands there.
use Rattle.df_tables.proofs.Names.{◌≡◌, ℕ, suc, Bool, true, false, if◌then◌else◌, List, [], ◌∷◌, ◌++◌, set, get_or, refl, ap, sym, ◌∙◌, subst, Option, Some, None, option_map, Part, same, same_event, EventName, UnitName, same_event_decides, place_by, find, moved_at, parts_of, EventRow, Unit}

-- units

-- where no row is the unit's, nothing is found and nothing is changed
pub at_none : (a : UnitName) (us : List Unit) → place_by (λ u. same u.local.unit a) us ≡ None → (find a us ≡ None) × ((g : Unit → Unit) → us ≡ moved_at a g us)
at_none a [] h = (refl, λ g. refl)
at_none a (u ∷ us) h = by (same u.local.unit a) (place_by (λ u. same u.local.unit a) us) (at_none a us) h
  where
    by : (b : Bool) (o : Option ℕ) → (o ≡ None → (find a us ≡ None) × ((g : Unit → Unit) → us ≡ moved_at a g us)) → (if b then Some 0 else option_map suc o) ≡ None → ((if b then Some u else find a us) ≡ None) × ((g : Unit → Unit) → u ∷ us ≡ (if b then g u ∷ us else u ∷ moved_at a g us))
    by true o ih h = absurd (cc)
    by false None ih h = let r = ih refl in (r.0, λ g. ap (λ (l : List Unit). u ∷ l) (r.1 g))
    by false (Some m) ih h = absurd (cc)

-- the row at this place is the unit's, and to change the table at the unit is to change it there
abbrev pub Stands : UnitName → List Unit → Unit → ℕ → Type 0
Stands a us d k = (find a us ≡ Some (get_or us k d)) × ((g : Unit → Unit) → set us k (g (get_or us k d)) ≡ moved_at a g us)

pub at_some : (a : UnitName) (us : List Unit) (k : ℕ) (d : Unit) → place_by (λ u. same u.local.unit a) us ≡ Some k → Stands a us d k
at_some a [] k d h = absurd (cc)
at_some a (u ∷ us) k d h = by (same u.local.unit a) (place_by (λ u. same u.local.unit a) us) (λ j g. at_some a us j d g) h
  where
    Here : Bool → ℕ → Type 0
    Here b k = ((if b then Some u else find a us) ≡ Some (get_or (u ∷ us) k d)) × ((g : Unit → Unit) → set (u ∷ us) k (g (get_or (u ∷ us) k d)) ≡ (if b then g u ∷ us else u ∷ moved_at a g us))

    by : (b : Bool) (o : Option ℕ) → ((j : ℕ) → o ≡ Some j → Stands a us d j) → (if b then Some 0 else option_map suc o) ≡ Some k → Here b k
    by true o ih h = let z : 0 ≡ k = cc in subst (λ i. Here true i) z (refl, λ g. refl)
    by false None ih h = absurd (cc)
    by false (Some j) ih h = let z : suc j ≡ k = cc in let r = ih j refl in subst (λ i. Here false i) z (r.0, λ g. ap (λ (l : List Unit). u ∷ l) (r.1 g))

-- events

swap : (p q : Bool) (x y z : List Part) → (p ≡ true → q ≡ true → ⊥) → (if q then x else (if p then y else z)) ≡ (if p then y else (if q then x else z))
swap true true x y z never = absurd (never refl refl)
swap true false x y z never = refl
swap false true x y z never = refl
swap false false x y z never = refl

here : (p : Bool) (x y z : List Part) → (if p then x else z) ≡ (if p then x else (if p then y else z))
here true x y z = refl
here false x y z = refl

not_both : (r ev e : EventName) → same_event r ev ≡ false → same_event ev e ≡ true → same_event r e ≡ true → ⊥
not_both r ev e f p q =
    let g : r ≡ ev = (same_event_decides r e).0 q ∙ sym ((same_event_decides ev e).0 p) in
    let h : same_event r ev ≡ true = (same_event_decides r ev).1 g in cc

-- a row at the end, where the event had none
pub put_end : (ev : EventName) (ps : List Part) (e : EventName) (rs : List EventRow) → place_by (λ r. same_event r.event ev) rs ≡ None → parts_of e (rs ++ record { event = ev; contents = ps } ∷ []) ≡ (if same_event ev e then ps else parts_of e rs)
put_end ev ps e [] h = refl
put_end ev ps e (r ∷ rs) h = by (same_event r.event ev) refl (place_by (λ r. same_event r.event ev) rs) (put_end ev ps e rs) h
  where
    by : (b : Bool) → same_event r.event ev ≡ b → (o : Option ℕ) → (o ≡ None → parts_of e (rs ++ record { event = ev; contents = ps } ∷ []) ≡ (if same_event ev e then ps else parts_of e rs)) → (if b then Some 0 else option_map suc o) ≡ None → (if same_event r.event e then r.contents else parts_of e (rs ++ record { event = ev; contents = ps } ∷ [])) ≡ (if same_event ev e then ps else (if same_event r.event e then r.contents else parts_of e rs))
    by true f o ih h = absurd (cc)
    by false f None ih h = ap (λ (l : List Part). if same_event r.event e then r.contents else l) (ih refl) ∙ swap (same_event ev e) (same_event r.event e) r.contents ps (parts_of e rs) (not_both r.event ev e f)
    by false f (Some m) ih h = absurd (cc)

-- other parts in the event's row
pub put_at : (ev : EventName) (ps : List Part) (e : EventName) (rs : List EventRow) (k : ℕ) (d : EventRow) → place_by (λ r. same_event r.event ev) rs ≡ Some k → parts_of e (set rs k (record { event = (get_or rs k d).event; contents = ps })) ≡ (if same_event ev e then ps else parts_of e rs)
put_at ev ps e [] k d h = absurd (cc)
put_at ev ps e (r ∷ rs) k d h = by (same_event r.event ev) refl (place_by (λ r. same_event r.event ev) rs) (λ j g. put_at ev ps e rs j d g) h
  where
    Here : ℕ → Type 0
    Here k = parts_of e (set (r ∷ rs) k (record { event = (get_or (r ∷ rs) k d).event; contents = ps })) ≡ (if same_event ev e then ps else parts_of e (r ∷ rs))

    by : (b : Bool) → same_event r.event ev ≡ b → (o : Option ℕ) → ((j : ℕ) → o ≡ Some j → parts_of e (set rs j (record { event = (get_or rs j d).event; contents = ps })) ≡ (if same_event ev e then ps else parts_of e rs)) → (if b then Some 0 else option_map suc o) ≡ Some k → Here k
    by true f o ih h =
        let z : 0 ≡ k = cc in
        let g : r.event ≡ ev = (same_event_decides r.event ev).0 f in
        subst Here z (ap (λ (x : EventName). if same_event x e then ps else parts_of e rs) g ∙ here (same_event ev e) ps r.contents (parts_of e rs) ∙ ap (λ (x : EventName). if same_event ev e then ps else (if same_event x e then r.contents else parts_of e rs)) (sym g))
    by false f None ih h = absurd (cc)
    by false f (Some j) ih h =
        let z : suc j ≡ k = cc in
        subst Here z (ap (λ (l : List Part). if same_event r.event e then r.contents else l) (ih j refl) ∙ swap (same_event ev e) (same_event r.event e) r.contents ps (parts_of e rs) (not_both r.event ev e f))
