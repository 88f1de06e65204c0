-- What is found in a changed table.
use Rattle.df_tables.proofs.Names.{◌≡◌, ℕ, suc, List, [], ◌∷◌, Option, Some, None, Bool, true, false, if◌then◌else◌, map, option_map, is_some, ◌||◌, refl, ap, sym, ◌∙◌, contains_by, same, unit_cmp, unit_cmp_ties, UnitName, same_name-exact, same_name_decides, names_in, seat_of, Seat, find, moved_at, place_of, Unit}

-- a seat is found exactly where the seats have the name
pub seat_some : (n : UnitName) (ss : List Seat) → contains_by unit_cmp (names_in ss) n ≡ is_some (seat_of n ss)
seat_some n [] = refl
seat_some n (s ∷ ss) = ap (λ (b : Bool). b || contains_by unit_cmp (names_in ss) n) (sym (unit_cmp_ties s.unit n))
    ∙ (elim (same s.unit n) as (λ b. (b || contains_by unit_cmp (names_in ss) n) ≡ is_some (if b then Some s.place else seat_of n ss))
    [ true ↦ refl | false ↦ seat_some n ss ])

-- a unit has a place exactly where it has a row
pub place_some : (n : UnitName) (us : List Unit) → is_some (place_of n us) ≡ is_some (find n us)
place_some n [] = refl
place_some n (u ∷ us) = by (same u.local.unit n) (place_of n us) (place_some n us)
  where
    by : (b : Bool) (o : Option ℕ) → is_some o ≡ is_some (find n us) → is_some (if b then Some 0 else option_map suc o) ≡ is_some (if b then Some u else find n us)
    by true o rest = refl
    by false None rest = rest
    by false (Some k) rest = rest

pub find-map : (g : Unit → Unit) → ((u : Unit) → (g u).local.unit ≡ u.local.unit) → (n : UnitName) (us : List Unit) → find n (map g us) ≡ option_map g (find n us)
find-map g kept n [] = refl
find-map g kept n (u ∷ us) = ap (λ (m : UnitName). if same m n then Some (g u) else find n (map g us)) (kept u)
    ∙ (elim (same u.local.unit n) as (λ b. (if b then Some (g u) else find n (map g us)) ≡ option_map g (if b then Some u else find n us))
    [ true ↦ refl | false ↦ find-map g kept n us ])

pub find-moved : (a : UnitName) (g : Unit → Unit) → ((u : Unit) → (g u).local.unit ≡ u.local.unit) → (n : UnitName) (us : List Unit) → find n (moved_at a g us) ≡ (if same a n then option_map g (find n us) else find n us)
find-moved a g kept n [] = elim (same a n) as (λ b. (let x : Option Unit = None in x) ≡ (if b then None else None)) [ true ↦ refl | false ↦ refl ]
find-moved a g kept n (u ∷ us) = by (same u.local.unit a) refl (find-moved a g kept n us)
  where
    here : (b : Bool) (y : Option Unit) → (if b then Some (g u) else y) ≡ (if b then option_map g (if b then Some u else y) else (if b then Some u else y))
    here true y = refl
    here false y = refl

    swap : (p q : Bool) (x y : Option Unit) → (p ≡ true → q ≡ true → ⊥) → x ≡ (if p then option_map g y else y) → (if q then Some u else x) ≡ (if p then option_map g (if q then Some u else y) else (if q then Some u else y))
    swap true true x y never e = absurd (never refl refl)
    swap true false x y never e = e
    swap false true x y never e = refl
    swap false false x y never e = e

    never : same u.local.unit a ≡ false → same a n ≡ true → same u.local.unit n ≡ true → ⊥
    never e p q =
        let f : u.local.unit ≡ a = same_name-exact u.local.unit n q ∙ sym (same_name-exact a n p) in
        let h : same u.local.unit a ≡ true = (same_name_decides u.local.unit a).1 f in cc

    by : (b : Bool) → same u.local.unit a ≡ b → find n (moved_at a g us) ≡ (if same a n then option_map g (find n us) else find n us) → find n (if b then g u ∷ us else u ∷ moved_at a g us) ≡ (if same a n then option_map g (find n (u ∷ us)) else find n (u ∷ us))
    by true e ih =
        ap (λ (m : UnitName). if same m n then Some (g u) else find n us) (kept u ∙ same_name-exact u.local.unit a e)
        ∙ here (same a n) (find n us)
        ∙ ap (λ (m : UnitName). if same a n then option_map g (if same m n then Some u else find n us) else (if same m n then Some u else find n us)) (sym (same_name-exact u.local.unit a e))
    by false e ih = swap (same a n) (same u.local.unit n) (find n (moved_at a g us)) (find n us) (never e) ih
