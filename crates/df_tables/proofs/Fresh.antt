-- Rows that come to exist together: each unless its unit has one.
use Rattle.df_tables.proofs.Names.{◌≡◌, ℕ, ◌+◌, Bool, true, false, if◌then◌else◌, List, [], ◌∷◌, ◌++◌, Option, Some, None, option_map, length, ap, sym, ◌∙◌, ⊤, is_none, option_or, append-nil, same, UnitName, same_name-exact, same_name_decides, all_new, names_of, place_of, Unit, false_from_ne_true}
use Rattle.std.proofs.lemmas.List.{append_assoc}
use Rattle.df_tables.proofs.Newborn.{place_by-append}
use Rattle.df_tables.proofs.Seats.{place_of-names}

-- no row of these is of the unit
abbrev pub AreOthers : UnitName → List Unit → Type 0
AreOthers n [] = ⊤
AreOthers n (b ∷ bs) = (same b.local.unit n ≡ false) × AreOthers n bs

-- each is the row of another unit
abbrev pub AreDistinct : List Unit → Type 0
AreDistinct [] = ⊤
AreDistinct (b ∷ bs) = AreOthers b.local.unit bs × AreDistinct bs

-- no unit of these has a row yet
abbrev pub AreUnplaced : List Unit → List Unit → Type 0
AreUnplaced us [] = ⊤
AreUnplaced us (b ∷ bs) = (place_of b.local.unit us ≡ None) × AreUnplaced us bs

same_back : (a b : UnitName) → same a b ≡ false → same b a ≡ false
same_back a b e = false_from_ne_true (same b a) (λ g. let is : same a b ≡ true = (same_name_decides a b).1 (sym (same_name-exact b a g)) in cc)

-- with one more row none of the others has one
unplaced_more : (us : List Unit) (b : Unit) (bs : List Unit) → AreOthers b.local.unit bs → AreUnplaced us bs → AreUnplaced (us ++ b ∷ []) bs
unplaced_more us b [] others none = tt
unplaced_more us b (c ∷ bs) others none = (
  place_by-append (λ (v : Unit). same v.local.unit c.local.unit) us (b ∷ [])
      ∙ ap (λ (t : Bool). option_or (place_of c.local.unit us) (option_map (λ k. length us + k) (if t then Some 0 else None))) (same_back c.local.unit b.local.unit others.0)
      ∙ ap (λ (o : Option ℕ). option_or o None) none.0,
  unplaced_more us b bs others.1 none.1,
)

-- where each is new, all of them come
pub all_come : (bs us : List Unit) → AreDistinct bs → AreUnplaced us bs → all_new bs us ≡ us ++ bs
all_come [] us distinct none = sym (append-nil us)
all_come (b ∷ bs) us distinct none =
    ap (λ (o : Option ℕ). all_new bs (us ++ (if is_none o then b ∷ [] else []))) none.0
    ∙ all_come bs (us ++ b ∷ []) distinct.1 (unplaced_more us b bs distinct.0 none.1)
    ∙ append_assoc us (b ∷ []) bs

-- where the same units have rows, the same have none
pub unplaced_like : (us vs bs : List Unit) → names_of vs ≡ names_of us → AreUnplaced us bs → AreUnplaced vs bs
unplaced_like us vs [] same none = tt
unplaced_like us vs (b ∷ bs) same none = (place_of-names b.local.unit us vs same ∙ none.0, unplaced_like us vs bs same none.1)
