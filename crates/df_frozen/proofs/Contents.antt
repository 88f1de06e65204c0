-- What the same plain content tells of what has it.
use Rattle.std.proofs.Common.{◌≡◌, ℕ, zero, suc, ◌<◌, ◌≤◌, List, [], ◌∷◌, map, length, get_or, arith, refl, ap, sym, ◌∙◌}
use Rattle.std.proofs.lemmas.List.{get_or-map}
use Rattle.df_frozen.specs.Plain.{Plain, Plains, Pairs, items, entries, no_items, item, no_entries, entry, from_list, from_pairs, depth, items_depth, entries_depth}
use Rattle.df_frozen.specs.Value.{plain, plain_all, named}
use Rattle.df_frozen.specs.declared.value.Value.{Value}
use Rattle.df_frozen.specs.declared.value.Value.TheVariants.{Int, Words, Bytes, Items, Map}

-- the items, as a list
to_list : Plains → List Plain
to_list no_items = []
to_list (item p ps) = p ∷ to_list ps

-- items of a list give the list back
to_list-from_list : (ps : List Plain) → to_list (from_list ps) ≡ ps
unfolding to_list
to_list-from_list [] = refl
to_list-from_list (p ∷ ps) = ap (λ l. p ∷ l) (to_list-from_list ps)

-- the entries, as a list of pairs
to_pairs : Pairs → List (List ℕ × Plain)
to_pairs no_entries = []
to_pairs (entry k p es) = (k, p) ∷ to_pairs es

-- entries of a list give the list back
to_pairs-from_pairs : (es : List (List ℕ × Plain)) → to_pairs (from_pairs es) ≡ es
unfolding to_pairs
to_pairs-from_pairs [] = refl
to_pairs-from_pairs (e ∷ es) = ap (λ l. e ∷ l) (to_pairs-from_pairs es)

-- lists with the same content have the same items
pub items_same : (xs ys : List Plain) → items (from_list xs) ≡ items (from_list ys) → xs ≡ ys
items_same xs ys e = let f : from_list xs ≡ from_list ys = cc in sym (to_list-from_list xs) ∙ ap to_list f ∙ to_list-from_list ys

-- maps with the same content have the same entries
pub entries_same : (xs ys : List (List ℕ × Plain)) → entries (from_pairs xs) ≡ entries (from_pairs ys) → xs ≡ ys
entries_same xs ys e = let f : from_pairs xs ≡ from_pairs ys = cc in sym (to_pairs-from_pairs xs) ∙ ap to_pairs f ∙ to_pairs-from_pairs ys

-- values with the same content are the same
pub plain_same : (v w : Value) → plain v ≡ plain w → v ≡ w
plain_same (Int n) (Int m) e = cc
plain_same (Words s) (Words t) e = cc
plain_same (Bytes s) (Bytes t) e = cc
plain_same (Items xs) (Items ys) e = ap Items (items_same xs ys e)
plain_same (Map xs) (Map ys) e = ap Map (entries_same xs ys e)
plain_same (Int n) (Words t) e = absurd (cc)
plain_same (Int n) (Bytes t) e = absurd (cc)
plain_same (Int n) (Items ys) e = absurd (cc)
plain_same (Int n) (Map ys) e = absurd (cc)
plain_same (Words s) (Int m) e = absurd (cc)
plain_same (Words s) (Bytes t) e = absurd (cc)
plain_same (Words s) (Items ys) e = absurd (cc)
plain_same (Words s) (Map ys) e = absurd (cc)
plain_same (Bytes s) (Int m) e = absurd (cc)
plain_same (Bytes s) (Words t) e = absurd (cc)
plain_same (Bytes s) (Items ys) e = absurd (cc)
plain_same (Bytes s) (Map ys) e = absurd (cc)
plain_same (Items xs) (Int m) e = absurd (cc)
plain_same (Items xs) (Words t) e = absurd (cc)
plain_same (Items xs) (Bytes t) e = absurd (cc)
plain_same (Items xs) (Map ys) e = absurd (cc)
plain_same (Map xs) (Int m) e = absurd (cc)
plain_same (Map xs) (Words t) e = absurd (cc)
plain_same (Map xs) (Bytes t) e = absurd (cc)
plain_same (Map xs) (Items ys) e = absurd (cc)

-- lists that are seen alike are alike at each index
pub same_at : {A B : Type 0} (f : A → B) (xs ys : List A) (i : ℕ) (x y : A) → x ≡ get_or xs i x → y ≡ get_or ys i y → i < length xs → i < length ys → map f xs ≡ map f ys → f x ≡ f y
same_at f xs ys i x y p q h g e = ap f p ∙ sym (get_or-map f xs i x (f x) h) ∙ ap (λ l. get_or l i (f x)) e ∙ get_or-map f ys i y (f x) g ∙ ap f (sym q)

-- a value of a list is at most as deep as the deepest
pub depth_at : (vs : List Value) (i : ℕ) (v : Value) → v ≡ get_or vs i v → i < length vs → depth (plain v) ≤ items_depth (plain_all vs)
depth_at vs i v e h = rw (ap (λ x. depth (plain x)) e) (by vs i v h)
  where
    by : (us : List Value) (j : ℕ) (d : Value) → j < length us → depth (plain (get_or us j d)) ≤ items_depth (plain_all us)
    by [] j d g = absurd (omega (arith, g))
    by (u ∷ us) zero d g = omega arith
    by (u ∷ us) (suc j) d g = omega (arith, by us j d (omega (arith, g)))

-- a value of a map is at most as deep as the deepest
pub entry_depth_at : (es : List (List ℕ × Value)) (i : ℕ) (e : List ℕ × Value) → e ≡ get_or es i e → i < length es → depth (plain e.1) ≤ entries_depth (from_pairs (map named es))
entry_depth_at es i e h g = rw (ap (λ (x : List ℕ × Value). depth (plain x.1)) h) (by es i e g)
  where
    by : (us : List (List ℕ × Value)) (j : ℕ) (d : List ℕ × Value) → j < length us → depth (plain (get_or us j d).1) ≤ entries_depth (from_pairs (map named us))
    by [] j d l = absurd (omega (arith, l))
    by (u ∷ us) zero d l = omega arith
    by (u ∷ us) (suc j) d l = omega (arith, by us j d (omega (arith, l)))
