-- Where a name stands among ascending names, and what is there.
use Rattle.std.proofs.Common.{◌≡◌, ℕ, zero, suc, ◌-◌, ◌<◌, ◌≤◌, List, [], ◌∷◌, get_or, set, length, arith, refl, ap, sym, subst, ◌∙◌, Option, Some, None, cond}
use Rattle.std.specs.Prelude.{Bool, true, false, if◌then◌else◌, Result, Ok, Err, option_map, pos}
use Rattle.std.specs.Str.{bytes_eq}
use Rattle.std.specs.List.{insert}
use Rattle.std.specs.List.Sorted.{IsSearchInRange, IsBinarySearchResult, IsNonDecreasingBy}
use Rattle.std.specs.declared.cmp.Ordering.{Ordering}
use Rattle.std.specs.declared.cmp.Ordering.TheVariants.{Less, Equal, Greater}
use Rattle.std.specs.Ordering.{match_ordering, ordering_reverse, ordering_index, is_eq, is_lt}
use Rattle.std.specs.FinMap.{slice_cmp-IsAntisymmetric, nat_cmp-IsAntisymmetric}
use Rattle.std.proofs.lemmas.List.{get_or-map, length-map}
use Rattle.std.proofs.lemmas.Cmp.{nat_list_cmp_total}
use Rattle.std.proofs.lemmas.Map.Text.{is_eq-slice_cmp}
use Rattle.df_frozen.specs.Plain.{Plain, entry, from_pairs}
use Rattle.df_frozen.specs.Name.{name_cmp}
use Rattle.df_frozen.specs.Entries.{names, get, IsBelow, IsAscending}
use Rattle.df_frozen.specs.Place.{change_value, put_entry}
use Rattle.df_frozen.specs.code.Search.{place_of, behind_one}
use Rattle.df_frozen.specs.declared.value.Value.{Value}
use Rattle.df_frozen.specs.declared.value.Value.TheVariants.{Int}
use Rattle.df_frozen.proofs.Named.{map-insert}
use Rattle.df_frozen.proofs.Options.{option_map-option_map}

-- ---- the order of names

-- names compared the other way round
name_cmp-swapped : (k n : List ℕ) (o : Ordering) → name_cmp n k ≡ o → name_cmp k n ≡ ordering_reverse o
name_cmp-swapped k n o h = nat_list_cmp_total.antisymm k n ∙ ap ordering_reverse h

-- names that compare equal are equal
name_cmp-equal : (k n : List ℕ) → name_cmp k n ≡ Equal → k ≡ n
name_cmp-equal k n h = slice_cmp-IsAntisymmetric nat_cmp-IsAntisymmetric k n h

-- the test of equality is that of the order
bytes_eq-name_cmp : (k n : List ℕ) → bytes_eq k n ≡ is_eq (name_cmp k n)
bytes_eq-name_cmp k n = sym (is_eq-slice_cmp k n)

-- what is below a name is below those above it
IsBelow-transitive : (k l : List ℕ) (ns : List (List ℕ)) → name_cmp k l ≡ Less → IsBelow l ns → IsBelow k ns
IsBelow-transitive k l [] h b = tt
IsBelow-transitive k l (n ∷ ns) h b = (nat_list_cmp_total.trans k l n h b.0, IsBelow-transitive k l ns h b.1)

-- a name that is below all is below each
IsBelow-at : (n : List ℕ) (ns : List (List ℕ)) (i : ℕ) (d : List ℕ) → IsBelow n ns → i < length ns → name_cmp n (get_or ns i d) ≡ Less
IsBelow-at n [] i d b h = absurd (omega (arith, h))
IsBelow-at n (m ∷ ns) zero d b h = b.0
IsBelow-at n (m ∷ ns) (suc i) d b h = IsBelow-at n ns i d b.1 (omega (arith, h))

-- a name that is below all is below one more
IsBelow-insert : (n k : List ℕ) (ns : List (List ℕ)) (i : ℕ) → name_cmp n k ≡ Less → IsBelow n ns → IsBelow n (insert ns i k)
IsBelow-insert n k [] zero h b = (h, tt)
IsBelow-insert n k [] (suc i) h b = (h, tt)
IsBelow-insert n k (m ∷ ns) zero h b = (h, b)
IsBelow-insert n k (m ∷ ns) (suc i) h b = (b.0, IsBelow-insert n k ns i h b.1)

-- ---- a binary search gives the place

-- the place of a name that is there
pub place_of-found : (k : List ℕ) (ns : List (List ℕ)) (i : ℕ) (d : List ℕ) → IsAscending ns → i < length ns → name_cmp (get_or ns i d) k ≡ Equal → place_of k ns ≡ Ok i
place_of-found k [] i d s h e = absurd (omega (arith, h))
place_of-found k (n ∷ ns) zero d s h e =
    ap (λ o. match_ordering o (Err 0) (Ok 0) (behind_one (place_of k ns))) (name_cmp-swapped k n Equal e)
place_of-found k (n ∷ ns) (suc i) d s h e =
    let lt : i < length ns = omega (arith, h) in
    let below : name_cmp n k ≡ Less = subst (λ m. name_cmp n m ≡ Less) (name_cmp-equal (get_or ns i d) k e) (IsBelow-at n ns i d s.0 lt) in
    ap (λ o. match_ordering o (Err 0) (Ok 0) (behind_one (place_of k ns))) (name_cmp-swapped k n Less below) ∙ ap behind_one (place_of-found k ns i d s.1 lt e)

-- the place between the names below and above
pub place_of-missing : (k : List ℕ) (ns : List (List ℕ)) (i : ℕ) → i ≤ length ns → ((j : ℕ) (d : List ℕ) → j < i → name_cmp (get_or ns j d) k ≡ Less) → ((j : ℕ) (d : List ℕ) → i ≤ j → j < length ns → name_cmp (get_or ns j d) k ≡ Greater) → place_of k ns ≡ Err i
place_of-missing k [] zero h less greater = refl
place_of-missing k [] (suc i) h less greater = absurd (omega (arith, h))
place_of-missing k (n ∷ ns) zero h less greater =
    ap (λ o. match_ordering o (Err 0) (Ok 0) (behind_one (place_of k ns))) (name_cmp-swapped k n Greater (greater 0 [] (omega arith) (omega arith)))
place_of-missing k (n ∷ ns) (suc i) h less greater =
    ap (λ o. match_ordering o (Err 0) (Ok 0) (behind_one (place_of k ns))) (name_cmp-swapped k n Less (less 0 [] (omega arith))) ∙ ap behind_one (place_of-missing k ns i (omega (arith, h)) (λ j d g. less (suc j) d (omega (arith, g))) (λ j d g l. greater (suc j) d (omega (arith, g)) (omega (arith, l))))

-- a name compares with a later one as with what is at or after that one
index_rises : (k n m : List ℕ) → name_cmp n m ≡ Less → ordering_index (name_cmp n k) ≤ ordering_index (name_cmp m k)
index_rises k n m h =
    elim (name_cmp m k) as (λ o. o ≡ name_cmp m k → ordering_index (name_cmp n k) ≤ ordering_index o) [
      | Less ↦ λ q. rw (nat_list_cmp_total.trans n m k h (sym q)) (omega arith)
      | Equal ↦ λ q. rw (subst (λ x. name_cmp n x ≡ Less) (name_cmp-equal m k (sym q)) h) (omega arith)
      | Greater ↦ λ q. at_most (name_cmp n k)
    ] refl
  where
    at_most : (o : Ordering) → ordering_index o ≤ 2
    at_most Less = omega arith
    at_most Equal = omega arith
    at_most Greater = omega arith

-- later names compare no lower
pub ascending_index : (k : List ℕ) (ns : List (List ℕ)) → IsAscending ns → (i j : ℕ) (d : List ℕ) → i ≤ j → j < length ns → ordering_index (name_cmp (get_or ns i d) k) ≤ ordering_index (name_cmp (get_or ns j d) k)
ascending_index k [] s i j d h g = absurd (omega (arith, g))
ascending_index k (n ∷ ns) s zero zero d h g = omega arith
ascending_index k (n ∷ ns) s zero (suc j) d h g = index_rises k n (get_or ns j d) (IsBelow-at n ns j d s.0 (omega (arith, g)))
ascending_index k (n ∷ ns) s (suc i) zero d h g = absurd (omega (arith, h))
ascending_index k (n ∷ ns) s (suc i) (suc j) d h g = ascending_index k ns s.1 i j d (omega (arith, h)) (omega (arith, g))

-- the name of an entry
name_at : (es : List (List ℕ × Value)) (i : ℕ) (d : List ℕ) (e : List ℕ × Value) → i < length es → get_or (names es) i d ≡ (get_or es i e).0
name_at es i d e h = get_or-map (λ (x : List ℕ × Value). x.0) es i e d h

-- as many names as entries
length-names : (es : List (List ℕ × Value)) → length (names es) ≡ length es
length-names es = length-map es (λ (x : List ℕ × Value). x.0)

-- the place of a name behind the last
pub place_of-behind : (k : List ℕ) (es : List (List ℕ × Value)) (last : List ℕ × Value) → IsAscending (names es)
    → get_or es (length es - 1) last ≡ last → is_lt (name_cmp last.0 k) ≡ true → place_of k (names es) ≡ Err (length es)
place_of-behind k es last s e h =
    let n = length-names es in
    place_of-missing k (names es) (length es) (omega (arith, n)) (λ j d g. lowest (name_cmp (get_or (names es) j d) k) (at j d g))
    (λ j d g l. absurd (omega (arith, g, l, n)))
  where
    less : (o : Ordering) → is_lt o ≡ true → ordering_index o ≤ 0
    less Less g = omega arith
    less Equal g = absurd (cc)
    less Greater g = absurd (cc)

    lowest : (o : Ordering) → ordering_index o ≤ 0 → o ≡ Less
    lowest Less g = refl
    lowest Equal g = absurd (omega (arith, g))
    lowest Greater g = absurd (omega (arith, g))

    at : (j : ℕ) (d : List ℕ) → j < length es → ordering_index (name_cmp (get_or (names es) j d) k) ≤ 0
    at j d g =
        let n = length-names es in
        let i = length es - 1 in
        let rises = ascending_index k (names es) s j i d (omega (arith, g)) (omega (arith, g, n)) in
        let named : get_or (names es) i d ≡ last.0 = name_at es i d last (omega (arith, g)) ∙ ap (λ (x : List ℕ × Value). x.0) e in
        omega (arith, subst (λ m. ordering_index (name_cmp (get_or (names es) j d) k) ≤ ordering_index (name_cmp m k)) named rises, less (name_cmp last.0 k) h)

-- what a binary search by name answers
pub place_of-searched : (k : List ℕ) (es : List (List ℕ × Value)) (r : Result ℕ ℕ) → IsAscending (names es) → IsSearchInRange r (length es) → IsBinarySearchResult (λ e. name_cmp e.0 k) es r → r ≡ place_of k (names es)
place_of-searched k es (Ok i) s bound equal =
    let d : List ℕ × Value = ([], Int (pos 0)) in
    sym (place_of-found k (names es) i [] s (omega (arith, bound, length-names es)) (ap (λ n. name_cmp n k) (name_at es i [] d bound) ∙ equal d))
place_of-searched k es (Err i) s bound position =
    let n = length-names es in
    let rising : IsNonDecreasingBy (λ e. ordering_index (name_cmp e.0 k)) es = λ a b d h g. subst (λ m. ordering_index (name_cmp m k) ≤ ordering_index (name_cmp (get_or es b d).0 k)) (name_at es a [] d (omega (arith, h, g))) (subst (λ m. ordering_index (name_cmp (get_or (names es) a []) k) ≤ ordering_index (name_cmp m k)) (name_at es b [] d g) (ascending_index k (names es) s a b [] h (omega (arith, g, n)))) in
    let parts = position rising in
    let e : List ℕ × Value = ([], Int (pos 0)) in
    sym (place_of-missing k (names es) i (omega (arith, bound, n)) (λ j d h. ap (λ m. name_cmp m k) (name_at es j d e (omega (arith, h, bound))) ∙ parts.0 j e (omega arith) h) (λ j d h g. ap (λ m. name_cmp m k) (name_at es j d e (omega (arith, g, n))) ∙ parts.1 j e h (omega (arith, g, n))))

-- ---- a name that is there

-- the value at the place of a name
pub get-found : (k : List ℕ) (es : List (List ℕ × Plain)) (i : ℕ) (d : List ℕ × Plain) → place_of k (names es) ≡ Ok i → (i < length es) × (get k es ≡ Some (get_or es i d).1)
get-found k [] i d h = absurd (cc)
get-found k (e ∷ es) i d h =
    rw (bytes_eq-name_cmp k e.0) (by (name_cmp k e.0) (place_of k (names es)) (λ j g. get-found k es j d g) h)
  where
    by : (o : Ordering) (r : Result ℕ ℕ) → ((j : ℕ) → r ≡ Ok j → (j < length es) × (get k es ≡ Some (get_or es j d).1)) → match_ordering o (Err 0) (Ok 0) (behind_one r) ≡ Ok i → (i < suc (length es)) × (cond (is_eq o) (Some e.1) (get k es) ≡ Some (get_or (e ∷ es) i d).1)
    by Less r ih g = absurd (cc)
    by Equal r ih g = let z : 0 ≡ i = cc in subst (λ j. (j < suc (length es)) × (Some e.1 ≡ Some (get_or (e ∷ es) j d).1)) z (omega arith, refl)
    by Greater (Err j) ih g = absurd (cc)
    by Greater (Ok j) ih g =
        let z : suc j ≡ i = cc in
        let b = ih j refl in
        subst (λ j. (j < suc (length es)) × (get k es ≡ Some (get_or (e ∷ es) j d).1)) z (omega (arith, b.0), b.1)

-- a change at the place of a name
pub change_value-found : (f : Plain → Option Plain) (k : List ℕ) (es : List (List ℕ × Plain)) (i : ℕ) (d : List ℕ × Plain) → place_of k (names es) ≡ Ok i → change_value f k (from_pairs es) ≡ option_map (λ q. from_pairs (set es i ((get_or es i d).0, q))) (f (get_or es i d).1)
change_value-found f k [] i d h = absurd (cc)
change_value-found f k (e ∷ es) i d h =
    rw (bytes_eq-name_cmp k e.0) (by (name_cmp k e.0) (place_of k (names es)) (λ j g. change_value-found f k es j d g) h)
  where
    by : (o : Ordering) (r : Result ℕ ℕ) → ((j : ℕ) → r ≡ Ok j → change_value f k (from_pairs es) ≡ option_map (λ q. from_pairs (set es j ((get_or es j d).0, q))) (f (get_or es j d).1)) → match_ordering o (Err 0) (Ok 0) (behind_one r) ≡ Ok i → cond (is_eq o) (option_map (λ q. entry e.0 q (from_pairs es)) (f e.1)) (option_map (entry e.0 e.1) (change_value f k (from_pairs es))) ≡ option_map (λ q. from_pairs (set (e ∷ es) i ((get_or (e ∷ es) i d).0, q))) (f (get_or (e ∷ es) i d).1)
    by Less r ih g = absurd (cc)
    by Equal r ih g = let z : 0 ≡ i = cc in subst (λ j. option_map (λ q. entry e.0 q (from_pairs es)) (f e.1) ≡ option_map (λ q. from_pairs (set (e ∷ es) j ((get_or (e ∷ es) j d).0, q))) (f (get_or (e ∷ es) j d).1)) z refl
    by Greater (Err j) ih g = absurd (cc)
    by Greater (Ok j) ih g =
        let z : suc j ≡ i = cc in
        subst (λ j. option_map (entry e.0 e.1) (change_value f k (from_pairs es)) ≡ option_map (λ q. from_pairs (set (e ∷ es) j ((get_or (e ∷ es) j d).0, q))) (f (get_or (e ∷ es) j d).1)) z
        (ap (option_map (entry e.0 e.1)) (ih j refl) ∙ option_map-option_map (entry e.0 e.1) (λ q. from_pairs (set es j ((get_or es j d).0, q))) (f (get_or es j d).1))

-- a put at the place of a name
pub put_entry-found : (k : List ℕ) (v : Plain) (es : List (List ℕ × Plain)) (i : ℕ) → place_of k (names es) ≡ Ok i → put_entry k v (from_pairs es) ≡ from_pairs (set es i (k, v))
put_entry-found k v [] i h = absurd (cc)
put_entry-found k v (e ∷ es) i h = by (name_cmp k e.0) (place_of k (names es)) refl (λ j g. put_entry-found k v es j g) h
  where
    by : (o : Ordering) (r : Result ℕ ℕ) → name_cmp k e.0 ≡ o → ((j : ℕ) → r ≡ Ok j → put_entry k v (from_pairs es) ≡ from_pairs (set es j (k, v))) → match_ordering o (Err 0) (Ok 0) (behind_one r) ≡ Ok i → match_ordering o (entry k v (entry e.0 e.1 (from_pairs es))) (entry e.0 v (from_pairs es)) (entry e.0 e.1 (put_entry k v (from_pairs es))) ≡ from_pairs (set (e ∷ es) i (k, v))
    by Less r q ih g = absurd (cc)
    by Equal r q ih g = let z : 0 ≡ i = cc in subst (λ j. entry e.0 v (from_pairs es) ≡ from_pairs (set (e ∷ es) j (k, v))) z (ap (λ n. entry n v (from_pairs es)) (sym (name_cmp-equal k e.0 q)))
    by Greater (Err j) q ih g = absurd (cc)
    by Greater (Ok j) q ih g =
        let z : suc j ≡ i = cc in
        subst (λ j. entry e.0 e.1 (put_entry k v (from_pairs es)) ≡ from_pairs (set (e ∷ es) j (k, v))) z (ap (entry e.0 e.1) (ih j refl))

-- a name put where it stands changes no name
pub set-found : (k : List ℕ) (ns : List (List ℕ)) (i : ℕ) → place_of k ns ≡ Ok i → set ns i k ≡ ns
set-found k [] i h = absurd (cc)
set-found k (n ∷ ns) i h = by (name_cmp k n) (place_of k ns) refl (λ j g. set-found k ns j g) h
  where
    by : (o : Ordering) (r : Result ℕ ℕ) → name_cmp k n ≡ o → ((j : ℕ) → r ≡ Ok j → set ns j k ≡ ns) → match_ordering o (Err 0) (Ok 0) (behind_one r) ≡ Ok i → set (n ∷ ns) i k ≡ n ∷ ns
    by Less r q ih g = absurd (cc)
    by Equal r q ih g = let z : 0 ≡ i = cc in subst (λ j. set (n ∷ ns) j k ≡ n ∷ ns) z (ap (λ m. m ∷ ns) (name_cmp-equal k n q))
    by Greater (Err j) q ih g = absurd (cc)
    by Greater (Ok j) q ih g = let z : suc j ≡ i = cc in subst (λ j. set (n ∷ ns) j k ≡ n ∷ ns) z (ap (λ l. n ∷ l) (ih j refl))

-- ---- a name that is not there

-- the place of a new name is within
pub place_of-within : (k : List ℕ) (ns : List (List ℕ)) (i : ℕ) → place_of k ns ≡ Err i → i ≤ length ns
place_of-within k [] i e = let z : 0 ≡ i = cc in omega (arith, z)
place_of-within k (n ∷ ns) i e = by (name_cmp k n) (place_of k ns) (λ j g. place_of-within k ns j g) e
  where
    by : (o : Ordering) (r : Result ℕ ℕ) → ((j : ℕ) → r ≡ Err j → j ≤ length ns) → match_ordering o (Err 0) (Ok 0) (behind_one r) ≡ Err i → i ≤ suc (length ns)
    by Less r ih g = let z : 0 ≡ i = cc in omega (arith, z)
    by Equal r ih g = absurd (cc)
    by Greater (Ok j) ih g = absurd (cc)
    by Greater (Err j) ih g = let z : suc j ≡ i = cc in omega (arith, z, ih j refl)

-- a put at the place of a new name
pub put_entry-new : (k : List ℕ) (v : Plain) (es : List (List ℕ × Plain)) (i : ℕ) → place_of k (names es) ≡ Err i → put_entry k v (from_pairs es) ≡ from_pairs (insert es i (k, v))
put_entry-new k v [] i h = let z : 0 ≡ i = cc in subst (λ j. entry k v (from_pairs []) ≡ from_pairs (insert [] j (k, v))) z refl
put_entry-new k v (e ∷ es) i h = by (name_cmp k e.0) (place_of k (names es)) (λ j g. put_entry-new k v es j g) h
  where
    by : (o : Ordering) (r : Result ℕ ℕ) → ((j : ℕ) → r ≡ Err j → put_entry k v (from_pairs es) ≡ from_pairs (insert es j (k, v))) → match_ordering o (Err 0) (Ok 0) (behind_one r) ≡ Err i → match_ordering o (entry k v (entry e.0 e.1 (from_pairs es))) (entry e.0 v (from_pairs es)) (entry e.0 e.1 (put_entry k v (from_pairs es))) ≡ from_pairs (insert (e ∷ es) i (k, v))
    by Less r ih g = let z : 0 ≡ i = cc in subst (λ j. entry k v (entry e.0 e.1 (from_pairs es)) ≡ from_pairs (insert (e ∷ es) j (k, v))) z refl
    by Equal r ih g = absurd (cc)
    by Greater (Ok j) ih g = absurd (cc)
    by Greater (Err j) ih g =
        let z : suc j ≡ i = cc in
        subst (λ j. entry e.0 e.1 (put_entry k v (from_pairs es)) ≡ from_pairs (insert (e ∷ es) j (k, v))) z (ap (entry e.0 e.1) (ih j refl))

-- names ascend with a new one at its place
pub IsAscending-insert : (k : List ℕ) (ns : List (List ℕ)) (i : ℕ) → IsAscending ns → place_of k ns ≡ Err i → IsAscending (insert ns i k)
IsAscending-insert k [] i s e = let z : 0 ≡ i = cc in subst (λ j. IsAscending (insert [] j k)) z (tt, tt)
IsAscending-insert k (n ∷ ns) i s e = by (name_cmp k n) (place_of k ns) refl (λ j g. IsAscending-insert k ns j s.1 g) e
  where
    by : (o : Ordering) (r : Result ℕ ℕ) → name_cmp k n ≡ o → ((j : ℕ) → r ≡ Err j → IsAscending (insert ns j k)) → match_ordering o (Err 0) (Ok 0) (behind_one r) ≡ Err i → IsAscending (insert (n ∷ ns) i k)
    by Less r q ih g = let z : 0 ≡ i = cc in subst (λ j. IsAscending (insert (n ∷ ns) j k)) z ((q, IsBelow-transitive k n ns q s.0), s)
    by Equal r q ih g = absurd (cc)
    by Greater (Ok j) q ih g = absurd (cc)
    by Greater (Err j) q ih g = let z : suc j ≡ i = cc in subst (λ j. IsAscending (insert (n ∷ ns) j k)) z (IsBelow-insert n k ns j (name_cmp-swapped n k Greater q) s.0, ih j refl)

-- names ascend after an insertion at that place that may fail
pub IsAscending-inserted : (ok : Bool) (k : List ℕ) (v : Value) (es new : List (List ℕ × Value)) (i : ℕ) → new ≡ (if ok then insert es i (k, v) else es) → IsAscending (names es) → place_of k (names es) ≡ Err i → IsAscending (names new)
IsAscending-inserted true k v es new i e s h =
    subst IsAscending (sym (ap names e ∙ map-insert (λ (x : List ℕ × Value). x.0) es i (k, v))) (IsAscending-insert k (names es) i s h)
IsAscending-inserted false k v es new i e s h = subst IsAscending (sym (ap names e)) s

-- nothing is under a name below all
get-below : (k : List ℕ) (es : List (List ℕ × Plain)) → IsBelow k (names es) → get k es ≡ None
get-below k [] b = refl
get-below k (e ∷ es) b = rw (bytes_eq-name_cmp k e.0, b.0) (get-below k es b.1)

-- nothing changes under a name below all
change_value-below : (f : Plain → Option Plain) (k : List ℕ) (es : List (List ℕ × Plain)) → IsBelow k (names es) → change_value f k (from_pairs es) ≡ None
change_value-below f k [] b = refl
change_value-below f k (e ∷ es) b = rw (bytes_eq-name_cmp k e.0, b.0) (ap (option_map (entry e.0 e.1)) (change_value-below f k es b.1))

-- nothing is under a name that is not there
pub get-missing : (k : List ℕ) (es : List (List ℕ × Plain)) (i : ℕ) → IsAscending (names es) → place_of k (names es) ≡ Err i → get k es ≡ None
get-missing k [] i s h = refl
get-missing k (e ∷ es) i s h =
    rw (bytes_eq-name_cmp k e.0) (by (name_cmp k e.0) (place_of k (names es)) refl (λ j g. get-missing k es j s.1 g) h)
  where
    by : (o : Ordering) (r : Result ℕ ℕ) → name_cmp k e.0 ≡ o → ((j : ℕ) → r ≡ Err j → get k es ≡ None) → match_ordering o (Err 0) (Ok 0) (behind_one r) ≡ Err i → cond (is_eq o) (Some e.1) (get k es) ≡ None
    by Less r q ih g = get-below k es (IsBelow-transitive k e.0 (names es) q s.0)
    by Equal r q ih g = absurd (cc)
    by Greater (Ok j) q ih g = absurd (cc)
    by Greater (Err j) q ih g = ih j refl

-- nothing changes under a name that is not there
pub change_value-missing : (f : Plain → Option Plain) (k : List ℕ) (es : List (List ℕ × Plain)) (i : ℕ) → IsAscending (names es) → place_of k (names es) ≡ Err i → change_value f k (from_pairs es) ≡ None
change_value-missing f k [] i s h = refl
change_value-missing f k (e ∷ es) i s h =
    rw (bytes_eq-name_cmp k e.0) (by (name_cmp k e.0) (place_of k (names es)) refl (λ j g. change_value-missing f k es j s.1 g) h)
  where
    by : (o : Ordering) (r : Result ℕ ℕ) → name_cmp k e.0 ≡ o → ((j : ℕ) → r ≡ Err j → change_value f k (from_pairs es) ≡ None) → match_ordering o (Err 0) (Ok 0) (behind_one r) ≡ Err i → cond (is_eq o) (option_map (λ q. entry e.0 q (from_pairs es)) (f e.1)) (option_map (entry e.0 e.1) (change_value f k (from_pairs es))) ≡ None
    by Less r q ih g = ap (option_map (entry e.0 e.1)) (change_value-below f k es (IsBelow-transitive k e.0 (names es) q s.0))
    by Equal r q ih g = absurd (cc)
    by Greater (Ok j) q ih g = absurd (cc)
    by Greater (Err j) q ih g = ap (option_map (entry e.0 e.1)) (ih j refl)
