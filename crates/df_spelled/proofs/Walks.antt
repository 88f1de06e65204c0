-- What is known of each element of a list, as what is known of the list.
use Rattle.std.proofs.Common.{◌≡◌, ◌<◌, ◌+◌, ◌^◌, ℕ, zero, suc, List, [], ◌∷◌, Bool, true, false, length, map, refl, subst, ◌∙◌, arith}
use Rattle.std.specs.Prelude.{nat_lt, slice_index_or}
use Rattle.std.proofs.lemmas.Bool.{ltb-false, ltb-true}
use Rattle.std.specs.List.{All, AllByRecursion}
use Rattle.std.proofs.lemmas.List.Elements.{recursion_from_All}
use Rattle.df_filter.specs.declared.clause.Clause.{Clause}
use Rattle.df_filter_text.specs.Fits.{AreClauses, IsClause}
use Rattle.df_frozen.specs.Entries.{IsAscending, IsBelow, names}
use Rattle.df_frozen.specs.Plain.{from_list, from_pairs}
use Rattle.df_frozen.specs.Value.{named, plain}
use Rattle.df_frozen.specs.declared.value.Value.{Value}
use Rattle.df_spelled.specs.Spelled.{IsNamed}
use Rattle.df_value_text.specs.Fits.{AreEntries, AreBehind, AreNumbers, AreSpelled, AreTags, IsSpelled, IsTag}
use Rattle.df_value_text.specs.ReadBytes.{AreBytes}

-- what each element has is known of the list, where this goes from the rest to one more
each_of : {X : Type 0} (P : X → Type 0) (Q : List X → Type 0) → Q [] → ((x : X) (xs : List X) → P x → Q xs → Q (x ∷ xs)) → (xs : List X)
    → All P xs → Q xs
each_of {X} P Q none more xs h = go xs (recursion_from_All P xs h)
  where
    go : (xs : List X) → AllByRecursion P xs → Q xs
    go [] h = none
    go (x ∷ xs) h = more x xs h.0 (go xs h.1)

numbers_of_all : (ns : List ℕ) → All (λ n. n < 2 ^ 32) ns → AreNumbers ns
numbers_of_all = each_of (λ n. n < 2 ^ 32) AreNumbers tt (λ n ns here rest. (here, rest))

pub tag_of_all : (ns : List ℕ) → 0 < length ns → All (λ n. n < 2 ^ 32) ns → IsTag ns
tag_of_all [] some h = absurd (omega (arith, some))
tag_of_all (n ∷ ns) some h = numbers_of_all (n ∷ ns) h

pub tags_of_all : (ts : List (List ℕ)) → All IsTag ts → AreTags ts
tags_of_all = each_of IsTag AreTags tt (λ t ts here rest. (here, rest))

pub bytes_of_all : (bs : List ℕ) → All (λ b. b < 256) bs → AreBytes bs
bytes_of_all = each_of (λ b. b < 256) AreBytes tt (λ b bs here rest. (here, rest))

pub items_of_all : (vs : List Value) → All (λ v. IsSpelled (plain v)) vs → AreSpelled (from_list (map plain vs))
items_of_all = each_of (λ v. IsSpelled (plain v)) (λ vs. AreSpelled (from_list (map plain vs))) tt (λ v vs here rest. (here, rest))

pub clauses_of_all : (cs : List Clause) → All IsClause cs → AreClauses cs
clauses_of_all = each_of IsClause AreClauses tt (λ c cs here rest. (here, rest))

-- names that ascend, each below those behind it
behind_go : (name : List ℕ) (es : List (List ℕ × Value)) → IsBelow name (names (map named es)) → IsAscending (names (map named es)) → AllByRecursion IsNamed es
    → AreBehind name (from_pairs (map named es))
behind_go name [] below up h = tt
behind_go name (e ∷ es) below up h = (h.0.0, below.0, h.0.1, behind_go e.0 es up.0 up.1 h.1)

entries_go : (es : List (List ℕ × Value)) → IsAscending (names (map named es)) → AllByRecursion IsNamed es → AreEntries (from_pairs (map named es))
entries_go [] up h = tt
entries_go (e ∷ es) up h = (h.0.0, h.0.1, behind_go e.0 es up.0 up.1 h.1)

pub entries_of_all : (es : List (List ℕ × Value)) → IsAscending (names (map named es)) → All IsNamed es → AreEntries (from_pairs (map named es))
entries_of_all es up h = entries_go es up (recursion_from_All IsNamed es h)

-- lists element by element

at_any : {X : Type 0} (xs : List X) (i : ℕ) (d e : X) → i < length xs → slice_index_or xs i d ≡ slice_index_or xs i e
at_any [] i d e lt = absurd (omega (arith, lt))
at_any (x ∷ xs) zero d e lt = refl
at_any (x ∷ xs) (suc i) d e lt = at_any xs i d e (omega (arith, lt))

-- what holds of those before an element and of the element holds of all up to it
pub each_more : {X : Type 0} (P : X → Type 0) (xs : List X) (i : ℕ) (x : X) → x ≡ slice_index_or xs i x → i < length xs → P x
    → ((k : ℕ) (d : X) → k < i → P (slice_index_or xs k d)) → (k : ℕ) (d : X) → k < i + 1 → P (slice_index_or xs k d)
each_more {X} P xs i x is within here before k d lt = go (nat_lt k i) refl
  where
    go : (b : Bool) → nat_lt k i ≡ b → P (slice_index_or xs k d)
    go true e = before k d (ltb-true k i e)
    go false e =
        let le = ltb-false k i e in
        let same : i ≡ k = omega (arith, le, lt) in
        subst (λ (n : ℕ). P (slice_index_or xs n d)) same (subst P (is ∙ at_any xs i x d within) here)
