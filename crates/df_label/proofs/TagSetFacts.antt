-- Sets of tags: what each operation does to membership, and inclusion as an order.
use Rattle.std.proofs.Common.{◌≡◌, ℕ, Bool, true, false, not, cond, ◌&&◌, ◌||◌, List, [], ◌∷◌, refl, ap, sym, ◌∙◌, subst, Option, Some, None, Bor, is_some, option_copied}
use Rattle.std.specs.List.{list_all}
use Rattle.std.specs.Option.{IsNone}
use Rattle.std.specs.Bool.{Decides}
use Rattle.std.specs.Ordering.{is_eq, is_le}
use Rattle.std.specs.declared.cmp.Ordering.TheVariants.{Less, Equal, Greater}
use Rattle.std.proofs.lemmas.Bool.{true≢false, and_parts, and_from, not-false}
use Rattle.std.proofs.lemmas.Cmp.{nat_list_cmp_total, tied_itself, lists_total}
use Rattle.std.specs.Cmp.Lexicographic.{pointwise_decides, bytes_decides}
use Rattle.std.specs.FinMap.{nat_cmp-IsAntisymmetric, slice_cmp-IsAntisymmetric}
use Rattle.df_label.specs.Ascending.{IsAscending}
use Rattle.df_label.specs.Tag.{tag_cmp, tag_eq}
use Rattle.df_label.specs.TagSet.{tag_set_cmp, tag_set_eq, contains, is_subset, first_missing, with, without, union, meet, IsLeastMissing}
use Rattle.df_label.proofs.SetFacts.{IsExactOrder, eq_by_cmp-Decides, ascending_insert, ascending_filter, contains-insert, contains-filter, contains-itself, below-contained, same_elements, insert_present, filter_all, is_some-find_not}

-- tags are totally ordered, and only equal tags tie
pub tag_cmp_exact : IsExactOrder tag_cmp
tag_cmp_exact = record { total = nat_list_cmp_total; exact = slice_cmp-IsAntisymmetric nat_cmp-IsAntisymmetric }

pub tag_eq-itself : (t : List ℕ) → tag_eq t t ≡ true
tag_eq-itself t = ap is_eq (tied_itself tag_cmp_exact.total t)

-- the test tells equal tags
pub tag_eq-exact : (t u : List ℕ) → tag_eq t u ≡ true → t ≡ u
tag_eq-exact t u =
    elim (tag_cmp t u) as (λ r. r ≡ tag_cmp t u → is_eq r ≡ true → t ≡ u) [
      | Less ↦ λ e h. absurd (true≢false (sym h))
      | Equal ↦ λ e h. tag_cmp_exact.exact t u (sym e)
      | Greater ↦ λ e h. absurd (true≢false (sym h))
    ] refl

pub tag_eq-Decides : (t u : List ℕ) → Decides (tag_eq t u) (t ≡ u)
tag_eq-Decides = eq_by_cmp-Decides tag_cmp tag_cmp_exact

-- sets as lists are totally ordered, and only equal sets tie
pub tag_set_cmp_exact : IsExactOrder tag_set_cmp
tag_set_cmp_exact = record { total = lists_total nat_list_cmp_total; exact = slice_cmp-IsAntisymmetric (slice_cmp-IsAntisymmetric nat_cmp-IsAntisymmetric) }

pub tag_set_eq-Decides : (ts us : List (List ℕ)) → Decides (tag_set_eq ts us) (ts ≡ us)
tag_set_eq-Decides = pointwise_decides bytes_decides

-- ---- membership

pub contains-with : (ts : List (List ℕ)) (t u : List ℕ) → contains (with ts t) u ≡ (tag_eq t u || contains ts u)
contains-with ts t u = contains-insert tag_cmp tag_cmp_exact ts t u

or_turned : (a b c : Bool) → ((a || b) || c) ≡ (b || (a || c))
or_turned true true c = refl
or_turned true false c = refl
or_turned false b c = refl

pub contains-union : (ts us : List (List ℕ)) (t : List ℕ) → contains (union ts us) t ≡ (contains ts t || contains us t)
contains-union ts [] t = sym (or_false (contains ts t))
  where
    or_false : (a : Bool) → (a || false) ≡ a
    or_false true = refl
    or_false false = refl
contains-union ts (u ∷ us) t =
    contains-union (with ts u) us t
    ∙ ap (λ b. b || contains us t) (contains-with ts u t)
    ∙ or_turned (tag_eq u t) (contains ts t) (contains us t)

pub contains-meet : (ts us : List (List ℕ)) (t : List ℕ) → contains (meet ts us) t ≡ (contains ts t && contains us t)
contains-meet ts us t = contains-filter tag_cmp tag_cmp_exact (λ u. contains us u) ts t

pub contains-without : (ts : List (List ℕ)) (t u : List ℕ) → contains (without ts t) u ≡ (contains ts u && not (tag_eq u t))
contains-without ts t u = contains-filter tag_cmp tag_cmp_exact (λ v. not (tag_eq v t)) ts u

-- ---- inclusion

or_right : (a b : Bool) → b ≡ true → (a || b) ≡ true
or_right true b h = refl
or_right false b h = h

-- a set that is included has no other tags
pub contains-included : (ts us : List (List ℕ)) (t : List ℕ) → is_subset ts us ≡ true → contains ts t ≡ true → contains us t ≡ true
contains-included [] us t s h = absurd (true≢false (sym h))
contains-included (u ∷ ts) us t s h =
    let both : (contains us u ≡ true) × (is_subset ts us ≡ true) = and_parts (contains us u) (is_subset ts us) s in
    elim (tag_eq u t) as (λ b. b ≡ tag_eq u t → (b || contains ts t) ≡ true → contains us t ≡ true) [
      | true ↦ λ e k. subst (λ v. contains us v ≡ true) (tag_eq-exact u t (sym e)) both.0
      | false ↦ λ e k. contains-included ts us t both.1 k
    ] refl h

-- a set whose tags are all in another is included
pub is_subset-from_tags : (ts us : List (List ℕ)) → ((t : List ℕ) → contains ts t ≡ true → contains us t ≡ true) → is_subset ts us ≡ true
is_subset-from_tags [] us h = refl
is_subset-from_tags (u ∷ ts) us h =
    and_from (contains us u) (is_subset ts us) (h u (ap (λ b. b || contains ts u) (tag_eq-itself u)))
    (is_subset-from_tags ts us (λ t k. h t (or_right (tag_eq u t) (contains ts t) k)))

pub is_subset-refl : (ts : List (List ℕ)) → is_subset ts ts ≡ true
is_subset-refl ts = is_subset-from_tags ts ts (λ t h. h)

pub is_subset-trans : (ts us vs : List (List ℕ)) → is_subset ts us ≡ true → is_subset us vs ≡ true → is_subset ts vs ≡ true
is_subset-trans ts us vs h k = is_subset-from_tags ts vs (λ t m. contains-included us vs t k (contains-included ts us t h m))

each_way : (a b : Bool) → (a ≡ true → b ≡ true) → (b ≡ true → a ≡ true) → a ≡ b
each_way true b h k = sym (h refl)
each_way false true h k = k refl
each_way false false h k = refl

-- a set is included exactly where none of its tags is missing
pub is_subset-first_missing : (ts us : List (List ℕ)) (missing : Option (Bor (List ℕ))) (none : Bool) → option_copied missing ≡ first_missing us ts → is_some missing ≡ not none → none ≡ is_subset ts us
is_subset-first_missing ts us missing none f n = told none (is_subset ts us) (sym n ∙ sym (some_copied missing) ∙ ap is_some f ∙ is_some-find_not (contains us) ts)
  where
    some_copied : (m : Option (Bor (List ℕ))) → is_some (option_copied m) ≡ is_some m
    some_copied None = refl
    some_copied (Some x) = refl

    told : (a b : Bool) → not a ≡ not b → a ≡ b
    told true true h = refl
    told true false h = sym h
    told false true h = sym h
    told false false h = refl

-- in the empty set none is included but itself
pub is_subset-nil : (ts of : List (List ℕ)) (none : Bool) → of ≡ [] → Decides none (ts ≡ []) → none ≡ is_subset ts of
is_subset-nil [] of none e d = d.1 refl
is_subset-nil (t ∷ ts) of true e d = absurd (let no : t ∷ ts ≡ [] = d.0 refl in cc)
is_subset-nil (t ∷ ts) of false e d = sym (ap (is_subset (t ∷ ts)) e)

-- nothing is missing exactly where the set is included
pub first_missing-none : (ts of : List (List ℕ)) → (IsNone (first_missing ts of) → is_subset of ts ≡ true) × (is_subset of ts ≡ true → IsNone (first_missing ts of))
first_missing-none ts of =
    (λ h. not-false (is_subset of ts) (sym (is_some-find_not (contains ts) of) ∙ h), λ h. is_some-find_not (contains ts) of ∙ ap not h)

-- what is missing is the least tag that is wanted and isn't there
pub first_missing-least : (ts of : List (List ℕ)) (t : List ℕ) → IsAscending tag_cmp of → first_missing ts of ≡ Some t → IsLeastMissing ts of t
first_missing-least ts [] t s h = cc
first_missing-least ts (u ∷ of) t s h = by (contains ts u) refl (first_missing-least ts of t s.1) h
  where
    first : contains ts u ≡ false → IsLeastMissing ts (u ∷ of) u
    first e = record {
      wanted = contains-itself tag_cmp tag_cmp_exact u of;
      missing = e;
      least = λ v held lacked. elim (tag_cmp u v) as (λ r. r ≡ tag_cmp u v → (is_eq r || contains of v) ≡ true → is_le r ≡ true) [
        | Less ↦ λ q k. refl
        | Equal ↦ λ q k. refl
        | Greater ↦ λ q k. ap is_le (q ∙ below-contained tag_cmp tag_cmp_exact u of v s.0 k)
      ] refl held;
    }

    by : (b : Bool) → b ≡ contains ts u → (first_missing ts of ≡ Some t → IsLeastMissing ts of t) → cond (not b) (Some u) (first_missing ts of) ≡ Some t → IsLeastMissing ts (u ∷ of) t
    by true e ih h =
        let rest : IsLeastMissing ts of t = ih h in
        record {
          wanted = or_right (tag_eq u t) (contains of t) rest.wanted;
          missing = rest.missing;
          least = λ v held lacked. elim (tag_eq u v) as (λ b. b ≡ tag_eq u v → (b || contains of v) ≡ true → is_le (tag_cmp t v) ≡ true) [
            | true ↦ λ q k. absurd (true≢false (e ∙ ap (contains ts) (tag_eq-exact u v (sym q)) ∙ lacked))
            | false ↦ λ q k. rest.least v k lacked
          ] refl held;
        }
    by false e ih h = let same : u ≡ t = cc in subst (IsLeastMissing ts (u ∷ of)) same (first (sym e))

-- sets that include each other are equal
pub is_subset-antisymm : (ts us : List (List ℕ)) → IsAscending tag_cmp ts → IsAscending tag_cmp us → is_subset ts us ≡ true → is_subset us ts ≡ true → ts ≡ us
is_subset-antisymm ts us s r h k =
    same_elements tag_cmp tag_cmp_exact ts us s r (λ t. each_way (contains ts t) (contains us t) (contains-included ts us t h) (contains-included us ts t k))

-- ---- the operations keep sets ascending

pub ascending-with : (ts : List (List ℕ)) (t : List ℕ) → IsAscending tag_cmp ts → IsAscending tag_cmp (with ts t)
ascending-with = ascending_insert tag_cmp tag_cmp_exact

pub ascending-without : (ts : List (List ℕ)) (t : List ℕ) → IsAscending tag_cmp ts → IsAscending tag_cmp (without ts t)
ascending-without ts t = ascending_filter tag_cmp tag_cmp_exact (λ u. not (tag_eq u t)) ts

pub ascending-union : (ts us : List (List ℕ)) → IsAscending tag_cmp ts → IsAscending tag_cmp (union ts us)
ascending-union ts [] s = s
ascending-union ts (u ∷ us) s = ascending-union (with ts u) us (ascending-with ts u s)

pub ascending-meet : (ts us : List (List ℕ)) → IsAscending tag_cmp ts → IsAscending tag_cmp (meet ts us)
ascending-meet ts us = ascending_filter tag_cmp tag_cmp_exact (λ t. contains us t) ts

-- ---- bounds

or_left : (a b : Bool) → a ≡ true → (a || b) ≡ true
or_left true b h = refl
or_left false b h = absurd (true≢false (sym h))

pub is_subset-union_left : (ts us : List (List ℕ)) → is_subset ts (union ts us) ≡ true
is_subset-union_left ts us = is_subset-from_tags ts (union ts us) (λ t h. contains-union ts us t ∙ or_left (contains ts t) (contains us t) h)

pub is_subset-union_right : (ts us : List (List ℕ)) → is_subset us (union ts us) ≡ true
is_subset-union_right ts us = is_subset-from_tags us (union ts us) (λ t h. contains-union ts us t ∙ or_right (contains ts t) (contains us t) h)

either : (a b c : Bool) → (a || b) ≡ true → (a ≡ true → c ≡ true) → (b ≡ true → c ≡ true) → c ≡ true
either true b c h l r = l refl
either false b c h l r = r h

-- the union is the least set that includes both
pub union-is_subset : (ts us vs : List (List ℕ)) → is_subset ts vs ≡ true → is_subset us vs ≡ true → is_subset (union ts us) vs ≡ true
union-is_subset ts us vs h k =
    is_subset-from_tags (union ts us) vs (λ t m. either (contains ts t) (contains us t) (contains vs t) (sym (contains-union ts us t) ∙ m) (contains-included ts vs t h) (contains-included us vs t k))

pub meet-is_subset_left : (ts us : List (List ℕ)) → is_subset (meet ts us) ts ≡ true
meet-is_subset_left ts us =
    is_subset-from_tags (meet ts us) ts (λ t m. (and_parts (contains ts t) (contains us t) (sym (contains-meet ts us t) ∙ m)).0)

pub meet-is_subset_right : (ts us : List (List ℕ)) → is_subset (meet ts us) us ≡ true
meet-is_subset_right ts us =
    is_subset-from_tags (meet ts us) us (λ t m. (and_parts (contains ts t) (contains us t) (sym (contains-meet ts us t) ∙ m)).1)

-- the meet is the greatest set that both include
pub is_subset-meet : (ts us vs : List (List ℕ)) → is_subset vs ts ≡ true → is_subset vs us ≡ true → is_subset vs (meet ts us) ≡ true
is_subset-meet ts us vs h k =
    is_subset-from_tags vs (meet ts us) (λ t m. contains-meet ts us t ∙ and_from (contains ts t) (contains us t) (contains-included vs ts t h m) (contains-included vs us t k m))

-- a set is included in the set with one tag more
pub is_subset-with : (ts : List (List ℕ)) (t : List ℕ) → is_subset ts (with ts t) ≡ true
is_subset-with ts t = is_subset-union_left ts (t ∷ [])

-- the set with a tag is the least that includes the set and has the tag
-- ---- operations that add or take nothing

pub with-present : (ts : List (List ℕ)) (t : List ℕ) → IsAscending tag_cmp ts → contains ts t ≡ true → with ts t ≡ ts
with-present = insert_present tag_cmp tag_cmp_exact

pub without-absent : (ts : List (List ℕ)) (t : List ℕ) → contains ts t ≡ false → without ts t ≡ ts
without-absent ts t h = filter_all (λ u. not (tag_eq u t)) ts (all_others ts h)
  where
    all_others : (us : List (List ℕ)) → contains us t ≡ false → list_all (λ u. not (tag_eq u t)) us ≡ true
    all_others [] h = refl
    all_others (u ∷ us) h =
        elim (tag_eq u t) as (λ b. (b || contains us t) ≡ false → (not b && list_all (λ v. not (tag_eq v t)) us) ≡ true) [
          | true ↦ λ k. absurd (true≢false k)
          | false ↦ λ k. all_others us k
        ] h

pub union-included_right : (ts us : List (List ℕ)) → IsAscending tag_cmp ts → is_subset us ts ≡ true → union ts us ≡ ts
union-included_right ts us s h =
    is_subset-antisymm (union ts us) ts (ascending-union ts us s) s (union-is_subset ts us ts (is_subset-refl ts) h) (is_subset-union_left ts us)

pub union-included_left : (ts us : List (List ℕ)) → IsAscending tag_cmp ts → IsAscending tag_cmp us → is_subset ts us ≡ true → union ts us ≡ us
union-included_left ts us s r h =
    is_subset-antisymm (union ts us) us (ascending-union ts us s) r (union-is_subset ts us us h (is_subset-refl us)) (is_subset-union_right ts us)

pub meet-included_left : (ts us : List (List ℕ)) → is_subset ts us ≡ true → meet ts us ≡ ts
meet-included_left ts us h = filter_all (λ t. contains us t) ts h

pub meet-included_right : (ts us : List (List ℕ)) → IsAscending tag_cmp ts → IsAscending tag_cmp us → is_subset us ts ≡ true → meet ts us ≡ us
meet-included_right ts us s r h =
    is_subset-antisymm (meet ts us) us (ascending-meet ts us s) r (meet-is_subset_right ts us) (is_subset-meet ts us us h (is_subset-refl us))
