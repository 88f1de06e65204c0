-- What was found so far, and the instances of one more subscription.
use Rattle.std.proofs.Common.{◌≡◌, ℕ, ◌+◌, ◌<◌, List, [], ◌∷◌, ◌++◌, Option, Some, Bool, true, false, ◌==◌, ◌&&◌, ◌||◌, length, get_or, take, slice_get, map, refl, ap, sym, ◌∙◌, arith, All}
use Rattle.std.specs.List.Sorted.{IsStrictlySortedBy}
use Rattle.std.specs.Ordering.{nat_cmp}
use Rattle.std.specs.declared.cmp.Ordering.{Ordering}
use Rattle.std.specs.declared.cmp.Ordering.TheVariants.{Equal, Less}
use Rattle.std.proofs.lemmas.Bool.{and_right, eq-eqb, eqb-true, or_right}
use Rattle.std.proofs.lemmas.List.{get_or-take, get_or_default, length-take}
use Rattle.std.proofs.lemmas.Map.Keys.{below_from_sorted}
use Rattle.std.proofs.lemmas.List.Elements.{All-append, All-from_recursion, All-head, All-map, All-tail, All-weaker, recursion_from_All}
use Rattle.std.proofs.lemmas.List.Folds.{Any-from_list_any, list_any-append, list_any_kept, list_any_more}
use Rattle.df_label.specs.TagSet.{tag_set_cmp, tag_set_eq}
use Rattle.df_managed.specs.Contaminations.{has_set}
use Rattle.df_part.specs.declared.part.Part.{Part}
use Rattle.df_instances.specs.Chosen.{gives_at, has_instance, instance_cmp}
use Rattle.df_instances.specs.Marks.{has_place}
use Rattle.df_instances.specs.code.Chosen.{instance_at}
use Rattle.df_instances.specs.declared.instances.Instance.{Instance}
use Rattle.df_instances.specs.declared.subscription.ManagedSubscription.{ManagedSubscription}

-- the instances at one place are those of the sets
at_place : (p : ℕ) (sets : List (List (List ℕ))) (k : ℕ) (t : List (List ℕ)) → has_instance (map (instance_at p) sets) k t ≡ ((p == k) && has_set sets t)
at_place p [] k t = sym (and_right (p == k) false refl)
at_place p (s ∷ ss) k t = by (p == k) (at_place p ss k t)
  where
    by : (e : Bool) → has_instance (map (instance_at p) ss) k t ≡ (e && has_set ss t)
        → ((e && tag_set_eq s t) || has_instance (map (instance_at p) ss) k t) ≡ (e && (tag_set_eq s t || has_set ss t))
    by true ih = ap (λ (b : Bool). tag_set_eq s t || b) ih
    by false ih = ih

joined : (a g : Bool) → ((a && g) || g) ≡ ((a || true) && g)
joined true true = refl
joined true false = refl
joined false g = refl

as_before : (a g : Bool) → ((a && g) || false) ≡ ((a || false) && g)
as_before true true = refl
as_before true false = refl
as_before false g = refl

-- what was found at the places so far, and the instances at one more
pub found_more : (managed : List ManagedSubscription) (places : List ℕ) (i d : ℕ) (m : ManagedSubscription) (old added : List Part)
    (found : List Instance) (sets : List (List (List ℕ)))
    → i < length places → slice_get managed (get_or places i d) ≡ Some m
    → ((k : ℕ) (t : List (List ℕ)) → has_instance found k t ≡ (has_place (take i places) k && gives_at (slice_get managed k) t old added))
    → ((t : List (List ℕ)) → has_set sets t ≡ gives_at (Some m) t old added)
    → (k : ℕ) (t : List (List ℕ)) → has_instance (found ++ map (instance_at (get_or places i d)) sets) k t
    ≡ (has_place (take (i + 1) places) k && gives_at (slice_get managed k) t old added)
found_more managed places i d m old added found sets l at before given k t =
    list_any-append (λ (x : Instance). (x.place == k) && tag_set_eq x.s t) found (map (instance_at p) sets)
    ∙ (λ j. before k t j || at_place p sets k t j)
    ∙ by (p == k) (eqb-true p k)
    ∙ ap (λ (b : Bool). b && g) (sym (list_any_more (λ j. j == k) places i d l))
  where
    p : ℕ
    p = get_or places i d

    a : Bool
    a = has_place (take i places) k

    g : Bool
    g = gives_at (slice_get managed k) t old added

    by : (e : Bool) → (e ≡ true → p ≡ k) → ((a && g) || (e && has_set sets t)) ≡ ((a || e) && g)
    by true same =
        let here = given t ∙ ap (λ (o : Option ManagedSubscription). gives_at o t old added) (sym at ∙ ap (slice_get managed) (same refl)) in
        ap (λ (b : Bool). (a && g) || b) here ∙ joined a g
    by false same = as_before a g

-- lists that ascend, where all of the first are below all of the second
ascending_append : {K : Type 0} (cmp : K → K → Ordering) (xs ys : List K) → IsStrictlySortedBy cmp xs → IsStrictlySortedBy cmp ys
    → All (λ x. All (λ y. cmp x y ≡ Less) ys) xs → IsStrictlySortedBy cmp (xs ++ ys)
unfolding IsStrictlySortedBy
ascending_append cmp [] ys up later below = later
ascending_append {K} cmp (x ∷ xs) ys up later below = (
  recursion_from_All (λ y. cmp x y ≡ Less) (xs ++ ys)
      (All-append (λ y. cmp x y ≡ Less) xs ys (All-from_recursion (λ y. cmp x y ≡ Less) xs up.0)
      (All-head (λ (z : K). All (λ y. cmp z y ≡ Less) ys) x xs below)),
  ascending_append cmp xs ys up.1 later (All-tail (λ (z : K). All (λ y. cmp z y ≡ Less) ys) x xs below),
)

level : (p : ℕ) → nat_cmp p p ≡ Equal
level p = grind arith

lower : (q p : ℕ) → q < p → nat_cmp q p ≡ Less
lower q p l = grind (arith, l)

-- the instances at one place ascend as their sets do
at_place_ascending : (p : ℕ) (sets : List (List (List ℕ))) → IsStrictlySortedBy tag_set_cmp sets → IsStrictlySortedBy instance_cmp (map (instance_at p) sets)
unfolding IsStrictlySortedBy
at_place_ascending p [] up = up
at_place_ascending p (s ∷ ss) up = (
  recursion_from_All (λ y. instance_cmp (instance_at p s) y ≡ Less) (map (instance_at p) ss)
      (All-map (λ y. instance_cmp (instance_at p s) y ≡ Less) (instance_at p) ss
      (All-weaker (λ u. tag_set_cmp s u ≡ Less) (λ u. instance_cmp (instance_at p s) (instance_at p u) ≡ Less) (λ u h. rw (level p) h) ss
      (All-from_recursion (λ u. tag_set_cmp s u ≡ Less) ss up.0))),
  at_place_ascending p ss up.1,
)

-- each place so far is below the next
place_before : (places : List ℕ) (i d q : ℕ) → IsStrictlySortedBy nat_cmp places → i < length places → has_place (take i places) q ≡ true
    → q < get_or places i d
place_before places i d q up l h =
    let a = Any-from_list_any (λ j. j == q) (take i places) h in
    let short = length-take i places in
    let first : a.0 < i = (let below = a.2 in omega (arith, below, short)) in
    let within : a.0 < length places = omega (arith, first, l) in
    let is : get_or places a.0 d ≡ q = get_or_default places a.0 d a.1 within ∙ sym (get_or-take i places a.0 a.1 first) ∙ a.3 ∙ eqb-true a.1 q a.4 in
    let less = below_from_sorted places a.0 i d up first l in
    omega (arith, is, less)

module _ (places : List ℕ) (i d : ℕ) (found : List Instance) (sets : List (List (List ℕ))) (l : i < length places)
    (among : All (λ x. has_place (take i places) x.place ≡ true) found) where
  pub more_ascending : IsStrictlySortedBy nat_cmp places → IsStrictlySortedBy instance_cmp found → IsStrictlySortedBy tag_set_cmp sets
      → IsStrictlySortedBy instance_cmp (found ++ map (instance_at (get_or places i d)) sets)
  more_ascending up before later =
      let p = get_or places i d in
      ascending_append instance_cmp found (map (instance_at p) sets) before (at_place_ascending p sets later)
      (All-weaker (λ (x : Instance). has_place (take i places) x.place ≡ true)
      (λ (x : Instance). All (λ y. instance_cmp x y ≡ Less) (map (instance_at p) sets))
      (λ x h. All-map (λ y. instance_cmp x y ≡ Less) (instance_at p) sets (λ k e m. rw (lower x.place p (place_before places i d x.place up l h)) refl))
      found among)

  pub more_among : All (λ x. has_place (take (i + 1) places) x.place ≡ true) (found ++ map (instance_at (get_or places i d)) sets)
  more_among =
      let p = get_or places i d in
      All-append (λ (x : Instance). has_place (take (i + 1) places) x.place ≡ true) found (map (instance_at p) sets)
      (All-weaker (λ (x : Instance). has_place (take i places) x.place ≡ true) (λ (x : Instance). has_place (take (i + 1) places) x.place ≡ true)
      (λ x h. list_any_kept (λ j. j == x.place) places i h) found among)
      (All-map (λ (x : Instance). has_place (take (i + 1) places) x.place ≡ true) (instance_at p) sets
      (λ k e m. list_any_more (λ j. j == p) places i d l ∙ or_right (has_place (take i places) p) (p == p) (eq-eqb p p refl)))
