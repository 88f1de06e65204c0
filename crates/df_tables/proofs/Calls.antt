-- Which instances the tables call, by their names.
use Rattle.df_tables.proofs.Names.{◌≡◌, ℕ, ◌≤◌, ◌<◌, ◌==◌, ◌||◌, Bool, true, false, if◌then◌else◌, List, [], ◌∷◌, ◌++◌, Option, Some, None, get_or, length, nat_eq, option_map, slice_get, All, refl, ap, sym, subst, ◌∙◌, arith, eq-eqb, is_none, pointwise, flat_map, list_any, position_or_len, option_or, nat_cmp, ordering_then, Ordering, Less, Equal, and_from, and_parts, both_ways, eqb-true, false_from_ne_true, ne_eqb, append-nil, All-append, All-cons, All-from_recursion, All-head, All-nil, All-tail, find_at, list_any_none, bytes_eq-Decides, Pair, instance_cmp, AreNumbered, has_name, is_named_at, is_of, kept_in, Instance, ManagedSubscription, record_of, Part, readable_at, same, Fixed, EventName, UnitName, Managed, Root, same_name-exact, same_name_decides, instance_row, birth_of, births_by, pair_at, pair_of, pairs_by, given_to, pairs_of, place_of, Unit, filter-append}
use Rattle.std.specs.List.{find}
use Rattle.std.specs.List.Sorted.{IsStrictlySortedBy}
use Rattle.std.proofs.lemmas.Cmp.{nat_cmp_total, tied_itself}
use Rattle.df_instances.specs.Marks as marks
use Rattle.df_instances.proofs.Named.{none_passes}
use Rattle.df_label.specs.TagSet.{tag_set_cmp}
use Rattle.df_label.proofs.TagSetFacts.{tag_set_cmp_exact}
use Rattle.df_tables.specs.Table.{find as row_of}
use Rattle.df_tables.proofs.Fresh.{AreDistinct, AreOthers, AreUnplaced}
use Rattle.df_tables.proofs.Newborn.{find-append}
use Rattle.df_tables.proofs.Opened.{within}
use Rattle.df_tables.proofs.Seats.{apart}

-- what is found passes
found_passes : {X : Type 0} (test : X → Bool) (xs : List X) (x : X) → find test xs ≡ Some x → test x ≡ true
found_passes test [] x e = absurd (let z : ⊥ = cc in z)
found_passes {X} test (y ∷ ys) x e = by (test y) refl e (λ f. found_passes test ys x f)
  where
    by : (b : Bool) → test y ≡ b → (if b then Some y else find test ys) ≡ Some x → (find test ys ≡ Some x → test x ≡ true) → test x ≡ true
    by true t f later = let same : y ≡ x = cc in subst (λ (z : X). test z ≡ true) same t
    by false t f later = later f

-- where at most one of a list passes a test, what all give is what that one gives
one_of : {X Y : Type 0} (c : X → X → Ordering) (test : X → Bool) (f : X → List Y) (y : List Y) (xs : List X) → IsStrictlySortedBy c xs → ((x w : X) → test x ≡ true → test w ≡ true → c x w ≡ Less → ⊥) → ((x : X) → f x ≡ (if test x then y else [])) →
    flat_map f xs ≡ (if list_any test xs then y else [])
unfolding IsStrictlySortedBy
one_of c test f y [] up once is = refl
one_of {X} {Y} c test f y (x ∷ xs) up once is = by (one_of c test f y xs up.1 once is) (test x) refl
  where
    none : test x ≡ true → list_any test xs ≡ false
    none e = list_any_none test xs (λ i d l. false_from_ne_true (test (get_or xs i d)) (λ g. once x (get_or xs i d) e g (All-from_recursion (λ w. c x w ≡ Less) xs up.0 i d l)))

    gives : (b : Bool) → test x ≡ b → f x ≡ (if b then y else [])
    gives b e = is x ∙ ap (λ (t : Bool). if t then y else []) e

    by : flat_map f xs ≡ (if list_any test xs then y else []) → (b : Bool) → test x ≡ b → f x ++ flat_map f xs ≡ (if (b || list_any test xs) then y else [])
    by rest true e =
        ap (λ (l : List Y). f x ++ l) (rest ∙ ap (λ (t : Bool). if t then y else []) (none e))
        ∙ append-nil (f x) ∙ gives true e
    by rest false e = ap (λ (l : List Y). l ++ flat_map f xs) (gives false e) ∙ rest

pairs_of-flat : {X : Type 0} (q : ℕ) (g : X → List Pair) (xs : List X) → pairs_of q (flat_map g xs) ≡ flat_map (λ x. pairs_of q (g x)) xs
pairs_of-flat q g [] = refl
pairs_of-flat q g (x ∷ xs) = filter-append (λ p. p.0 == q) (g x) (flat_map g xs) ∙ ap (λ (l : List Pair). pairs_of q (g x) ++ l) (pairs_of-flat q g xs)

-- each pair is of a row

abbrev pub IsIn : List Unit → Pair → Type 0
IsIn us p = p.0 < length us

pub pairs_within : (us : List Unit) (managed : List ManagedSubscription) (handed : List (List ℕ)) (j : ℕ) (xs : List Instance) → All (IsIn us) (pairs_by us managed handed j xs)
pairs_within us managed handed j [] = All-nil (IsIn us)
pairs_within us managed handed j (x ∷ xs) =
    All-append (IsIn us) (pair_of us handed j (slice_get managed x.place) x.s) (pairs_by us managed handed j xs) (by (slice_get managed x.place)) (pairs_within us managed handed j xs)
  where
    one : (p i : ℕ) → p < length us → (b : Bool) → All (IsIn us) (if b then [] else (p, i) ∷ [])
    one p i h true = All-nil (IsIn us)
    one p i h false = All-cons (IsIn us) (p, i) [] h (All-nil (IsIn us))

    cases : (n : UnitName) (i : ℕ) (o : Option ℕ) → place_of n us ≡ o → All (IsIn us) (pair_at handed j i o)
    cases n i None e = All-nil (IsIn us)
    cases n i (Some p) e = one p i (within (λ (u : Unit). same u.local.unit n) us p e) (marks.was_handed handed j p)

    by : (w : Option ManagedSubscription) → All (IsIn us) (pair_of us handed j w x.s)
    by None = All-nil (IsIn us)
    by (Some m) = cases (Managed m.owner m.sub x.s) m.sub (place_of (Managed m.owner m.sub x.s) us) refl

-- an instance's name has all of it

abbrev owner_in : UnitName → List ℕ
owner_in (Root p) = p
owner_in (Managed o n t) = o

abbrev number_in : UnitName → ℕ
number_in (Root p) = 0
number_in (Managed o n t) = n

abbrev tags_in : UnitName → List (List ℕ)
tags_in (Root p) = []
tags_in (Managed o n t) = t

module _ (managed : List ManagedSubscription) (numbered : AreNumbered managed) where
  abbrev pub named : UnitName → Instance → Bool
  named n x = is_named_at (slice_get managed x.place) x.s n

  named_some : (n : UnitName) (x : Instance) → named n x ≡ true → (m : ManagedSubscription) × (slice_get managed x.place ≡ Some m) × (Managed m.owner m.sub x.s ≡ n)
  named_some n x = by (slice_get managed x.place) refl
    where
      by : (w : Option ManagedSubscription) → slice_get managed x.place ≡ w → is_named_at w x.s n ≡ true → (m : ManagedSubscription) × (slice_get managed x.place ≡ Some m) × (Managed m.owner m.sub x.s ≡ n)
      by None e h = absurd (let z : ⊥ = cc in z)
      by (Some m) e h = (m, e, same_name-exact (Managed m.owner m.sub x.s) n h)

  -- one name is that of one instance
  once : (n : UnitName) (x w : Instance) → named n x ≡ true → named n w ≡ true → instance_cmp x w ≡ Less → ⊥
  unfolding named_some
  once n x w here there less =
      let a = named_some n x here in
      let b = named_some n w there in
      let names : Managed a.0.owner a.0.sub x.s ≡ Managed b.0.owner b.0.sub w.s = a.2 ∙ sym b.2 in
      let place : x.place ≡ w.place = numbered x.place w.place a.0 b.0 a.1 b.1 (ap owner_in names) (ap number_in names) in
      let tie : instance_cmp x w ≡ Equal =
      ap (λ (k : ℕ). ordering_then (nat_cmp k w.place) (tag_set_cmp x.s w.s)) place
      ∙ ap (λ (r : Ordering). ordering_then r (tag_set_cmp x.s w.s)) (tied_itself nat_cmp_total w.place)
      ∙ ap (λ (t : List (List ℕ)). tag_set_cmp t w.s) (ap tags_in names)
      ∙ tied_itself tag_set_cmp_exact.total w.s in
      (let z : Less ≡ Equal = sym less ∙ tie in (let v : ⊥ = cc in v))

  -- what an owner's subscription of a number keeps, by its place
  kept_at : (k : ℕ) (m : ManagedSubscription) → slice_get managed k ≡ Some m → kept_in managed m.owner m.sub ≡ Some (record_of m.fixed)
  kept_at k m at = by (find (is_of m.owner m.sub) managed) refl
    where
      mine : is_of m.owner m.sub m ≡ true
      mine = and_from (pointwise nat_eq m.owner m.owner) (m.sub == m.sub) ((bytes_eq-Decides m.owner m.owner).1 refl) (eq-eqb m.sub m.sub refl)

      by : (f : Option ManagedSubscription) → find (is_of m.owner m.sub) managed ≡ f → option_map (λ (v : ManagedSubscription). record_of v.fixed) f ≡ Some (record_of m.fixed)
      by None e = absurd (both_ways (is_of m.owner m.sub m) (none_passes (is_of m.owner m.sub) managed k m e at) mine)
      by (Some v) e =
          let there : slice_get managed (position_or_len (is_of m.owner m.sub) managed) ≡ Some v = sym (find_at (is_of m.owner m.sub) managed) ∙ e in
          let is = named_of v (found_passes (is_of m.owner m.sub) managed v e) in
          let place = numbered (position_or_len (is_of m.owner m.sub) managed) k v m there at is.0 is.1 in
          let one : Some v ≡ Some m = sym there ∙ ap (slice_get managed) place ∙ at in
          ap (option_map (λ (v : ManagedSubscription). record_of v.fixed)) one
        where
          named_of : (v : ManagedSubscription) → is_of m.owner m.sub v ≡ true → (v.owner ≡ m.owner) × (v.sub ≡ m.sub)
          named_of v h =
              let both = and_parts (pointwise nat_eq v.owner m.owner) (v.sub == m.sub) h in
              ((bytes_eq-Decides v.owner m.owner).0 both.0, eqb-true v.sub m.sub both.1)

  module _ (us : List Unit) (handed : List (List ℕ)) (j : ℕ) where
    -- the pair of a unit at a place that is an instance which the event wasn't handed to
    abbrev pub fresh_pair : UnitName → ℕ → List Pair
    fresh_pair (Root path) q = []
    fresh_pair (Managed o i t) q = if marks.was_handed handed j q then [] else (q, i) ∷ []

    pairs_at : (n : UnitName) (q : ℕ) → place_of n us ≡ Some q → (x : Instance) → pairs_of q (pair_of us handed j (slice_get managed x.place) x.s) ≡ (if named n x then fresh_pair n q else [])
    pairs_at n q place x = by (slice_get managed x.place)
      where
        here : (i : ℕ) (b : Bool) → pairs_of q (if b then [] else (q, i) ∷ []) ≡ (if b then [] else (q, i) ∷ [])
        here i true = refl
        here i false = ap (λ (b : Bool). if b then (let p : Pair = (q, i) in p) ∷ [] else []) (eq-eqb q q refl)

        elsewhere : (p i : ℕ) (b : Bool) → (p == q) ≡ false → pairs_of q (if b then [] else (p, i) ∷ []) ≡ []
        elsewhere p i true e = refl
        elsewhere p i false e = ap (λ (b : Bool). if b then (let r : Pair = (p, i) in r) ∷ [] else []) e

        other : (a : UnitName) (i : ℕ) → same a n ≡ false → (w : Option ℕ) → place_of a us ≡ w → pairs_of q (pair_at handed j i w) ≡ []
        other a i e None g = refl
        other a i e (Some p) g = elsewhere p i (marks.was_handed handed j p) (apart us a n p q g place e)

        by : (w : Option ManagedSubscription) → pairs_of q (pair_of us handed j w x.s) ≡ (if is_named_at w x.s n then fresh_pair n q else [])
        by None = refl
        by (Some m) = cases (same (Managed m.owner m.sub x.s) n) refl
          where
            cases : (b : Bool) → same (Managed m.owner m.sub x.s) n ≡ b → pairs_of q (pair_at handed j m.sub (place_of (Managed m.owner m.sub x.s) us)) ≡ (if b then fresh_pair n q else [])
            cases true e =
                let is : Managed m.owner m.sub x.s ≡ n = same_name-exact (Managed m.owner m.sub x.s) n e in
                let there : place_of (Managed m.owner m.sub x.s) us ≡ Some q = ap (λ (v : UnitName). place_of v us) is ∙ place in
                ap (λ (w : Option ℕ). pairs_of q (pair_at handed j m.sub w)) there
                ∙ here m.sub (marks.was_handed handed j q)
                ∙ ap (λ (v : UnitName). fresh_pair v q) is
            cases false e = other (Managed m.owner m.sub x.s) m.sub e (place_of (Managed m.owner m.sub x.s) us) refl

    -- who has no row has no pair
    pub pairs_far : (xs : List Instance) (q : ℕ) → length us ≤ q → pairs_of q (pairs_by us managed handed j xs) ≡ []
    pairs_far [] q far = refl
    pairs_far (x ∷ xs) q far =
        filter-append (λ p. p.0 == q) (pair_of us handed j (slice_get managed x.place) x.s) (pairs_by us managed handed j xs)
        ∙ ap (λ (l : List Pair). l ++ pairs_of q (pairs_by us managed handed j xs)) (by (slice_get managed x.place))
        ∙ pairs_far xs q far
      where
        elsewhere : (p i : ℕ) (b : Bool) → (p == q) ≡ false → pairs_of q (if b then [] else (p, i) ∷ []) ≡ []
        elsewhere p i true e = refl
        elsewhere p i false e = ap (λ (b : Bool). if b then (let r : Pair = (p, i) in r) ∷ [] else []) e

        cases : (n : UnitName) (i : ℕ) (o : Option ℕ) → place_of n us ≡ o → pairs_of q (pair_at handed j i o) ≡ []
        cases n i None e = refl
        cases n i (Some p) e =
            let near = within (λ (u : Unit). same u.local.unit n) us p e in
            elsewhere p i (marks.was_handed handed j p) (ne_eqb p q (λ z. omega (arith, near, far, z)))

        by : (w : Option ManagedSubscription) → pairs_of q (pair_of us handed j w x.s) ≡ []
        by None = refl
        by (Some m) = cases (Managed m.owner m.sub x.s) m.sub (place_of (Managed m.owner m.sub x.s) us) refl

    pub pairs_are : (xs : List Instance) → IsStrictlySortedBy instance_cmp xs → (n : UnitName) (q : ℕ) → place_of n us ≡ Some q → pairs_of q (pairs_by us managed handed j xs) ≡ (if has_name managed xs n then fresh_pair n q else [])
    pairs_are xs up n q place =
        pairs_of-flat q (λ (x : Instance). pair_of us handed j (slice_get managed x.place) x.s) xs
        ∙ one_of instance_cmp (named n) (λ (x : Instance). pairs_of q (pair_of us handed j (slice_get managed x.place) x.s)) (fresh_pair n q) xs up (once n) (pairs_at n q place)

  module _ (us : List Unit) (event : EventName) (after : List Part) where
    -- the row of an instance, where it is called, by what its subscription keeps
    abbrev pub row_by : UnitName → Option Fixed → Option Unit
    row_by (Managed o i t) (Some f) = Some (instance_row o i f t (given_to event after (readable_at f t) (0, i)))
    row_by _ _ = None

    abbrev pub kept_of : UnitName → Option Fixed
    kept_of (Root path) = None
    kept_of (Managed o i t) = kept_in managed o i

    -- the row that is made for a unit that has none
    pub born_row : (xs : List Instance) (n : UnitName) → place_of n us ≡ None → row_of n (births_by us managed event after xs) ≡ (if list_any (named n) xs then row_by n (kept_of n) else None)
    born_row [] n none = refl
    born_row (x ∷ xs) n none =
        find-append n (birth_of us event after (slice_get managed x.place) x.s) (births_by us managed event after xs)
        ∙ ap (option_or (row_of n (birth_of us event after (slice_get managed x.place) x.s))) (born_row xs n none)
        ∙ by (slice_get managed x.place) refl
      where
        rest : Option Unit
        rest = if list_any (named n) xs then row_by n (kept_of n) else None

        chosen : (b : Bool) (o : Option Unit) → (if b then o else None) ≡ option_or None (if b then o else None)
        chosen b o = refl

        either : (b : Bool) (u : Unit) → option_or (Some u) (if b then Some u else None) ≡ Some u
        either b u = refl

        by : (w : Option ManagedSubscription) → slice_get managed x.place ≡ w → option_or (row_of n (birth_of us event after w x.s)) rest ≡ (if (is_named_at w x.s n || list_any (named n) xs) then row_by n (kept_of n) else None)
        by None g = refl
        by (Some m) g = cases (same (Managed m.owner m.sub x.s) n) refl
          where
            it : Unit
            it = instance_row m.owner m.sub (record_of m.fixed) x.s (given_to event after (readable_at (record_of m.fixed) x.s) (0, m.sub))

            -- a row of another unit isn't found
            unfound : (c : Bool) → same (Managed m.owner m.sub x.s) n ≡ false → row_of n (if c then it ∷ [] else []) ≡ None
            unfound true e = ap (λ (b : Bool). if b then Some it else None) e
            unfound false e = refl

            cases : (b : Bool) → same (Managed m.owner m.sub x.s) n ≡ b → option_or (row_of n (birth_of us event after (Some m) x.s)) rest ≡ (if (b || list_any (named n) xs) then row_by n (kept_of n) else None)
            cases true e =
                let is : Managed m.owner m.sub x.s ≡ n = same_name-exact (Managed m.owner m.sub x.s) n e in
                let gone : place_of (Managed m.owner m.sub x.s) us ≡ None = ap (λ (v : UnitName). place_of v us) is ∙ none in
                let found : row_of n (birth_of us event after (Some m) x.s) ≡ Some it =
                ap (λ (w : Option ℕ). row_of n (if is_none w then it ∷ [] else [])) gone ∙ ap (λ (b : Bool). if b then Some it else None) e in
                ap (λ (o : Option Unit). option_or o rest) found
                ∙ sym (ap (row_by (Managed m.owner m.sub x.s)) (kept_at x.place m g))
                ∙ ap (λ (v : UnitName). row_by v (kept_of v)) is
            cases false e = ap (λ (o : Option Unit). option_or o rest) (unfound (is_none (place_of (Managed m.owner m.sub x.s) us)) e)

    -- the row of an instance of a subscription
    abbrev pub made : ManagedSubscription → List (List ℕ) → Unit
    made m t = instance_row m.owner m.sub (record_of m.fixed) t (given_to event after (readable_at (record_of m.fixed) t) (0, m.sub))

    -- none of them has a row yet
    pub births_unplaced : (xs : List Instance) → AreUnplaced us (births_by us managed event after xs)
    births_unplaced [] = tt
    births_unplaced (x ∷ xs) = by (births_unplaced xs) (slice_get managed x.place)
      where
        cases : AreUnplaced us (births_by us managed event after xs) → (m : ManagedSubscription) (o : Option ℕ) → place_of (Managed m.owner m.sub x.s) us ≡ o → AreUnplaced us ((if is_none o then made m x.s ∷ [] else []) ++ births_by us managed event after xs)
        cases rest m None e = (e, rest)
        cases rest m (Some k) e = rest

        by : AreUnplaced us (births_by us managed event after xs) → (w : Option ManagedSubscription) → AreUnplaced us (birth_of us event after w x.s ++ births_by us managed event after xs)
        by rest None = rest
        by rest (Some m) = cases rest m (place_of (Managed m.owner m.sub x.s) us) refl

    births_others : (n : UnitName) (xs : List Instance) → All (λ w. named n w ≡ true → ⊥) xs → AreOthers n (births_by us managed event after xs)
    births_others n [] never = tt
    births_others n (x ∷ xs) never = by (births_others n xs (All-tail (λ w. named n w ≡ true → ⊥) x xs never)) (slice_get managed x.place) refl
      where
        cases : AreOthers n (births_by us managed event after xs) → (m : ManagedSubscription) → slice_get managed x.place ≡ Some m → (b : Bool) → AreOthers n ((if b then made m x.s ∷ [] else []) ++ births_by us managed event after xs)
        cases rest m g true = (
          false_from_ne_true (same (Managed m.owner m.sub x.s) n) (λ e. All-head (λ w. named n w ≡ true → ⊥) x xs never (ap (λ (w : Option ManagedSubscription). is_named_at w x.s n) g ∙ e)),
          rest,
        )
        cases rest m g false = rest

        by : AreOthers n (births_by us managed event after xs) → (w : Option ManagedSubscription) → slice_get managed x.place ≡ w → AreOthers n (birth_of us event after w x.s ++ births_by us managed event after xs)
        by rest None g = rest
        by rest (Some m) g = cases rest m g (is_none (place_of (Managed m.owner m.sub x.s) us))

    -- each is another
    pub births_distinct : (xs : List Instance) → IsStrictlySortedBy instance_cmp xs → AreDistinct (births_by us managed event after xs)
    unfolding IsStrictlySortedBy
    births_distinct [] up = tt
    births_distinct (x ∷ xs) up = by (births_distinct xs up.1) (slice_get managed x.place) refl
      where
        cases : AreDistinct (births_by us managed event after xs) → (m : ManagedSubscription) → slice_get managed x.place ≡ Some m → (b : Bool) → AreDistinct ((if b then made m x.s ∷ [] else []) ++ births_by us managed event after xs)
        cases rest m g true =
            let n : UnitName = Managed m.owner m.sub x.s in
            let mine : named n x ≡ true = ap (λ (w : Option ManagedSubscription). is_named_at w x.s n) g ∙ (same_name_decides n n).1 refl in
            (births_others n xs (λ i d l h. once n x (get_or xs i d) mine h (All-from_recursion (λ w. instance_cmp x w ≡ Less) xs up.0 i d l)), rest)
        cases rest m g false = rest

        by : AreDistinct (births_by us managed event after xs) → (w : Option ManagedSubscription) → slice_get managed x.place ≡ w → AreDistinct (birth_of us event after w x.s ++ births_by us managed event after xs)
        by rest None g = rest
        by rest (Some m) g = cases rest m g (is_none (place_of (Managed m.owner m.sub x.s) us))
