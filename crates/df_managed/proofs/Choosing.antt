-- Choosing a part for one clause more, over lists of sets of which only the elements count.
use Rattle.std.proofs.Common.{◌≡◌, Bool, true, false, ◌&&◌, ◌||◌, cond, List, [], ◌∷◌, ◌++◌, map, refl, ap, sym, ◌∙◌}
use Rattle.std.specs.List.{dedup, dedup_from, filter, list_any}
use Rattle.std.proofs.lemmas.List.Folds.{list_any-append}
use Rattle.df_filter.specs.declared.clause.Clause.{Clause}
use Rattle.df_label.specs.TagSet.{union}
use Rattle.df_part.specs.declared.part.Part.{Part}
use Rattle.df_rules.specs.Choices.{fits, gives}
use Rattle.df_managed.specs.Contaminations.{has_set}
use Rattle.df_managed.specs.code.Chosen.{HaveSame, Tags, comes_to, joins, secrets_of}

or_again : (a b : Bool) → (a || (a || b)) ≡ (a || b)
or_again true b = refl
or_again false b = refl

or_false : (a : Bool) → (a || false) ≡ a
or_false true = refl
or_false false = refl

-- a repeated element counts once
any_dedup_from : {X : Type 0} (same : X → X → Bool) → ((x y : X) → same x y ≡ true → x ≡ y) → (p : X → Bool) (k : X) (xs : List X)
    → list_any p (dedup_from same k xs) ≡ (p k || list_any p xs)
any_dedup_from same exact p k [] = refl
any_dedup_from {X = X} same exact p k (x ∷ xs) = by (same x k) (exact x k) (any_dedup_from same exact p k xs) (any_dedup_from same exact p x xs)
  where
    by : (b : Bool) → (b ≡ true → x ≡ k) → list_any p (dedup_from same k xs) ≡ (p k || list_any p xs)
        → list_any p (dedup_from same x xs) ≡ (p x || list_any p xs)
        → list_any p (cond b (dedup_from same k xs) (k ∷ dedup_from same x xs)) ≡ (p k || (p x || list_any p xs))
    by true e same_rest other = same_rest ∙ sym (or_again (p k) (list_any p xs)) ∙ ap (λ (y : X). p k || (p y || list_any p xs)) (sym (e refl))
    by false e same_rest other = ap (λ (b : Bool). p k || b) other

pub any_dedup : {X : Type 0} (same : X → X → Bool) → ((x y : X) → same x y ≡ true → x ≡ y) → (p : X → Bool) (xs : List X)
    → list_any p (dedup same xs) ≡ list_any p xs
any_dedup same exact p [] = refl
any_dedup same exact p (x ∷ xs) = any_dedup_from same exact p x xs

any_alike : {X : Type 0} (p q : X → Bool) → ((x : X) → p x ≡ q x) → (xs : List X) → list_any p xs ≡ list_any q xs
any_alike p q e [] = refl
any_alike p q e (x ∷ xs) = ap (λ (b : Bool). b || list_any p xs) (e x) ∙ ap (λ (b : Bool). q x || b) (any_alike p q e xs)

any_never : {X : Type 0} (xs : List X) → list_any (λ x. false) xs ≡ false
any_never [] = refl
any_never (x ∷ xs) = any_never xs

any_map : {X Y : Type 0} (p : Y → Bool) (f : X → Y) (xs : List X) → list_any p (map f xs) ≡ list_any (λ x. p (f x)) xs
any_map p f [] = refl
any_map p f (x ∷ xs) = ap (λ (b : Bool). p (f x) || b) (any_map p f xs)

any_filter : {X : Type 0} (p q : X → Bool) (xs : List X) → list_any p (filter q xs) ≡ list_any (λ x. q x && p x) xs
any_filter p q [] = refl
any_filter p q (x ∷ xs) = by (q x) (any_filter p q xs)
  where
    by : (b : Bool) → list_any p (filter q xs) ≡ list_any (λ x. q x && p x) xs
        → list_any p (cond b (x ∷ filter q xs) (filter q xs)) ≡ ((b && p x) || list_any (λ x. q x && p x) xs)
    by true e = ap (λ (b : Bool). p x || b) e
    by false e = e

any_or : {X : Type 0} (p q : X → Bool) (xs : List X) → list_any (λ x. p x || q x) xs ≡ (list_any p xs || list_any q xs)
any_or p q [] = refl
any_or p q (x ∷ xs) = ap (λ (b : Bool). (p x || q x) || b) (any_or p q xs) ∙ regrouped (p x) (q x) (list_any p xs) (list_any q xs)
  where
    regrouped : (a b c d : Bool) → ((a || b) || (c || d)) ≡ ((a || c) || (b || d))
    regrouped true b c d = refl
    regrouped false true true d = refl
    regrouped false true false d = refl
    regrouped false false c d = refl

any_joins : (p : Tags → Bool) (xs ys : List Tags) → list_any p (joins xs ys) ≡ list_any (λ x. list_any (λ y. p (union x y)) ys) xs
any_joins p [] ys = refl
any_joins p (x ∷ xs) ys =
    list_any-append p (map (union x) ys) (joins xs ys)
    ∙ ap (λ (b : Bool). b || list_any p (joins xs ys)) (any_map p (union x) ys)
    ∙ ap (λ (b : Bool). list_any (λ y. p (union x y)) ys || b) (any_joins p xs ys)

-- whether one of the parts that serve the clause brings the set to one that passes
abbrev is_brought : Tags → Clause → List Part → (Tags → Bool) → Tags → Bool
is_brought integrity c parts p s = list_any (λ part. fits integrity c part && p (union s part.label.s)) parts

any_secrets : (integrity : Tags) (c : Clause) (parts : List Part) (p : Tags → Bool) (s : Tags) (sets : List Tags)
    → HaveSame sets (secrets_of integrity c parts) → list_any (λ y. p (union s y)) sets ≡ is_brought integrity c parts p s
any_secrets integrity c parts p s sets same =
    same (λ y. p (union s y))
    ∙ any_map (λ y. p (union s y)) (λ (part : Part). part.label.s) (filter (fits integrity c) parts)
    ∙ any_filter (λ (part : Part). p (union s part.label.s)) (fits integrity c) parts

-- what is joined with the secrets of the parts passes where some part brings it there
any_brought : (integrity : Tags) (c : Clause) (parts : List Part) (p : Tags → Bool) (xs sets : List Tags)
    → HaveSame sets (secrets_of integrity c parts) → list_any p (joins xs sets) ≡ list_any (is_brought integrity c parts p) xs
any_brought integrity c parts p xs sets same =
    any_joins p xs sets
    ∙ any_alike (λ x. list_any (λ y. p (union x y)) sets) (is_brought integrity c parts p) (λ x. any_secrets integrity c parts p x sets same) xs

regrouped : (a b c d : Bool) → (a || ((b || c) || d)) ≡ ((a || b) || (c || d))
regrouped true b c d = refl
regrouped false true c d = refl
regrouped false false c d = refl

-- choices go on by one part more
pub goes_on : (c : Clause) (rest : List Clause) (integrity t : Tags) (old added : List Part) (stale fresh kept new stale_next fresh_next : List Tags)
    → HaveSame kept (secrets_of integrity c old) → HaveSame new (secrets_of integrity c added)
    → HaveSame stale_next (joins stale kept) → HaveSame fresh_next ((joins stale new ++ joins fresh kept) ++ joins fresh new)
    → comes_to rest integrity t old added stale_next fresh_next ≡ comes_to (c ∷ rest) integrity t old added stale fresh
goes_on c rest integrity t old added stale fresh kept new stale_next fresh_next of_old of_added is_stale is_fresh =
    let before : Tags → Bool = λ s. gives rest integrity t s false old added in
    let after : Tags → Bool = λ s. gives rest integrity t s true old added in
    let old_before : Tags → Bool = is_brought integrity c old before in
    let added_after : Tags → Bool = is_brought integrity c added after in
    let old_after : Tags → Bool = is_brought integrity c old after in
    let stale_added = any_brought integrity c added after stale new of_added in
    let fresh_old = any_brought integrity c old after fresh kept of_old in
    let fresh_added = any_brought integrity c added after fresh new of_added in
    let first : list_any before stale_next ≡ list_any old_before stale =
    is_stale before ∙ any_brought integrity c old before stale kept of_old in
    let second : list_any after fresh_next ≡ ((list_any added_after stale || list_any old_after fresh) || list_any added_after fresh) =
    is_fresh after
    ∙ list_any-append after (joins stale new ++ joins fresh kept) (joins fresh new)
    ∙ ap (λ (b : Bool). b || list_any after (joins fresh new)) (list_any-append after (joins stale new) (joins fresh kept))
    ∙ (λ i. (stale_added i || fresh_old i) || fresh_added i) in
    (λ i. first i || second i)
    ∙ regrouped (list_any old_before stale) (list_any added_after stale) (list_any old_after fresh) (list_any added_after fresh)
    ∙ (λ i. sym (any_or old_before added_after stale) i || sym (any_or old_after added_after fresh) i)

-- before any clause, only the base was come to
pub begun : (clauses : List Clause) (integrity t base : Tags) (old added : List Part)
    → comes_to clauses integrity t old added (base ∷ []) [] ≡ gives clauses integrity t base false old added
begun clauses integrity t base old added = or_false (gives clauses integrity t base false old added || false)
    ∙ or_false (gives clauses integrity t base false old added)

-- after all clauses, those with an added part are given
pub ended : (integrity t : Tags) (old added : List Part) (stale fresh : List Tags) → comes_to [] integrity t old added stale fresh ≡ has_set fresh t
ended integrity t old added stale fresh = ap (λ (b : Bool). b || has_set fresh t) (any_never stale)
