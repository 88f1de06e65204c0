-- What is readable at a label after a commit follows from what was readable there before, and so do the choices within it.
use Rattle.df_rules.proofs.Names.{◌≡◌, ℕ, List, [], ◌∷◌, ◌++◌, Bool, true, false, not, ◌&&◌, ◌||◌, refl, sym, ◌∙◌, ap, subst, cond, inl, inr, filter, list_any, filter-append, Clause, flows_to, label_eq, tag_set_eq, is_subset, union, Label, apply, is_at, is_deleted, spared, cut, Spot, Part, serves, fits, gives, cut_spots, flows_to-from_parts, flows_to-trans, label_eq-Decides, tag_set_eq-Decides, is_subset-refl, is_subset-trans, is_subset-union_left, is_subset-union_right, and_parts, and_right, or_cases}
use Rattle.std.specs.Str.{bytes_eq}

-- a stronger test after a weaker one
pub filter_filter : {X : Type 0} (p q : X → Bool) → ((x : X) → p x ≡ true → q x ≡ true) → (xs : List X) → filter p (filter q xs) ≡ filter p xs
filter_filter p q h [] = refl
filter_filter {X} p q h (x ∷ xs) = go (p x) refl (q x) refl (filter_filter p q h xs)
  where
    go : (a : Bool) → p x ≡ a → (b : Bool) → q x ≡ b → filter p (filter q xs) ≡ filter p xs → filter p (cond b (x ∷ filter q xs) (filter q xs)) ≡ cond a (x ∷ filter p xs) (filter p xs)
    go true e true f ih = rw e (ap (λ (r : List X). x ∷ r) ih)
    go true e false f ih = let g = h x e in cc
    go false e true f ih = rw e ih
    go false e false f ih = ih

pub cut_cut : (a l : Label) → flows_to a l ≡ true → (parts : List Part) → cut a (cut l parts) ≡ cut a parts
cut_cut a l h = filter_filter (λ p. flows_to p.label a) (λ p. flows_to p.label l) (λ p k. flows_to-trans p.label a l k h)

pub cut_again : (l : Label) (parts : List Part) → cut l (cut l parts) ≡ cut l parts
cut_again l = filter_filter (λ p. flows_to p.label l) (λ p. flows_to p.label l) (λ p k. k)

pub cut_spots_again : (l : Label) (spots : List Spot) → cut_spots l (cut_spots l spots) ≡ cut_spots l spots
cut_spots_again l = filter_filter (λ d. flows_to d.label l) (λ d. flows_to d.label l) (λ d k. k)

-- what a label below sees is a function of what the label sees
pub cut_below : (a l : Label) → flows_to a l ≡ true → (xs ys : List Part) → cut l xs ≡ cut l ys → cut a xs ≡ cut a ys
cut_below a l h xs ys e = sym (cut_cut a l h xs) ∙ ap (cut a) e ∙ cut_cut a l h ys

-- a readable part is hit by a deletion exactly if it is by a readable one
deleted_cut : (l : Label) (p : Part) → flows_to p.label l ≡ true → (spots : List Spot) → is_deleted p (cut_spots l spots) ≡ is_deleted p spots
deleted_cut l p h [] = refl
deleted_cut l p h (d ∷ ds) = go (flows_to d.label l) refl (is_at p d) refl (deleted_cut l p h ds)
  where
    go : (a : Bool) → flows_to d.label l ≡ a → (b : Bool) → is_at p d ≡ b → is_deleted p (cut_spots l ds) ≡ is_deleted p ds → is_deleted p (cond a (d ∷ cut_spots l ds) (cut_spots l ds)) ≡ (b || is_deleted p ds)
    go true e true f ih = rw f refl
    go true e false f ih = rw f ih
    go false e true f ih =
        let g = (label_eq-Decides p.label d.label).0 (and_parts (bytes_eq p.name d.name) (label_eq p.label d.label) f).1 in
        let k : flows_to d.label l ≡ true = subst (λ (x : Label). flows_to x l ≡ true) g h in cc
    go false e false f ih = ih

-- the readable parts that deletions leave are those that the readable deletions leave of the readable parts
pub cut-spared : (l : Label) (spots : List Spot) (parts : List Part) → cut l (spared spots parts) ≡ spared (cut_spots l spots) (cut l parts)
cut-spared l spots [] = refl
cut-spared l spots (p ∷ ps) = go (flows_to p.label l) refl (is_deleted p spots) refl (cut-spared l spots ps)
  where
    go : (a : Bool) → flows_to p.label l ≡ a → (b : Bool) → is_deleted p spots ≡ b → cut l (spared spots ps) ≡ spared (cut_spots l spots) (cut l ps) →
        cut l (cond (not b) (p ∷ spared spots ps) (spared spots ps)) ≡ spared (cut_spots l spots) (cond a (p ∷ cut l ps) (cut l ps))
    go true e true f ih = let k = deleted_cut l p e spots ∙ f in rw k ih
    go true e false f ih = let k = deleted_cut l p e spots ∙ f in rw (k, e) (ap (λ (r : List Part). p ∷ r) ih)
    go false e true f ih = ih
    go false e false f ih = rw e ih

-- what is seen after an edit
pub cut-apply : (l : Label) (edit : List Spot × List Part) (parts : List Part) → cut l (apply edit parts) ≡ apply (cut_spots l edit.0, cut l edit.1) (cut l parts)
cut-apply l edit parts =
    filter-append (λ p. flows_to p.label l) (spared edit.0 parts) edit.1
    ∙ ap (λ (r : List Part). r ++ cut l edit.1) (cut-spared l edit.0 parts)

-- tests over a list where those that are cut fail
any_cut : {X : Type 0} (keep f g : X → Bool) → ((x : X) → f x ≡ g x) → ((x : X) → keep x ≡ false → f x ≡ false) → (xs : List X) → list_any f xs ≡ list_any g (filter keep xs)
any_cut keep f g same none [] = refl
any_cut {X} keep f g same none (x ∷ xs) = go (keep x) refl (any_cut keep f g same none xs)
  where
    go : (a : Bool) → keep x ≡ a → list_any f xs ≡ list_any g (filter keep xs) → (f x || list_any f xs) ≡ list_any g (cond a (x ∷ filter keep xs) (filter keep xs))
    go true e ih = rw (same x, ih) refl
    go false e ih = rw (none x e) ih

any_false : {X : Type 0} (f : X → Bool) → ((x : X) → f x ≡ false) → (xs : List X) → list_any f xs ≡ false
any_false f none [] = refl
any_false f none (x ∷ xs) = rw (none x) (any_false f none xs)

any_found : {X : Type 0} (f : X → Bool) (P : Type 0) → ((x : X) → f x ≡ true → P) → (xs : List X) → list_any f xs ≡ true → P
any_found f P each [] h = absurd (let k : ⊥ = cc in k)
any_found f P each (x ∷ xs) h = elim (or_cases (f x) (list_any f xs) h) [ inl e ↦ each x e | inr e ↦ any_found f P each xs e ]

-- whether a part is picked for a clause on the way to t
abbrev picks : Clause → List Clause → List (List ℕ) → List (List ℕ) → List (List ℕ) → Bool → List Part → List Part → Part → Bool
picks c cs i t so_far fresh old added p = fits i c p && gives cs i t (union so_far p.label.s) fresh old added

-- a choice that gives t has all its tags in t
pub gives_within : (cs : List Clause) (i t so_far : List (List ℕ)) (fresh : Bool) (old added : List Part) → gives cs i t so_far fresh old added ≡ true → is_subset so_far t ≡ true
gives_within [] i t so_far fresh old added h = subst (λ (set : List (List ℕ)). is_subset so_far set ≡ true) ((tag_set_eq-Decides so_far t).0 (and_parts fresh (tag_set_eq so_far t) h).1) (is_subset-refl so_far)
gives_within (c ∷ cs) i t so_far fresh old added h =
    elim (or_cases (list_any (picks c cs i t so_far fresh old added) old) (list_any (picks c cs i t so_far true old added) added) h) [
      | inl e ↦ any_found (picks c cs i t so_far fresh old added) (is_subset so_far t ≡ true) (λ p k. is_subset-trans so_far (union so_far p.label.s) t (is_subset-union_left so_far p.label.s) (gives_within cs i t (union so_far p.label.s) fresh old added (and_parts (fits i c p) (gives cs i t (union so_far p.label.s) fresh old added) k).1)) old e
      | inr e ↦ any_found (picks c cs i t so_far true old added) (is_subset so_far t ≡ true) (λ p k. is_subset-trans so_far (union so_far p.label.s) t (is_subset-union_left so_far p.label.s) (gives_within cs i t (union so_far p.label.s) true old added (and_parts (fits i c p) (gives cs i t (union so_far p.label.s) true old added) k).1)) added e
    ]

true_or_false : (b : Bool) → (b ≡ true → b ≡ false) → b ≡ false
true_or_false true h = h refl
true_or_false false h = refl

-- a part that is picked on the way to t is readable where t is
picks_readable : (l : Label) (i t : List (List ℕ)) → is_subset t l.s ≡ true → is_subset l.i i ≡ true → (c : Clause) (cs : List Clause) (so_far : List (List ℕ)) (fresh : Bool) (old added : List Part) (p : Part) → picks c cs i t so_far fresh old added p ≡ true → flows_to p.label l ≡ true
picks_readable l i t h k c cs so_far fresh old added p e =
    let a = fits i c p in
    let g = gives cs i t (union so_far p.label.s) fresh old added in
    let both = and_parts a g e in
    let set = union so_far p.label.s in
    let within = is_subset-trans p.label.s set t (is_subset-union_right so_far p.label.s) (gives_within cs i t set fresh old added both.1) in
    flows_to-from_parts p.label l (is_subset-trans p.label.s t l.s within h) (is_subset-trans l.i i p.label.i k (and_parts (serves c p) (is_subset i p.label.i) both.0).1)

-- a choice that gives t looks only at parts that are readable where t is
pub gives_cut : (l : Label) (i t : List (List ℕ)) → is_subset t l.s ≡ true → is_subset l.i i ≡ true → (cs : List Clause) (so_far : List (List ℕ)) (fresh : Bool) (old added : List Part) → gives cs i t so_far fresh old added ≡ gives cs i t so_far fresh (cut l old) (cut l added)
gives_cut l i t h k [] so_far fresh old added = refl
gives_cut l i t h k (c ∷ cs) so_far fresh old added =
    let from_old = any_cut (λ p. flows_to p.label l) (picks c cs i t so_far fresh old added) (picks c cs i t so_far fresh (cut l old) (cut l added))
    (λ p. ap (λ b. fits i c p && b) (gives_cut l i t h k cs (union so_far p.label.s) fresh old added))
    (λ p e. true_or_false (picks c cs i t so_far fresh old added p) (λ g. let f = picks_readable l i t h k c cs so_far fresh old added p g in cc)) old in
    let from_new = any_cut (λ p. flows_to p.label l) (picks c cs i t so_far true old added) (picks c cs i t so_far true (cut l old) (cut l added))
    (λ p. ap (λ b. fits i c p && b) (gives_cut l i t h k cs (union so_far p.label.s) true old added))
    (λ p e. true_or_false (picks c cs i t so_far true old added p) (λ g. let f = picks_readable l i t h k c cs so_far true old added p g in cc)) added in
    ap (λ b. b || list_any (picks c cs i t so_far true old added) added) from_old
    ∙ ap (λ b. list_any (picks c cs i t so_far fresh (cut l old) (cut l added)) (cut l old) || b) from_new

-- without an added part there is no choice
pub gives_none : (cs : List Clause) (i t so_far : List (List ℕ)) (old : List Part) → gives cs i t so_far false old [] ≡ false
gives_none [] i t so_far old = refl
gives_none (c ∷ cs) i t so_far old =
    rw (any_false (picks c cs i t so_far false old []) (λ p. and_right (fits i c p) (gives cs i t (union so_far p.label.s) false old []) (gives_none cs i t (union so_far p.label.s) old)) old) refl

pub spared_nil : (parts : List Part) → spared [] parts ≡ parts
spared_nil [] = refl
spared_nil (p ∷ ps) = ap (λ (r : List Part). p ∷ r) (spared_nil ps)
