-- One more element of a loop.
use Rattle.df_lint.proofs.Names.{◌≡◌, ℕ, ◌+◌, ◌<◌, List, [], ◌∷◌, ◌++◌, Bool, true, false, ◌||◌, refl, sym, ◌∙◌, ap, length, take, map, get_or, list_any, take_more, tag_eq, contains, union, with, Privilege, names, root_names, contains-union, contains-with, begun, RootStart}

pub or_assoc : (a b c : Bool) → ((a || b) || c) ≡ (a || (b || c))
or_assoc true b c = refl
or_assoc false b c = refl

pub or_comm : (a b : Bool) → (a || b) ≡ (b || a)
or_comm true true = refl
or_comm true false = refl
or_comm false true = refl
or_comm false false = refl

any_push : {X : Type 0} (p : X → Bool) (xs : List X) (y : X) → list_any p (xs ++ y ∷ []) ≡ (list_any p xs || p y)
any_push p [] y = or_comm (p y) false
any_push p (x ∷ xs) y = ap (λ (b : Bool). p x || b) (any_push p xs y) ∙ sym (or_assoc (p x) (list_any p xs) (p y))

pub any_more : {X : Type 0} (p : X → Bool) (xs : List X) (i : ℕ) (d : X) → i < length xs → list_any p (take (i + 1) xs) ≡ (list_any p (take i xs) || p (get_or xs i d))
any_more p xs i d lt = ap (list_any p) (take_more xs i d lt) ∙ any_push p (take i xs) (get_or xs i d)

-- the tags of one more privilege, and of one more root
pub tag_more : (all next base : List (List ℕ)) (items : List Privilege) (i : ℕ) (x : Privilege) → i < length items → x ≡ get_or items i x → next ≡ with all x.tag →
    ((t : List ℕ) → contains all t ≡ (contains base t || list_any (λ p. tag_eq p.tag t) (take i items))) →
    (t : List ℕ) → contains next t ≡ (contains base t || list_any (λ p. tag_eq p.tag t) (take (i + 1) items))
tag_more all next base items i x lt at now before t =
    let more : list_any (λ p. tag_eq p.tag t) (take (i + 1) items) ≡ (list_any (λ p. tag_eq p.tag t) (take i items) || tag_eq x.tag t) = any_more (λ p. tag_eq p.tag t) items i x lt ∙ ap (λ (y : Privilege). list_any (λ p. tag_eq p.tag t) (take i items) || tag_eq y.tag t) (sym at) in
    ap (λ (ts : List (List ℕ)). contains ts t) now ∙ contains-with all x.tag t ∙ or_comm (tag_eq x.tag t) (contains all t)
    ∙ ap (λ (b : Bool). b || tag_eq x.tag t) (before t)
    ∙ or_assoc (contains base t) (list_any (λ p. tag_eq p.tag t) (take i items)) (tag_eq x.tag t)
    ∙ ap (λ (b : Bool). contains base t || b) (sym more)

pub tags_joined : (a b c e : List (List ℕ)) (s i : List (List ℕ)) (ps : List Privilege) → b ≡ union a s → c ≡ union b i → ((t : List ℕ) → contains e t ≡ (contains c t || list_any (λ p. tag_eq p.tag t) ps)) →
    (t : List ℕ) → contains e t ≡ (contains a t || (contains s t || (contains i t || list_any (λ p. tag_eq p.tag t) ps)))
tags_joined a b c e s i ps h1 h2 all t =
    let q = list_any (λ p. tag_eq p.tag t) ps in
    all t ∙ ap (λ (x : Bool). x || q) (ap (λ (ts : List (List ℕ)). contains ts t) h2 ∙ contains-union b i t ∙ ap (λ (x : Bool). x || contains i t) (ap (λ (ts : List (List ℕ)). contains ts t) h1 ∙ contains-union a s t))
    ∙ or_assoc (contains a t || contains s t) (contains i t) q ∙ or_assoc (contains a t) (contains s t) (contains i t || q)

names_push : (rs : List RootStart) (r : RootStart) (t : List ℕ) → names (map begun (rs ++ r ∷ [])) t ≡ (names (map begun rs) t || root_names t (begun r))
names_push [] r t = or_comm (root_names t (begun r)) false
names_push (x ∷ rs) r t = ap (λ (b : Bool). root_names t (begun x) || b) (names_push rs r t) ∙ sym (or_assoc (root_names t (begun x)) (names (map begun rs) t) (root_names t (begun r)))

pub names_more : (tags next : List (List ℕ)) (roots : List RootStart) (i : ℕ) (x : RootStart) → i < length roots → x ≡ get_or roots i x →
    ((t : List ℕ) → contains next t ≡ (contains tags t || root_names t (begun x))) → ((t : List ℕ) → contains tags t ≡ names (map begun (take i roots)) t) →
    (t : List ℕ) → contains next t ≡ names (map begun (take (i + 1) roots)) t
names_more tags next roots i x lt at now before t =
    now t ∙ ap (λ (b : Bool). b || root_names t (begun x)) (before t) ∙ ap (λ (r : RootStart). names (map begun (take i roots)) t || root_names t (begun r)) at
    ∙ sym (names_push (take i roots) (get_or roots i x) t) ∙ ap (λ (rs : List RootStart). names (map begun rs) t) (sym (take_more roots i x lt))
