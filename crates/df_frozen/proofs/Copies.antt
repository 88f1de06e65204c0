-- Layers of copies: what one more copy leaves, and how the layers hang together.
use Rattle.std.proofs.Common.{◌≡◌, ℕ, zero, suc, ◌+◌, ◌*◌, ◌<◌, List, [], ◌∷◌, ◌++◌, map, take, drop, get_or, length, arith, refl, ap, sym, subst, ◌∙◌, Option, Some}
use Rattle.std.specs.Prelude.{pos, option_map}
use Rattle.std.specs.Borrow.{Bor}
use Rattle.std.specs.Slice.{IsItemAt}
use Rattle.df_frozen.specs.Plain.{Plain, int, from_list, from_pairs, node_count, items_node_count, entries_node_count}
use Rattle.df_frozen.specs.Entries.{names, values, IsAscending}
use Rattle.df_frozen.specs.code.Copying.{content, rest, first, IsCopied, IsFresh}
use Rattle.df_frozen.specs.Place.{item_at}
use Rattle.df_frozen.specs.Value.{plain, named}
use Rattle.df_frozen.specs.declared.value.Value.{Value}
use Rattle.df_frozen.specs.declared.copy.Layer.{Layer}
use Rattle.df_frozen.specs.declared.copy.Layer.TheVariants.{Items, Map}
use Rattle.df_frozen.proofs.Named.{names-named, map-push}
use Rattle.df_frozen.proofs.Nodes.{item_at-read}

-- ---- the first that is left

-- what is seen at an index
pub first-seen : {X Y : Type 0} (f : X → Y) (xs : List X) (k : ℕ) (x : X) → k < length xs → x ≡ get_or xs k x → first (drop k (map f xs)) ≡ Some (f x)
first-seen f [] k x h e = absurd (omega (arith, h))
first-seen f (y ∷ xs) zero x h e = ap (λ z. Some (f z)) (sym e)
first-seen f (y ∷ xs) (suc k) x h e = first-seen f xs k x (omega (arith, h)) e

-- an item at an index is the first from there on
item_at-first : (ps : List Plain) (k : ℕ) → item_at k (from_list ps) ≡ first (drop k ps)
item_at-first [] zero = refl
item_at-first [] (suc k) = refl
item_at-first (p ∷ ps) zero = refl
item_at-first (p ∷ ps) (suc k) = item_at-first ps k

-- what a read of a slice gives
pub first-read : (vs : List Value) (k : ℕ) (r : Option (Bor Value)) → IsItemAt vs k r → option_map (λ v. plain v.now) r ≡ first (drop k (map plain vs))
first-read vs k r h = item_at-read vs k r h ∙ item_at-first (map plain vs) k

-- the values of entries, as they are kept
pub values-named : (es : List (List ℕ × Value)) → values (map named es) ≡ map (λ e. plain e.1) es
values-named [] = refl
values-named (e ∷ es) = ap (λ l. plain e.1 ∷ l) (values-named es)

-- where a first is left, its index is within
within-first : {X : Type 0} (n : ℕ) (xs : List X) (x : X) → first (drop n xs) ≡ Some x → n < length xs
within-first zero [] x h = absurd (cc)
within-first (suc n) [] x h = absurd (cc)
within-first zero (y ∷ xs) x h = omega arith
within-first (suc n) (y ∷ xs) x h = omega (arith, within-first n xs x h)

-- the first that is left is taken
taken : {X : Type 0} (n : ℕ) (xs : List X) (x : X) → first (drop n xs) ≡ Some x → (take (suc n) xs ≡ take n xs ++ x ∷ []) × (drop n xs ≡ x ∷ drop (suc n) xs)
taken zero [] x h = absurd (cc)
taken (suc n) [] x h = absurd (cc)
taken zero (y ∷ xs) x h = let e : y ≡ x = cc in (ap (λ z. z ∷ []) e, ap (λ z. z ∷ xs) e)
taken (suc n) (y ∷ xs) x h = let t = taken n xs x h in (ap (λ l. y ∷ l) t.0, t.1)

-- one more
length-more : {X : Type 0} (xs : List X) (x : X) → length (xs ++ x ∷ []) ≡ suc (length xs)
length-more [] x = refl
length-more (y ∷ xs) x = ap suc (length-more xs x)

-- ---- one more copy

-- one more value of a list
pub items_more : (made : List Value) (from : List Plain) (v : Value) → map plain made ≡ take (length made) from → first (drop (length made) from) ≡ Some (plain v) → (map plain (made ++ v ∷ []) ≡ take (length (made ++ v ∷ [])) from) × (drop (length made) from ≡ plain v ∷ drop (length (made ++ v ∷ [])) from)
items_more made from v c h =
    let t = taken (length made) from (plain v) h in
    rw (length-more made v) (map-push plain made v ∙ ap (λ l. l ++ plain v ∷ []) c ∙ sym t.0, t.1)

-- one more entry of a map
pub entries_more : (made es : List (List ℕ × Value)) (from : List (List ℕ × Plain)) (n : ℕ) (e : List ℕ × Value) (v : Value) → map named es ≡ from → map named made ≡ take (length made) from → n ≡ length made → e ≡ get_or es n e → first (drop (length made) (values from)) ≡ Some (plain v) → (map named (made ++ (e.0, v) ∷ []) ≡ take (length (made ++ (e.0, v) ∷ [])) from) × (drop (length made) (values from) ≡ plain v ∷ drop (length (made ++ (e.0, v) ∷ [])) (values from))
entries_more made es from n e v s c i r h =
    let m = length made in
    let at : e ≡ get_or es m e = subst (λ k. e ≡ get_or es k e) i r in
    let there : first (drop m (map (λ x. plain x.1) es)) ≡ Some (plain v) = ap (λ l. first (drop m l)) (sym (values-named es) ∙ ap values s) ∙ h in
    let within : m < length es = omega (arith, within-first m (map (λ (x : List ℕ × Value). plain x.1) es) (plain v) there, length-seen es) in
    let same : plain e.1 ≡ plain v = some_same (sym (first-seen (λ (x : List ℕ × Value). plain x.1) es m e within at) ∙ there) in
    let seen : first (drop m from) ≡ Some (e.0, plain v) = ap (λ l. first (drop m l)) (sym s) ∙ first-seen named es m e within at ∙ ap (λ p. Some (e.0, p)) same in
    rw (length-more made (e.0, v)) (map-push named made (e.0, v) ∙ ap (λ l. l ++ (e.0, plain v) ∷ []) c ∙ sym (taken m from (e.0, plain v) seen).0, (taken m (values from) (plain v) h).1)
  where
    some_same : {X : Type 0} {x y : X} → Some x ≡ Some y → x ≡ y
    some_same q = cc

    length-seen : (us : List (List ℕ × Value)) → length (map (λ (x : List ℕ × Value). plain x.1) us) ≡ length us
    length-seen [] = refl
    length-seen (u ∷ us) = ap suc (length-seen us)

-- ---- a whole copy

-- where nothing is left, all is copied
all_taken : {X : Type 0} (n : ℕ) (xs : List X) → drop n xs ≡ [] → take n xs ≡ xs
all_taken zero [] h = refl
all_taken zero (x ∷ xs) h = absurd (cc)
all_taken (suc n) [] h = refl
all_taken (suc n) (x ∷ xs) h = ap (λ l. x ∷ l) (all_taken n xs h)

-- no entry is left where no value is
none_left : (n : ℕ) (es : List (List ℕ × Plain)) → drop n (values es) ≡ [] → drop n es ≡ []
none_left zero [] h = refl
none_left zero (e ∷ es) h = absurd (cc)
none_left (suc n) [] h = refl
none_left (suc n) (e ∷ es) h = none_left n es h

-- a whole copy of a list
pub items_whole : (made : List Value) (from : List Plain) → map plain made ≡ take (length made) from → drop (length made) from ≡ [] → map plain made ≡ from
items_whole made from c h = c ∙ all_taken (length made) from h

-- a whole copy of a map
pub entries_whole : (made : List (List ℕ × Value)) (from : List (List ℕ × Plain)) → map named made ≡ take (length made) from → drop (length made) (values from) ≡ [] → map named made ≡ from
entries_whole made from c h = c ∙ all_taken (length made) from (none_left (length made) from h)

-- the names of a whole copy ascend
pub ascending_whole : (made : List (List ℕ × Value)) (from : List (List ℕ × Plain)) → map named made ≡ from → IsAscending (names from) → IsAscending (names made)
ascending_whole made from e s = subst IsAscending (ap names (sym e) ∙ names-named made) s

-- ---- the layers

-- the first value, or a number where there is none
abbrev pub head : List Plain → Plain
head [] = int (pos 0)
head (p ∷ ps) = p

-- all but the first
abbrev pub tail : List Plain → List Plain
tail [] = []
tail (p ∷ ps) = ps

-- the lowest layer copies this content, and each other one the next value of that below it
abbrev pub IsChain : Plain → List Layer → Layer → Type 0
IsChain p [] top = content top ≡ p
IsChain p (l ∷ ls) top = (content l ≡ p) × (IsCopied l × ((0 < length (rest l)) × IsChain (head (rest l)) ls top))

-- another top of the same content
pub IsChain-same : (p : Plain) (ls : List Layer) (a b : Layer) → content b ≡ content a → IsChain p ls a → IsChain p ls b
IsChain-same p [] a b e h = e ∙ h
IsChain-same p (l ∷ ls) a b e h = (h.0, (h.1.0, (h.1.1.0, IsChain-same (head (rest l)) ls a b e h.1.1.1)))

-- one more layer
pub IsChain-push : (p : Plain) (ls : List Layer) (top new : Layer) (q : Plain) → IsCopied top → first (rest top) ≡ Some q → content new ≡ q → IsChain p ls top → IsChain p (ls ++ top ∷ []) new
IsChain-push p [] top new q c f e h = (h, (c, by (rest top) f))
  where
    by : (ps : List Plain) → first ps ≡ Some q → (0 < length ps) × (content new ≡ head ps)
    by [] g = absurd (cc)
    by (r ∷ ps) g = let s : q ≡ r = cc in (omega arith, e ∙ s)
IsChain-push p (l ∷ ls) top new q c f e h = (h.0, (h.1.0, (h.1.1.0, IsChain-push (head (rest l)) ls top new q c f e h.1.1.1)))

-- one layer less
IsChain-pop : (p : Plain) (ls : List Layer) (under top : Layer) → IsChain p (ls ++ under ∷ []) top → record { below : IsChain p ls under; copied : IsCopied under; next : first (rest under) ≡ Some (content top) }
IsChain-pop p [] under top h = record { below = h.0; copied = h.1.0; next = by (rest under) h.1.1.0 h.1.1.1 }
  where
    by : (ps : List Plain) → 0 < length ps → content top ≡ head ps → first ps ≡ Some (content top)
    by [] n e = absurd (omega (arith, n))
    by (r ∷ ps) n e = ap Some (sym e)
IsChain-pop p (l ∷ ls) under top h =
    let b = IsChain-pop (head (rest l)) ls under top h.1.1.1 in
    record { below = (h.0, (h.1.0, (h.1.1.0, b.below))); copied = b.copied; next = b.next }

-- the layer that comes off the end
pub IsChain-popped : (p : Plain) (all ls : List Layer) (under top : Layer) → all ≡ ls ++ under ∷ [] → IsChain p all top → record { below : IsChain p ls under; copied : IsCopied under; next : first (rest under) ≡ Some (content top) }
IsChain-popped p all ls under top e h = IsChain-pop p ls under top (subst (λ l. IsChain p l top) e h)

-- a fresh layer is copied as far as it goes
pub IsCopied-fresh : (l : Layer) → IsFresh l → IsCopied l
IsCopied-fresh (Items from made) h = rw h refl
IsCopied-fresh (Map from made) h = (rw h.0 refl, h.1)

-- ---- the steps that are left

-- the nodes of these values
abbrev pub nodes : List Plain → ℕ
nodes ps = items_node_count (from_list ps)

-- a bound on the steps that are left to these layers, without what lies above them
abbrev pub layers_steps : List Layer → ℕ
layers_steps [] = 0
layers_steps (l ∷ ls) = 1 + 2 * nodes (tail (rest l)) + layers_steps ls

-- the steps of one more layer
pub layers_steps-push : (ls : List Layer) (l : Layer) → layers_steps (ls ++ l ∷ []) ≡ layers_steps ls + (1 + 2 * nodes (tail (rest l)))
layers_steps-push [] l = omega arith
layers_steps-push (k ∷ ls) l = omega (arith, layers_steps-push ls l)

-- the nodes of a map are those of its values
entries_nodes : (es : List (List ℕ × Plain)) → entries_node_count (from_pairs es) ≡ nodes (values es)
entries_nodes [] = refl
entries_nodes (e ∷ es) = omega (arith, entries_nodes es)

-- a fresh layer has all nodes of its content left, but for its own
pub nodes-fresh : (l : Layer) → IsFresh l → node_count (content l) ≡ suc (nodes (rest l))
nodes-fresh (Items from made) h = rw h refl
nodes-fresh (Map from made) h = rw h.0 (ap suc (entries_nodes from.now))

-- the first of these values and the others
pub nodes-first : (ps : List Plain) (p : Plain) → first ps ≡ Some p → nodes ps ≡ node_count p + nodes (tail ps)
nodes-first [] p h = absurd (cc)
nodes-first (q ∷ ps) p h = let e : q ≡ p = cc in rw e refl
