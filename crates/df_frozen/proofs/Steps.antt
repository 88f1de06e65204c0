-- Each step of letting go costs less than what it took away.
use Rattle.std.proofs.Common.{◌≡◌, ℕ, zero, suc, ◌+◌, ◌<◌, List, [], ◌∷◌, ◌++◌, get_or, set, length, arith, refl, ap, ◌∙◌, length-append}
use Rattle.std.specs.Prelude.{pos}
use Rattle.std.proofs.lemmas.List.{length-set, get_or-set_same, get_or-set_other}
use Rattle.df_frozen.specs.Plain.{Plain, int, words, bytes, items, entries, from_list, from_pairs}
use Rattle.df_frozen.specs.Entries.{values}
use Rattle.df_frozen.specs.Value.{plain}
use Rattle.df_frozen.specs.code.LetGo.{listed, cost, full_cost, steps, items_steps, entries_steps, first_steps, items_first_steps, entries_first_steps}
use Rattle.df_frozen.specs.declared.value.Value.{Value}
use Rattle.df_frozen.specs.declared.value.Value.TheVariants.{Int, Words, Bytes, Items, Map}

-- the steps of items
items_steps-is : (ps : List Plain) → items_steps (from_list ps) ≡ full_cost ps
items_steps-is [] = refl
items_steps-is (p ∷ ps) = omega (arith, items_steps-is ps)

-- the steps of entries
entries_steps-is : (es : List (List ℕ × Plain)) → entries_steps (from_pairs es) ≡ full_cost (values es)
entries_steps-is [] = refl
entries_steps-is (e ∷ es) = omega (arith, entries_steps-is es)

-- the steps of items that are first
items_first_steps-is : (ps : List Plain) → items_first_steps (from_list ps) ≡ cost ps
items_first_steps-is [] = refl
items_first_steps-is (p ∷ ps) = omega (arith, items_steps-is ps)

-- the steps of entries that are first
entries_first_steps-is : (es : List (List ℕ × Plain)) → entries_first_steps (from_pairs es) ≡ cost (values es)
entries_first_steps-is [] = refl
entries_first_steps-is (e ∷ es) = omega (arith, entries_steps-is es)

-- a value that is first takes a step and those of what lies in it
pub first_steps-is : (v : Value) → first_steps (plain v) ≡ 1 + cost (listed v)
first_steps-is (Int n) = omega arith
first_steps-is (Words s) = omega arith
first_steps-is (Bytes s) = omega arith
first_steps-is (Items ps) = omega (arith, items_first_steps-is ps)
first_steps-is (Map es) = omega (arith, entries_first_steps-is es)

-- a value with values in it takes two steps more than those
pub steps-is : (v : Value) → 0 < length (listed v) → steps (plain v) ≡ 2 + full_cost (listed v)
steps-is (Int n) h = absurd (omega (arith, h))
steps-is (Words s) h = absurd (omega (arith, h))
steps-is (Bytes s) h = absurd (omega (arith, h))
steps-is (Items ps) h = omega (arith, items_steps-is ps)
steps-is (Map es) h = omega (arith, entries_steps-is es)

-- each value takes a step
pub steps-positive : (p : Plain) → 0 < steps p
steps-positive (int n) = omega arith
steps-positive (words s) = omega arith
steps-positive (bytes s) = omega arith
steps-positive (items ps) = omega arith
steps-positive (entries es) = omega arith

-- the full cost of one more value
pub full_cost-push : (ps : List Plain) (p : Plain) → full_cost (ps ++ p ∷ []) ≡ full_cost ps + steps p
full_cost-push [] p = omega arith
full_cost-push (q ∷ ps) p = omega (arith, full_cost-push ps p)

-- the cost of one more value after the first
pub cost-push : (ps : List Plain) (p : Plain) → 0 < length ps → cost (ps ++ p ∷ []) ≡ cost ps + steps p
cost-push [] p h = absurd (omega (arith, h))
cost-push (q ∷ ps) p h = omega (arith, full_cost-push ps p)

-- the full cost with another value in a place
pub full_cost-set : (ps : List Plain) (k : ℕ) (p d : Plain) → k < length ps → full_cost (set ps k p) + steps (get_or ps k d) ≡ full_cost ps + steps p
full_cost-set [] k p d h = absurd (omega (arith, h))
full_cost-set (q ∷ ps) zero p d h = omega arith
full_cost-set (q ∷ ps) (suc k) p d h = omega (arith, full_cost-set ps k p d (omega (arith, h)))

-- the cost with another value in a place after the first
pub cost-set : (ps : List Plain) (k : ℕ) (p d : Plain) → 0 < k → k < length ps → cost (set ps k p) + steps (get_or ps k d) ≡ cost ps + steps p
cost-set [] k p d g h = absurd (omega (arith, h))
cost-set (q ∷ ps) zero p d g h = absurd (omega (arith, g))
cost-set (q ∷ ps) (suc k) p d g h = omega (arith, full_cost-set ps k p d (omega (arith, h)))

-- the cost with another first value
pub cost-set_first : (ps : List Plain) (p d : Plain) → 0 < length ps → cost (set ps 0 p) + steps (get_or ps 0 d) ≡ full_cost ps + first_steps p
cost-set_first [] p d h = absurd (omega (arith, h))
cost-set_first (q ∷ ps) p d h = omega arith

-- ---- steps

-- the only value that waits is taken
pub cost-only : (ws rest : List Plain) (v : Value) → ws ≡ rest ++ plain v ∷ [] → length ws ≡ 1 → cost (listed v) < cost ws
cost-only ws [] v e n = let f : cost ws ≡ first_steps (plain v) + 0 = ap cost e in omega (arith, f, first_steps-is v)
cost-only ws (q ∷ rest) v e n = absurd (omega (arith, n, ap length e, length-append rest (plain v ∷ [])))

-- the last of some values
last_is : (ws rest : List Plain) (k : ℕ) (z p : Plain) → set ws k z ≡ rest ++ p ∷ [] → suc k ≡ length ws → p ≡ z
last_is [] rest k z p e n = absurd (omega (arith, n))
last_is (w ∷ ws) [] zero z p e n = cc
last_is (w ∷ ws) (q ∷ rest) zero z p e n = absurd (omega (arith, n, ap length e, length-append rest (p ∷ [])))
last_is (w ∷ ws) [] (suc k) z p e n = absurd (omega (arith, n, ap length e, length-set ws k z))
last_is (w ∷ ws) (q ∷ rest) (suc k) z p e n = let f : set ws k z ≡ rest ++ p ∷ [] = cc in last_is ws rest k z p f (omega (arith, n))

-- nothing lies in what stands in a free place
listed-free : (v : Value) → plain v ≡ int (pos 0) → length (listed v) ≡ 0
listed-free (Int n) h = refl
listed-free (Words s) h = refl
listed-free (Bytes s) h = refl
listed-free (Items ps) h = absurd (cc)
listed-free (Map es) h = absurd (cc)

-- nothing lies in what is taken from a free place at the end
pub listed-last : (ws rest : List Plain) (k : ℕ) (v : Value) → set ws k (int (pos 0)) ≡ rest ++ plain v ∷ [] → suc k ≡ length ws → length (listed v) ≡ 0
listed-last ws rest k v e n = listed-free v (last_is ws rest k (int (pos 0)) (plain v) e n)

-- the cost without the value in a place
cost-taken : (ws : List Plain) (k : ℕ) (p : Plain) → 0 < k → k < length ws → p ≡ get_or ws k (int (pos 0)) → cost (set ws k (int (pos 0))) + steps p ≡ cost ws + 1
cost-taken ws k p l h e = omega (arith, cost-set ws k (int (pos 0)) (int (pos 0)) l h, ap steps e)

-- a value goes
pub cost-gone : (ws rest : List Plain) (k : ℕ) (p v : Plain) → 0 < k → suc k ≡ length ws → v ≡ get_or ws k (int (pos 0)) → set ws k (int (pos 0)) ≡ rest ++ p ∷ [] → cost rest < cost ws
cost-gone ws rest k p v l n e f =
    let more : 0 < length rest = omega (arith, l, n, ap length f, length-set ws k (int (pos 0)), length-append rest (p ∷ [])) in
    omega (arith, cost-taken ws k v l (omega (arith, n)) e, ap cost f, cost-push rest p more, steps-positive p, steps-positive v)

-- the only value in a value takes its place
pub cost-only_inner : (ws rest : List Plain) (k : ℕ) (v : Value) (only : Plain) → 0 < k → k < length ws → plain v ≡ get_or ws k (int (pos 0)) → listed v ≡ rest ++ only ∷ [] → cost (set (set ws k (int (pos 0))) k only) < cost ws
cost-only_inner ws rest k v only l h e f =
    let z = int (pos 0) in
    let seen : length (listed v) ≡ length rest + 1 = ap length f ∙ length-append rest (only ∷ []) in
    let put = cost-set (set ws k z) k only z l (omega (arith, h, length-set ws k z)) in
    omega (arith, put, ap steps (get_or-set_same ws k z z h), cost-taken ws k (plain v) l h e, steps-is v (omega (arith, seen)), ap full_cost f, full_cost-push rest only)

-- a value is opened
pub cost-opened : (ws : List Plain) (k : ℕ) (v : Value) → 0 < k → k < length ws → plain v ≡ get_or ws k (int (pos 0)) → 0 < length (listed v) → cost (set ws k (int (pos 0))) + full_cost (listed v) < cost ws
cost-opened ws k v l h e n = omega (arith, cost-taken ws k (plain v) l h e, steps-is v n)

-- what waits is hung into a value
pub cost-hung : (ws vs : List Plain) (place end : ℕ) (last first : Plain) (parent : Value) → 0 < place → place < length ws → get_or ws place (int (pos 0)) ≡ int (pos 0) → 0 < end → suc end ≡ length vs → last ≡ get_or vs end (int (pos 0)) → listed parent ≡ set ws place last → first ≡ get_or (set vs end (int (pos 0))) 0 (plain parent) → cost (set (set (set vs end (int (pos 0))) 0 (plain parent)) end first) ≡ cost ws + full_cost vs
cost-hung ws vs place end last first parent l h f m n is_last is_parent is_first =
    let z = int (pos 0) in
    let p = plain parent in
    let emptied = set vs end z in
    let within : end < length vs = omega (arith, n) in
    let some : 0 < length emptied = omega (arith, n, length-set vs end z) in
    let at : get_or (set emptied 0 p) end z ≡ z = get_or-set_other emptied 0 end p z (λ q. absurd (omega (arith, m, q))) ∙ get_or-set_same vs end z z within in
    let whole = cost-set (set emptied 0 p) end first z m (omega (arith, n, length-set emptied 0 p, length-set vs end z)) in
    omega (arith, whole, ap steps at, cost-set_first emptied p p some, ap steps is_first, full_cost-set vs end z z within, ap steps is_last, first_steps-is parent, ap cost is_parent, cost-set ws place last z l h, ap steps f)
