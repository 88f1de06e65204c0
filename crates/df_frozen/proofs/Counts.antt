-- Counts of what is left, before and after a step.
use Rattle.std.proofs.Common.{◌≡◌, ℕ, zero, suc, ◌+◌, ◌<◌, List, [], ◌∷◌, ◌++◌, map, take, get_or, length, max, arith, refl, ap, sym, ◌∙◌}
use Rattle.df_frozen.specs.Plain.{Plain, Plains, Pairs, int, words, bytes, items, entries, no_items, item, no_entries, entry, from_pairs, node_count, items_node_count, entries_node_count, byte_count, items_byte_count, entries_byte_count, depth, items_depth, entries_depth}
use Rattle.df_frozen.specs.code.Inner.{children, values_of}
use Rattle.df_frozen.specs.code.Counting.{name_byte_count, own_byte_count, left, rows_of, pushed, rows_node_count, rows_byte_count, row_depth, rows_depth, rows_steps}
use Rattle.df_frozen.specs.Limits.{counted}
use Rattle.df_frozen.specs.Value.{named}
use Rattle.df_frozen.specs.declared.row.Row.{Row}
use Rattle.df_frozen.specs.declared.value.Value.{Value}

-- ---- the bytes of names

-- the bytes of the names of these entries
abbrev pub names_length : List (List ℕ × Value) → ℕ
names_length [] = 0
names_length (e ∷ es) = length e.0 + names_length es

-- the bytes of one more name
pub names_length-take : (es : List (List ℕ × Value)) (i : ℕ) (d : List ℕ × Value) → i < length es → names_length (take (suc i) es) ≡ names_length (take i es) + length (get_or es i d).0
names_length-take [] i d h = absurd (omega arith)
names_length-take (e ∷ es) zero d h = omega arith
names_length-take (e ∷ es) (suc i) d h = omega (arith, names_length-take es i d (omega arith))

-- the bytes of the names of a map
pub name_byte_count-named : (es : List (List ℕ × Value)) → name_byte_count (from_pairs (map named es)) ≡ names_length es
name_byte_count-named [] = refl
name_byte_count-named (e ∷ es) = ap (λ n. length e.0 + n) (name_byte_count-named es)

-- ---- a node and the values in it

-- the nodes of entries are those of their values
entries_node_count-is : (es : Pairs) → entries_node_count es ≡ items_node_count (values_of es)
entries_node_count-is no_entries = refl
entries_node_count-is (entry k p es) = omega (arith, entries_node_count-is es)

-- the bytes of entries are those of their names and of their values
entries_byte_count-is : (es : Pairs) → entries_byte_count es ≡ name_byte_count es + items_byte_count (values_of es)
entries_byte_count-is no_entries = refl
entries_byte_count-is (entry k p es) = omega (arith, entries_byte_count-is es)

-- entries are as deep as their values
entries_depth-is : (es : Pairs) → entries_depth es ≡ items_depth (values_of es)
entries_depth-is no_entries = refl
entries_depth-is (entry k p es) = omega (arith, entries_depth-is es)

-- a node, and the nodes in it
pub node_count-is : (p : Plain) → node_count p ≡ suc (items_node_count (children p))
node_count-is (int n) = refl
node_count-is (words s) = refl
node_count-is (bytes s) = refl
node_count-is (items ps) = refl
node_count-is (entries es) = ap suc (entries_node_count-is es)

-- the bytes of a node, and those of the values in it
pub byte_count-is : (p : Plain) → byte_count p ≡ own_byte_count p + items_byte_count (children p)
byte_count-is (int n) = omega arith
byte_count-is (words s) = omega arith
byte_count-is (bytes s) = omega arith
byte_count-is (items ps) = omega arith
byte_count-is (entries es) = entries_byte_count-is es

-- one level, and the levels in it
pub depth-is : (p : Plain) → depth p ≡ suc (items_depth (children p))
depth-is (int n) = refl
depth-is (words s) = refl
depth-is (bytes s) = refl
depth-is (items ps) = refl
depth-is (entries es) = ap suc (entries_depth-is es)

-- ---- one more row

-- the nodes of one more row
rows_node_count-push : (rows : List (Plains × ℕ)) (r : Plains × ℕ) → rows_node_count (rows ++ r ∷ []) ≡ rows_node_count rows + items_node_count r.0
rows_node_count-push [] r = omega arith
rows_node_count-push (q ∷ rows) r = omega (arith, rows_node_count-push rows r)

-- the bytes of one more row
rows_byte_count-push : (rows : List (Plains × ℕ)) (r : Plains × ℕ) → rows_byte_count (rows ++ r ∷ []) ≡ rows_byte_count rows + items_byte_count r.0
rows_byte_count-push [] r = omega arith
rows_byte_count-push (q ∷ rows) r = omega (arith, rows_byte_count-push rows r)

-- the depth with one more row
rows_depth-push : (rows : List (Plains × ℕ)) (r : Plains × ℕ) → rows_depth (rows ++ r ∷ []) ≡ max (rows_depth rows) (row_depth r.0 r.1)
rows_depth-push [] r = omega arith
rows_depth-push (q ∷ rows) r = omega (arith, rows_depth-push rows r)

-- the length with one more
length-push : {X : Type 0} (xs : List X) (x : X) → length (xs ++ x ∷ []) ≡ suc (length xs)
length-push [] x = refl
length-push (y ∷ xs) x = ap suc (length-push xs x)

-- the nodes with a row that may be empty
pub rows_node_count-pushed : (rows : List (Plains × ℕ)) (ps : Plains) (around : ℕ) → rows_node_count (pushed rows ps around) ≡ rows_node_count rows + items_node_count ps
rows_node_count-pushed rows no_items around = omega arith
rows_node_count-pushed rows (item p ps) around = rows_node_count-push rows (item p ps, around)

-- the bytes with a row that may be empty
pub rows_byte_count-pushed : (rows : List (Plains × ℕ)) (ps : Plains) (around : ℕ) → rows_byte_count (pushed rows ps around) ≡ rows_byte_count rows + items_byte_count ps
rows_byte_count-pushed rows no_items around = omega arith
rows_byte_count-pushed rows (item p ps) around = rows_byte_count-push rows (item p ps, around)

-- the depth with a row that may be empty
pub rows_depth-pushed : (rows : List (Plains × ℕ)) (ps : Plains) (around : ℕ) → rows_depth (pushed rows ps around) ≡ max (rows_depth rows) (row_depth ps around)
rows_depth-pushed rows no_items around = omega arith
rows_depth-pushed rows (item p ps) around = rows_depth-push rows (item p ps, around)

-- at most one more row
length-pushed : (rows : List (Plains × ℕ)) (ps : Plains) (around : ℕ) → length (pushed rows ps around) < 2 + length rows
length-pushed rows no_items around = omega arith
length-pushed rows (item p ps) around = omega (arith, length-push rows (item p ps, around))

-- ---- a step: the first node of the last row

-- a step counts one node
pub rows_node_count-step : (rows : List (Plains × ℕ)) (p : Plain) (ps : Plains) (around below : ℕ) → rows_node_count (rows ++ (item p ps, around) ∷ []) ≡ 1 + rows_node_count (pushed (pushed rows ps around) (children p) below)
rows_node_count-step rows p ps around below =
    omega (arith, rows_node_count-push rows (item p ps, around), rows_node_count-pushed rows ps around, rows_node_count-pushed (pushed rows ps around) (children p) below, node_count-is p)

-- a step counts the bytes of its node
pub rows_byte_count-step : (rows : List (Plains × ℕ)) (p : Plain) (ps : Plains) (around below : ℕ) → rows_byte_count (rows ++ (item p ps, around) ∷ []) ≡ own_byte_count p + rows_byte_count (pushed (pushed rows ps around) (children p) below)
rows_byte_count-step rows p ps around below =
    omega (arith, rows_byte_count-push rows (item p ps, around), rows_byte_count-pushed rows ps around, rows_byte_count-pushed (pushed rows ps around) (children p) below, byte_count-is p)

-- how deep the first value and the others of a row reach
row_depth-item : (p : Plain) (ps : Plains) (around : ℕ) → row_depth (item p ps) around ≡ max (around + depth p) (row_depth ps around)
row_depth-item p no_items around = omega arith
row_depth-item p (item q ps) around = omega arith

-- a level, and the values on it
row_depth-children : (most around : ℕ) (ps : Plains) → counted (max most (around + suc (items_depth ps))) ≡ counted (max (max most (counted (around + 1))) (row_depth ps (counted (around + 1))))
row_depth-children most around no_items = omega arith
row_depth-children most around (item q ps) = omega arith

-- the greatest of four, in another order
max-last : (a b c d : ℕ) → max a (max b (max c d)) ≡ max (max a (max b d)) c
max-last a b c d = omega arith

-- the greatest of five, in another order
max-middle : (a b c d e : ℕ) → max (max (max a (max b d)) e) c ≡ max (max a e) (max (max b d) c)
max-middle a b c d e = omega arith

-- a step counts the level of its node
pub rows_depth-step : (most : ℕ) (rows : List (Plains × ℕ)) (p : Plain) (ps : Plains) (around : ℕ) → counted (max most (rows_depth (rows ++ (item p ps, around) ∷ []))) ≡ counted (max (max most (counted (around + 1))) (rows_depth (pushed (pushed rows ps around) (children p) (counted (around + 1)))))
rows_depth-step most rows p ps around =
    let r = rows_depth rows in
    let rest = row_depth ps around in
    let below = row_depth (children p) (counted (around + 1)) in
    let first : rows_depth (rows ++ (item p ps, around) ∷ []) ≡ max r (max (around + suc (items_depth (children p))) rest) =
    rows_depth-push rows (item p ps, around) ∙ ap (max r) (row_depth-item p ps around) ∙ ap (λ d. max r (max (around + d) rest)) (depth-is p) in
    let then : rows_depth (pushed (pushed rows ps around) (children p) (counted (around + 1))) ≡ max (max r rest) below =
    rows_depth-pushed (pushed rows ps around) (children p) (counted (around + 1)) ∙ ap (λ d. max d below) (rows_depth-pushed rows ps around) in
    rw (first, then) (ap counted (max-last most r (around + suc (items_depth (children p))) rest) ∙ row_depth-children (max most (max r rest)) around (children p) ∙ ap counted (max-middle most r below rest (counted (around + 1))))

-- a step leaves fewer
pub rows_steps-step : (rows : List (Plains × ℕ)) (p : Plain) (ps : Plains) (around below : ℕ) → rows_steps (pushed (pushed rows ps around) (children p) below) < rows_steps (rows ++ (item p ps, around) ∷ [])
rows_steps-step rows p ps around below =
    omega (arith, rows_node_count-step rows p ps around below, length-pushed rows ps around, length-pushed (pushed rows ps around) (children p) below, length-push rows (item p ps, around))

-- ---- rows of references

-- one more row of references
pub rows_of-push : (rows : List (Row × ℕ)) (r : Row × ℕ) → rows_of (rows ++ r ∷ []) ≡ rows_of rows ++ (left r.0, r.1) ∷ []
rows_of-push [] r = refl
rows_of-push (q ∷ rows) r = ap (λ l. (left q.0, q.1) ∷ l) (rows_of-push rows r)

-- a row that is not empty is added
pub pushed-item : (rows : List (Plains × ℕ)) (ps : Plains) (around : ℕ) (p : Plain) (rest : Plains) → ps ≡ item p rest → pushed rows ps around ≡ rows ++ (ps, around) ∷ []
pushed-item rows ps around p rest h = rw h refl

-- the last row
pub rows_of-last : (old popped : List (Row × ℕ)) (r : Row × ℕ) (ps : Plains) → old ≡ popped ++ r ∷ [] → left r.0 ≡ ps → rows_of old ≡ rows_of popped ++ (ps, r.1) ∷ []
rows_of-last old popped r ps e f = ap rows_of e ∙ rows_of-push popped r ∙ ap (λ l. rows_of popped ++ (l, r.1) ∷ []) f

-- an empty row has no nodes
pub rows_node_count-empty : (rows : List (Plains × ℕ)) (around : ℕ) → rows_node_count (rows ++ (no_items, around) ∷ []) ≡ rows_node_count rows
rows_node_count-empty rows around = omega (arith, rows_node_count-push rows (no_items, around))

-- an empty row has no bytes
pub rows_byte_count-empty : (rows : List (Plains × ℕ)) (around : ℕ) → rows_byte_count (rows ++ (no_items, around) ∷ []) ≡ rows_byte_count rows
rows_byte_count-empty rows around = omega (arith, rows_byte_count-push rows (no_items, around))

-- an empty row reaches nowhere
pub rows_depth-empty : (rows : List (Plains × ℕ)) (around : ℕ) → rows_depth (rows ++ (no_items, around) ∷ []) ≡ rows_depth rows
rows_depth-empty rows around = omega (arith, rows_depth-push rows (no_items, around))

-- without an empty row fewer steps are left
pub rows_steps-empty : (rows : List (Plains × ℕ)) (around : ℕ) → rows_steps rows < rows_steps (rows ++ (no_items, around) ∷ [])
rows_steps-empty rows around = omega (arith, rows_node_count-push rows (no_items, around), length-push rows (no_items, around))

-- the first node of all
pub rows_depth-first : (p : Plain) → counted (max (counted (0 + 1)) (rows_depth (pushed [] (children p) 1))) ≡ counted (depth p)
rows_depth-first p = by (children p) ∙ ap counted (sym (depth-is p))
  where
    by : (ps : Plains) → counted (max (counted (0 + 1)) (rows_depth (pushed [] ps 1))) ≡ counted (suc (items_depth ps))
    by no_items = omega arith
    by (item p ps) = omega arith
