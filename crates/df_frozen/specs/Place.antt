-- Places in plain content, and what a change at a place makes of the whole.
use Rattle.std.specs.Prelude.{ℕ, zero, suc, List, [], ◌∷◌, Option, Some, None, option_map, if◌then◌else◌}
use Rattle.std.specs.Option.{option_and_then}
use Rattle.std.specs.Ordering.{match_ordering}
use Rattle.std.specs.Str.{bytes_eq}
use Rattle.df_frozen.specs.Plain.{Plain, Plains, Pairs, int, words, bytes, items, entries, no_items, item, no_entries, entry}
use Rattle.df_frozen.specs.Name.{name_cmp}
use Rattle.df_frozen.specs.declared.step.Step.{Step}
use Rattle.df_frozen.specs.declared.step.Step.TheVariants.{At, Key}

-- the item at the index
abbrev pub item_at : ℕ → Plains → Option Plain
item_at k no_items = None
item_at zero (item p ps) = Some p
item_at (suc k) (item p ps) = item_at k ps

-- the value under the name
abbrev pub value_under : List ℕ → Pairs → Option Plain
value_under name no_entries = None
value_under name (entry n p es) = if bytes_eq name n then Some p else value_under name es

-- where one step leads: an index into a list, a name into a map
abbrev pub child_at : Step → Plain → Option Plain
child_at (At k) (items ps) = item_at k ps
child_at (Key name) (entries es) = value_under name es
child_at (At k) (entries es) = None
child_at (Key name) (items ps) = None
child_at step (int n) = None
child_at step (words s) = None
child_at step (bytes s) = None

-- where the path leads, step by step
abbrev pub node_at : List Step → Plain → Option Plain
node_at [] p = Some p
node_at (step ∷ path) p = option_and_then (node_at path) (child_at step p)

-- the items, with f of the one at the index in its place
abbrev pub change_item : (Plain → Option Plain) → ℕ → Plains → Option Plains
change_item f k no_items = None
change_item f zero (item p ps) = option_map (λ q. item q ps) (f p)
change_item f (suc k) (item p ps) = option_map (item p) (change_item f k ps)

-- the entries, with f of the value under the name in its place
abbrev pub change_value : (Plain → Option Plain) → List ℕ → Pairs → Option Pairs
change_value f name no_entries = None
change_value f name (entry n p es) =
    if bytes_eq name n then option_map (λ q. entry n q es) (f p)
    else option_map (entry n p) (change_value f name es)

-- the content, with f of the node one step on in its place
abbrev pub change_child : (Plain → Option Plain) → Step → Plain → Option Plain
change_child f (At k) (items ps) = option_map items (change_item f k ps)
change_child f (Key name) (entries es) = option_map entries (change_value f name es)
change_child f (At k) (entries es) = None
change_child f (Key name) (items ps) = None
change_child f step (int n) = None
change_child f step (words s) = None
change_child f step (bytes s) = None

-- the content, with f of the node at the path in its place: nothing where no node is there, or f
-- gives nothing
abbrev pub change_at : (Plain → Option Plain) → List Step → Plain → Option Plain
change_at f [] p = f p
change_at f (step ∷ path) p = change_child (change_at f path) step p

-- the items and one more
abbrev pub push_item : Plain → Plains → Plains
push_item v no_items = item v no_items
push_item v (item p ps) = item p (push_item v ps)

-- the entries with the value under the name, in order
abbrev pub put_entry : List ℕ → Plain → Pairs → Pairs
put_entry name v no_entries = entry name v no_entries
put_entry name v (entry n p es) =
    match_ordering (name_cmp name n) (entry name v (entry n p es)) (entry n v es)
    (entry n p (put_entry name v es))

-- a list with one more item; nothing else is pushed to
abbrev pub push_to : Plain → Plain → Option Plain
push_to v (items ps) = Some (items (push_item v ps))
push_to v (entries es) = None
push_to v (int n) = None
push_to v (words s) = None
push_to v (bytes s) = None

-- a map with the value under the name; nothing else is put into
abbrev pub put_into : List ℕ → Plain → Plain → Option Plain
put_into name v (entries es) = Some (entries (put_entry name v es))
put_into name v (items ps) = None
put_into name v (int n) = None
put_into name v (words s) = None
put_into name v (bytes s) = None

-- the content with the node at the path replaced
abbrev pub set_at : List Step → Plain → Plain → Option Plain
set_at path v p = change_at (λ _. Some v) path p

-- the content with one more item in the list at the path
abbrev pub push_at : List Step → Plain → Plain → Option Plain
push_at path v p = change_at (push_to v) path p

-- the content with the value under the name in the map at the path
abbrev pub put_at : List Step → List ℕ → Plain → Plain → Option Plain
put_at path name v p = change_at (put_into name v) path p
