-- The plain content of a value: the tree of its numbers, words, bytes, items and entries.
use Rattle.std.specs.Prelude.{ℕ, suc, ◌+◌, max, ℤ, List, [], ◌∷◌, length}

mutual
  pub data Plain : Type 0 where
    int : ℤ → Plain
    words : List ℕ → Plain
    bytes : List ℕ → Plain
    items : Plains → Plain
    entries : Pairs → Plain

  pub data Plains : Type 0 where
    no_items : Plains
    item : Plain → Plains → Plains

  pub data Pairs : Type 0 where
    no_entries : Pairs
    entry : List ℕ → Plain → Pairs → Pairs

-- these items, in order
abbrev pub from_list : List Plain → Plains
from_list [] = no_items
from_list (p ∷ ps) = item p (from_list ps)

-- these entries, in order
abbrev pub from_pairs : List (List ℕ × Plain) → Pairs
from_pairs [] = no_entries
from_pairs (e ∷ es) = entry e.0 e.1 (from_pairs es)

-- how many numbers, words, bytes, lists and maps there are
abbrev mutual
  pub node_count : Plain → ℕ
  node_count (int n) = 1
  node_count (words s) = 1
  node_count (bytes s) = 1
  node_count (items ps) = suc (items_node_count ps)
  node_count (entries es) = suc (entries_node_count es)

  pub items_node_count : Plains → ℕ
  items_node_count no_items = 0
  items_node_count (item p ps) = node_count p + items_node_count ps

  pub entries_node_count : Pairs → ℕ
  entries_node_count no_entries = 0
  entries_node_count (entry k p es) = node_count p + entries_node_count es

-- how many bytes there are in words, blobs and the names of maps
abbrev mutual
  pub byte_count : Plain → ℕ
  byte_count (int n) = 0
  byte_count (words s) = length s
  byte_count (bytes s) = length s
  byte_count (items ps) = items_byte_count ps
  byte_count (entries es) = entries_byte_count es

  pub items_byte_count : Plains → ℕ
  items_byte_count no_items = 0
  items_byte_count (item p ps) = byte_count p + items_byte_count ps

  pub entries_byte_count : Pairs → ℕ
  entries_byte_count no_entries = 0
  entries_byte_count (entry k p es) = length k + byte_count p + entries_byte_count es

-- how deep it nests: 1, and one more for each list or map around
abbrev mutual
  pub depth : Plain → ℕ
  depth (int n) = 1
  depth (words s) = 1
  depth (bytes s) = 1
  depth (items ps) = suc (items_depth ps)
  depth (entries es) = suc (entries_depth es)

  pub items_depth : Plains → ℕ
  items_depth no_items = 0
  items_depth (item p ps) = max (depth p) (items_depth ps)

  pub entries_depth : Pairs → ℕ
  entries_depth no_entries = 0
  entries_depth (entry k p es) = max (depth p) (entries_depth es)

-- how deep the deepest of these items is
abbrev pub deepest_item : List Plain → ℕ
deepest_item ps = items_depth (from_list ps)

-- how deep the deepest of these entries is
abbrev pub deepest_entry : List (List ℕ × Plain) → ℕ
deepest_entry es = entries_depth (from_pairs es)
