-- How values are counted: row by row, where a row holds the values of one list or map that are
-- left.
use Rattle.std.specs.Prelude.{ℕ, ◌+◌, ◌*◌, max, List, [], ◌∷◌, ◌++◌, length, map}
use Rattle.df_frozen.specs.Plain.{Plain, Plains, Pairs, int, words, bytes, items, entries, no_items, item, no_entries, entry, from_pairs, items_node_count, items_byte_count, items_depth}
use Rattle.df_frozen.specs.code.Inner.{values_of}
use Rattle.df_frozen.specs.Value.{plain_all, named}
use Rattle.df_frozen.specs.declared.row.Row.{Row}
use Rattle.df_frozen.specs.declared.row.Row.TheVariants.{Items, Map}

-- the bytes in the names of these entries
abbrev pub name_byte_count : Pairs → ℕ
name_byte_count no_entries = 0
name_byte_count (entry k p es) = length k + name_byte_count es

-- the bytes of a node without those of the values in it
abbrev pub own_byte_count : Plain → ℕ
own_byte_count (int n) = 0
own_byte_count (words s) = length s
own_byte_count (bytes s) = length s
own_byte_count (items ps) = 0
own_byte_count (entries es) = name_byte_count es

-- the values that are left of a list or a map
abbrev pub left : Row → Plains
left (Items vs) = plain_all vs.now
left (Map es) = values_of (from_pairs (map named es.now))

-- the rows that are left, each with how many lists and maps are around it
abbrev pub rows_of : List (Row × ℕ) → List (Plains × ℕ)
rows_of rows = map (λ r. (left r.0, r.1)) rows

-- the rows and one more, unless it is empty
abbrev pub pushed : List (Plains × ℕ) → Plains → ℕ → List (Plains × ℕ)
pushed rows no_items around = rows
pushed rows (item p ps) around = rows ++ (item p ps, around) ∷ []

-- the nodes of these rows
abbrev pub rows_node_count : List (Plains × ℕ) → ℕ
rows_node_count [] = 0
rows_node_count (r ∷ rows) = items_node_count r.0 + rows_node_count rows

-- the bytes of these rows
abbrev pub rows_byte_count : List (Plains × ℕ) → ℕ
rows_byte_count [] = 0
rows_byte_count (r ∷ rows) = items_byte_count r.0 + rows_byte_count rows

-- how deep the row reaches
abbrev pub row_depth : Plains → ℕ → ℕ
row_depth no_items around = 0
row_depth (item p ps) around = around + items_depth (item p ps)

-- how deep the deepest of these rows reaches
abbrev pub rows_depth : List (Plains × ℕ) → ℕ
rows_depth [] = 0
rows_depth (r ∷ rows) = max (row_depth r.0 r.1) (rows_depth rows)

-- a bound on the steps that are left
abbrev pub rows_steps : List (Plains × ℕ) → ℕ
rows_steps rows = 2 * rows_node_count rows + length rows
