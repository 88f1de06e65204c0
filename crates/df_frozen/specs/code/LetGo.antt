-- How values are let go: one after another, off the end of a list or a map.
use Rattle.std.specs.Prelude.{ℕ, ◌+◌, List, [], ◌∷◌}
use Rattle.df_frozen.specs.Plain.{Plain, Plains, Pairs, int, words, bytes, items, entries, no_items, item, no_entries, entry}
use Rattle.df_frozen.specs.Entries.{values}
use Rattle.df_frozen.specs.declared.value.Value.{Value}
use Rattle.df_frozen.specs.declared.value.Value.TheVariants.{Int, Words, Bytes, Items, Map}

-- the values in a list or a map, in order; any other value has none
abbrev pub listed : Value → List Plain
listed (Int n) = []
listed (Words s) = []
listed (Bytes s) = []
listed (Items ps) = ps
listed (Map es) = values es

-- a bound on the steps that a value takes where it isn't first
abbrev mutual
  pub steps : Plain → ℕ
  steps (int n) = 1
  steps (words s) = 1
  steps (bytes s) = 1
  steps (items ps) = 2 + items_steps ps
  steps (entries es) = 2 + entries_steps es

  pub items_steps : Plains → ℕ
  items_steps no_items = 0
  items_steps (item p ps) = steps p + items_steps ps

  pub entries_steps : Pairs → ℕ
  entries_steps no_entries = 0
  entries_steps (entry k p es) = steps p + entries_steps es

-- a bound on the steps that a value takes where it is first: what is first in it is opened once
-- only
abbrev mutual
  pub first_steps : Plain → ℕ
  first_steps (int n) = 1
  first_steps (words s) = 1
  first_steps (bytes s) = 1
  first_steps (items ps) = 1 + items_first_steps ps
  first_steps (entries es) = 1 + entries_first_steps es

  pub items_first_steps : Plains → ℕ
  items_first_steps no_items = 0
  items_first_steps (item p ps) = first_steps p + items_steps ps

  pub entries_first_steps : Pairs → ℕ
  entries_first_steps no_entries = 0
  entries_first_steps (entry k p es) = first_steps p + entries_steps es

-- the steps of these values where none is first
abbrev pub full_cost : List Plain → ℕ
full_cost [] = 0
full_cost (p ∷ ps) = steps p + full_cost ps

-- the steps of these values
abbrev pub cost : List Plain → ℕ
cost [] = 0
cost (p ∷ ps) = first_steps p + full_cost ps
