-- The fields of a value that is a map.
use Rattle.std.specs.Prelude.{ℕ, suc, Bool, true, false, if◌then◌else◌, List, [], ◌∷◌, Option, Some, None, ℤ, pos}
use Rattle.std.specs.Ordering.{int_eq}
use Rattle.df_frozen.specs.Place.{node_at}
use Rattle.df_frozen.specs.Plain.{Plain, Pairs, int, words, bytes, items, entries, no_entries, entry}
use Rattle.df_frozen.specs.declared.step.Step.TheVariants.{Key}
use Rattle.df_records.specs.Fields.{is_symbol}

-- how many entries there are
abbrev pub entry_count : Pairs → ℕ
entry_count no_entries = 0
entry_count (entry name p es) = suc (entry_count es)

-- how many fields a map has; what is no map has none
abbrev pub field_count : Plain → ℕ
field_count (entries es) = entry_count es
field_count (int n) = 0
field_count (words s) = 0
field_count (bytes s) = 0
field_count (items ps) = 0

-- what a map has under a name
abbrev pub field : List ℕ → Plain → Option Plain
field name p = node_at (Key name ∷ []) p

-- the number that is there
abbrev pub int_of : Option Plain → Option ℤ
int_of (Some (int n)) = Some n
int_of (Some (words s)) = None
int_of (Some (bytes s)) = None
int_of (Some (items ps)) = None
int_of (Some (entries es)) = None
int_of None = None

-- the words, if they are a symbol
abbrev pub symbol_from : List ℕ → Option (List ℕ)
symbol_from s = if is_symbol s then Some s else None

-- the symbol that is there
abbrev pub symbol_of : Option Plain → Option (List ℕ)
symbol_of (Some (words s)) = symbol_from s
symbol_of (Some (int n)) = None
symbol_of (Some (bytes s)) = None
symbol_of (Some (items ps)) = None
symbol_of (Some (entries es)) = None
symbol_of None = None

-- the number under a name
abbrev pub int_field : List ℕ → Plain → Option ℤ
int_field name p = int_of (field name p)

-- the symbol under a name
abbrev pub symbol_field : List ℕ → Plain → Option (List ℕ)
symbol_field name p = symbol_of (field name p)

-- the flag that a number is: 0 is false, and 1 is true
abbrev pub flag_of : Option ℤ → Option Bool
flag_of None = None
flag_of (Some n) =
    if int_eq n (pos 0) then Some false else if int_eq n (pos 1) then Some true else None
