-- How the map of a message is built: its fields are put into it one by one.
use Rattle.std.specs.Prelude.{ℕ, Bool, ◌&&◌, List, [], ◌∷◌}
use Rattle.df_frozen.specs.Name.{is_name}
use Rattle.df_frozen.specs.Place.{put_entry}
use Rattle.df_frozen.specs.Plain.{Plain, Pairs, int, words, entries, no_entries}
use Rattle.df_messages.specs.Drafts.{flag_int}
use Rattle.df_messages.specs.declared.value.Field.{Field}
use Rattle.df_messages.specs.declared.value.Field.TheVariants.{Int, Flag, Symbol}
use Rattle.df_records.specs.Fields.{is_symbol}

-- a field's name, and what it has
abbrev pub content_of : Field → List ℕ × Plain
content_of (Int name n) = (name.now, int n)
content_of (Flag name b) = (name.now, flag_int b)
content_of (Symbol name w) = (name.now, words w.now)

-- whether the field can be in a message
abbrev pub is_good : Field → Bool
is_good (Int name n) = is_name name.now
is_good (Flag name b) = is_name name.now
is_good (Symbol name w) = is_name name.now && is_symbol w.now

-- a map's entries with one more field
abbrev pub put_field : List ℕ × Plain → Pairs → Pairs
put_field f es = put_entry f.0 f.1 es

-- the fields put in one after another
abbrev pub put_all : Pairs → List (List ℕ × Plain) → Pairs
put_all es [] = es
put_all es (f ∷ fs) = put_all (put_field f es) fs

-- a map into which these fields were put
abbrev pub built : List (List ℕ × Plain) → Plain
built fields = entries (put_all no_entries fields)
