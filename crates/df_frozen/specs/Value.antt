use Rattle.std.specs.Prelude.{ℕ, List, map}
use Rattle.df_frozen.specs.Plain.{Plain, Plains, int, words, bytes, items, entries, from_list, from_pairs}
use Rattle.df_frozen.specs.declared.value.Value.{Value}
use Rattle.df_frozen.specs.declared.value.Value.TheVariants.{Int, Words, Bytes, Items, Map}

-- the plain content of a value
abbrev pub plain : Value → Plain
plain (Int n) = int n
plain (Words s) = words s
plain (Bytes s) = bytes s
plain (Items ps) = items (from_list ps)
plain (Map es) = entries (from_pairs es)

-- the plain content of these values, in order
abbrev pub plain_all : List Value → Plains
plain_all vs = from_list (map plain vs)

-- an entry with the plain content of its value
abbrev pub named : List ℕ × Value → List ℕ × Plain
named e = (e.0, plain e.1)
