-- What lies in a list or a map is less deep than the list or map.
use Rattle.std.specs.Prelude.{ℕ, ◌≤◌, max, List, [], ◌∷◌, map}
use Rattle.std.proofs.Common.{arith}
use denote.Param.Weighed.{most}
use Rattle.df_frozen.specs.Plain.{depth, deepest_item, deepest_entry}
use Rattle.df_frozen.specs.Value.{plain, named}
use Rattle.df_frozen.specs.declared.value.Value.{Value}
use Rattle.df_frozen.specs.declared.value.Value.TheVariants.{Int, Words, Bytes, Items, Map}
use Rattle.df_frozen.specs.declared.entries.Entries.TheDeep.{deep-Value}

-- a value counts for at most its depth
deep_le-depth : (v : Value) → deep-Value v ≤ depth (plain v)
deep_le-depth (Int n) = omega arith
deep_le-depth (Words s) = omega arith
deep_le-depth (Bytes s) = omega arith
deep_le-depth (Items ps) = omega arith
deep_le-depth (Map es) = omega arith

-- the items of a list are at most as deep as its deepest
pub most_le-deepest_item : (vs : List Value) → most deep-Value vs ≤ deepest_item (map plain vs)
most_le-deepest_item [] = omega arith
most_le-deepest_item (v ∷ vs) = omega (arith, deep_le-depth v, most_le-deepest_item vs)

-- the entries of a map are at most as deep as its deepest
pub most_le-deepest_entry : (es : List (List ℕ × Value)) →
    most (λ e. max 0 (max (deep-Value e.1) 0)) es ≤ deepest_entry (map named es)
most_le-deepest_entry [] = omega arith
most_le-deepest_entry (e ∷ es) = omega (arith, deep_le-depth e.1, most_le-deepest_entry es)
