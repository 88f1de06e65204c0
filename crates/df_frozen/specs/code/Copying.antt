-- How values are copied: layer by layer, where a layer is a list or map with the copies of its
-- first values.
use Rattle.std.specs.Prelude.{◌≡◌, ⊤, List, [], ◌∷◌, length, map, take, drop, Option, Some, None}
use Rattle.df_frozen.specs.Plain.{Plain, items, entries, from_list, from_pairs}
use Rattle.df_frozen.specs.Entries.{names, values, IsAscending}
use Rattle.df_frozen.specs.Value.{plain, named}
use Rattle.df_frozen.specs.declared.copy.Layer.{Layer}
use Rattle.df_frozen.specs.declared.copy.Layer.TheVariants.{Items, Map}
use Rattle.df_frozen.specs.declared.copy.Begun.{Begun}
use Rattle.df_frozen.specs.declared.copy.Begun.TheVariants.{Whole, Layer as Open}

-- the content that is copied
abbrev pub content : Layer → Plain
content (Items from made) = items (from_list from.now)
content (Map from made) = entries (from_pairs from.now)

-- what isn't copied yet
abbrev pub rest : Layer → List Plain
rest (Items from made) = drop (length made.items) from.now
rest (Map from made) = drop (length made.items) (values from.now)

-- the first of these
abbrev pub first : {X : Type 0} → List X → Option X
first [] = None
first (x ∷ xs) = Some x

-- the copies are equal to what they are made from, and names ascend
abbrev pub IsCopied : Layer → Type 0
IsCopied (Items from made) = map plain made.items ≡ take (length made.items) from.now
IsCopied (Map from made) = (map named made.items ≡ take (length made.items) from.now)
    × IsAscending (names from.now)

-- nothing is copied yet
abbrev pub IsFresh : Layer → Type 0
IsFresh (Items from made) = made.items ≡ []
IsFresh (Map from made) = (made.items ≡ []) × IsAscending (names from.now)

-- a layer of a list
abbrev pub IsList : Layer → Type 0
IsList (Items from made) = ⊤
IsList (Map from made) = ⊥

-- a layer of a map
abbrev pub IsMap : Layer → Type 0
IsMap (Items from made) = ⊥
IsMap (Map from made) = ⊤

-- a whole copy of the content, or a layer to make one
abbrev pub IsBegun : Plain → Begun → Type 0
IsBegun p (Whole v) = plain v ≡ p
IsBegun p (Open l) = (content l ≡ p) × IsFresh l
