-- Counting a value's nodes, bytes and depth from left to right, and the first byte by which a count
-- of freezing is passed.
use Rattle.std.specs.Prelude.{◌≡◌, ℕ, ◌+◌, ◌<◌, ◌≤◌, max, Bool, true, false, ◌||◌, List, [], ◌∷◌, ◌++◌, length, drop, Option, Some, None, ◌==◌, nat_lt, if◌then◌else◌, ◌⊎◌}
use Rattle.std.specs.Char.{is_ascii_digit}
use Rattle.df_frozen.specs.Limits.{most_nodes, most_bytes, most_depth}
use Rattle.df_frozen.specs.Name.{is_name_byte}
use Rattle.df_frozen.specs.Plain.{Plain, node_count, byte_count, depth}
use Rattle.df_value_text.specs.ReadBytes.{is_hex}
use Rattle.df_value_text.specs.ReadEscape.{is_quoted}
use Rattle.df_value_text.specs.declared.place.Place.{Place}
use Rattle.df_value_text.specs.declared.place.Place.TheVariants as place
use Rattle.df_value_text.specs.declared.counting.Walk.{Walk}

-- a literal begins with this byte
abbrev pub begins_literal : ℕ → Bool
begins_literal c =
    is_ascii_digit c || ((c == 45) || ((c == 34) || ((c == 120) || ((c == 91) || (c == 40)))))

-- a value stands where one may begin
abbrev pub begins : Place → ℕ → Bool
begins place.Before c = begins_literal c
begins other c = false

-- how many bytes the character has that begins with this byte: none where it goes on with it
abbrev pub character : ℕ → ℕ
character c =
    if nat_lt c 128 then 1
    else if nat_lt c 194 then 0
    else if nat_lt c 224 then 2
    else if nat_lt c 240 then 3
    else if nat_lt c 245 then 4
    else 0

-- what a byte adds to the bytes: a character of words, an escape, two digits, or a byte of a name
abbrev pub weight : Place → ℕ → ℕ
weight place.Words c = if c == 34 then 0 else character c
weight place.Bytes c = if is_hex c then 1 else 0
weight place.Name c = if is_name_byte c then 1 else 0
weight other c = 0

-- `]` or `)`
abbrev pub closes : ℕ → Bool
closes c = (c == 93) || (c == 41)

-- where a byte behind a value leads: with `,` to the next name or value, and nowhere behind the
-- whole value
abbrev pub behind : List Bool → ℕ → Place
behind [] c = place.Done
behind (map ∷ brackets) c =
    if c == 44 then (if map then place.Name else place.Before)
    else if closes c then place.Behind
    else place.Done

-- where the first byte of a value leads, or a bracket that closes with no value before it
abbrev pub begun : ℕ → Place
begun c =
    if is_ascii_digit c || (c == 45) then place.Number
    else if c == 34 then place.Words
    else if c == 120 then place.Marked
    else if c == 91 then place.Before
    else if c == 40 then place.Name
    else if closes c then place.Behind
    else place.Done

-- where a byte of a name leads
abbrev pub named : ℕ → Place
named c =
    if c == 61 then place.Before
    else if is_name_byte c then place.Name
    else if closes c then place.Behind
    else place.Done

-- where a byte leads
abbrev pub next : Place → List Bool → ℕ → Place
next place.Before brackets c = begun c
next place.Number brackets c = if is_ascii_digit c then place.Number else behind brackets c
next place.Words brackets c = if c == 34 then place.Behind else if c == 92 then place.Escape
    else place.Words
next place.Escape brackets c = if is_quoted c then place.Words else place.EscapeDigit
next place.EscapeDigit brackets c = place.Words
next place.Marked brackets c = if c == 34 then place.Bytes else place.Done
next place.Bytes brackets c = if c == 34 then place.Behind else if is_hex c then place.BytesDigit
    else place.Done
next place.BytesDigit brackets c = place.Bytes
next place.Name brackets c = named c
next place.Behind brackets c = behind brackets c
next place.Done brackets c = place.Done

-- the brackets without the innermost, where it closes
abbrev pub closed : List Bool → ℕ → List Bool
closed brackets c = if closes c then drop 1 brackets else brackets

-- the brackets that are open behind a byte, the innermost first: false for lists, true for maps
abbrev pub nested : Place → List Bool → ℕ → List Bool
nested place.Before brackets c = if c == 91 then false ∷ brackets
    else if c == 40 then true ∷ brackets else closed brackets c
nested place.Number brackets c = closed brackets c
nested place.Name brackets c = closed brackets c
nested place.Behind brackets c = closed brackets c
nested other brackets c = brackets

-- a walk goes on by a byte: the first byte of a literal counts its node, and its depth, one more
-- than the brackets that are open
abbrev pub walk : Walk → ℕ → Walk
walk w c = record {
  place = next w.place w.brackets c;
  brackets = nested w.place w.brackets c;
  nodes = if begins w.place c then w.nodes + 1 else w.nodes;
  bytes = w.bytes + weight w.place c;
  deep = if begins w.place c then max w.deep (length w.brackets + 1) else w.deep;
}

-- a walk goes on by these bytes, from the left
abbrev pub walked : Walk → List ℕ → Walk
walked w [] = w
walked w (c ∷ cs) = walked (walk w c) cs

-- before a value, with nothing counted
abbrev pub start : Walk
start = record { place = place.Before; brackets = []; nodes = 0; bytes = 0; deep = 0 }

-- what is counted over these bytes
abbrev pub counts_of : List ℕ → Walk
counts_of bytes = walked start bytes

-- what is counted is what the value has
pub record AreCountsOf (p : Plain) (w : Walk) : Type 0 where
  pub nodes : w.nodes ≡ node_count p
  pub bytes : w.bytes ≡ byte_count p
  pub deep : w.deep ≡ depth p

-- no count of freezing is passed
pub record AreWithin (w : Walk) : Type 0 where
  pub nodes : w.nodes ≤ most_nodes
  pub bytes : w.bytes ≤ most_bytes
  pub flat : w.deep ≤ most_depth

-- a count of freezing is passed
abbrev pub IsOver : Walk → Type 0
IsOver w = (most_nodes < w.nodes) ⊎ ((most_bytes < w.bytes) ⊎ (most_depth < w.deep))

-- the brackets that are open are within the depth
abbrev pub IsCounted : Walk → Type 0
IsCounted w = length w.brackets ≤ w.deep

-- rest begins with the first of these bytes by which a count is passed
pub record FirstOver (bytes rest : List ℕ) : Type 0 where
  pub front : List ℕ
  pub first : ℕ
  pub more : List ℕ
  pub parts : bytes ≡ front ++ first ∷ more
  pub is : rest ≡ first ∷ more
  pub within : AreWithin (counts_of front)
  pub over : IsOver (counts_of (front ++ first ∷ []))

-- by no front of these bytes a count is passed
abbrev pub NeverOver : List ℕ → Type 0
NeverOver bytes = (front rest : List ℕ) → bytes ≡ front ++ rest → AreWithin (counts_of front)

-- what is told is the place of the first byte by which a count is passed, or that there is none
abbrev pub TellsOver : List ℕ → ℕ → Option ℕ → Type 0
TellsOver bytes at None = NeverOver (drop at bytes)
TellsOver bytes at (Some place) = (place < length bytes)
    × FirstOver (drop at bytes) (drop place bytes)
