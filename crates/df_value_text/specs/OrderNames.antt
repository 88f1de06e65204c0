-- The one place at which a map is refused though its bytes could go on.
use Rattle.std.specs.Prelude.{◌≡◌, true, false, ℕ, List, [], ◌∷◌, ◌++◌, codes, ⊤}
use Rattle.std.specs.List.{flat_map}
use Rattle.std.specs.Ordering.{is_lt}
use Rattle.df_format.specs.Grammar.{IsLongest}
use Rattle.df_frozen.specs.Name.{is_name, name_cmp}
use Rattle.df_frozen.specs.Plain.{Plain, from_list, from_pairs}
use Rattle.df_value_text.specs.Fits.{AreSpelled, AreEntries}
use Rattle.df_value_text.specs.Value.{value_text, entry_text}

-- at rest stands a name that isn't above this one
pub record NameStandsLow (prev rest : List ℕ) : Type 0 where
  pub name : List ℕ
  pub more : List ℕ
  pub longest : IsLongest (λ text. text) (λ text. is_name text ≡ true) rest name more
  pub low : is_lt (name_cmp prev name) ≡ false

-- a list that is open behind these items, or a map behind these entries and the name of one more
pub data Open : Type 0 where
  in_list : List Plain → Open
  in_map : List (List ℕ × Plain) → List ℕ → Open

-- values, each with a comma behind it
abbrev pub values_led : List Plain → List ℕ
values_led ps = flat_map (λ p. value_text p ++ codes ",") ps

-- entries, each with a comma behind it
abbrev pub entries_led : List (List ℕ × Plain) → List ℕ
entries_led es = flat_map (λ e. entry_text e ++ codes ",") es

-- what stands of it, up to the value that is open
abbrev pub open_text : Open → List ℕ
open_text (in_list ps) = codes "[" ++ values_led ps
open_text (in_map es name) = codes "(" ++ (entries_led es ++ (name ++ codes "="))

-- these are entries of a map, and one of this name may stand behind them
abbrev pub MayFollow : List (List ℕ × Plain) → List ℕ → Type 0
MayFollow es name = (value : Plain) × AreEntries (from_pairs (es ++ (name, value) ∷ []))

-- the items have a spelling, or the entries may stand so, and the name behind them
abbrev pub IsOpen : Open → Type 0
IsOpen (in_list ps) = AreSpelled (from_list ps)
IsOpen (in_map es name) = MayFollow es name

-- each of these, the outermost first
abbrev pub AreOpen : List Open → Type 0
AreOpen [] = ⊤
AreOpen (o ∷ os) = IsOpen o × AreOpen os

-- In what is open a map stands with entries and a comma, behind which some name may stand, and the
-- name at rest isn't above the last of theirs.
pub record LowWithin (front rest : List ℕ) : Type 0 where
  pub opened : List Open
  pub are : AreOpen opened
  pub es : List (List ℕ × Plain)
  pub last : List ℕ × Plain
  pub other : List ℕ
  pub may : MayFollow (es ++ last ∷ []) other
  pub is : front ≡ flat_map open_text opened ++ (codes "(" ++ entries_led (es ++ last ∷ []))
  pub low : NameStandsLow last.0 rest

-- behind some front of these bytes a low name stands
abbrev pub LowInValue : List ℕ → List ℕ → Type 0
LowInValue bytes rest = (front : List ℕ) × (bytes ≡ front ++ rest) × LowWithin front rest
