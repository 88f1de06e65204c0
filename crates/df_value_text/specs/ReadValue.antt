-- Reading a value.
use Rattle.std.specs.Prelude.{ℕ, zero, suc, Bool, ◌&&◌, List, [], ◌∷◌, length, codes, Ok, Err, ◌==◌, if◌then◌else◌}
use Rattle.std.specs.Ordering.{is_lt}
use Rattle.df_format.specs.Reading.{Low, Read, ◌>>=◌, as_at, then_at, either_at, text_at, behind_at, closed_at, items_at}
use Rattle.df_frozen.specs.Name.{name_cmp}
use Rattle.df_frozen.specs.Plain.{Plain, int, words, bytes, items, entries, from_list, from_pairs}
use Rattle.df_value_text.specs.ReadBytes.{bytes_at}
use Rattle.df_value_text.specs.ReadName.{name_at}
use Rattle.df_value_text.specs.ReadTag.{listed}
use Rattle.df_value_text.specs.ReadWhole.{whole_at}
use Rattle.df_value_text.specs.ReadWords.{words_at}

-- ---- what stands between two bytes

-- no items
abbrev pub none_listed : {X : Type 0} → List ℕ → List X
none_listed text = []

-- items, of which there may be none, in front of this byte
abbrev pub ended_at : {X : Type 0} → ℕ → (List ℕ → Read ℕ (X × List X)) → List ℕ → Read ℕ (List X)
ended_at last some text =
    either_at (λ c. c == last) (as_at none_listed (text_at (last ∷ [])))
    (closed_at (last ∷ []) (as_at listed some)) text

-- ---- lists

-- a comma leads on to another value
abbrev pub leads_value : Plain → ℕ → List ℕ → Bool
leads_value prev c cs = c == 44

abbrev pub list_of : List Plain → Plain
list_of ps = items (from_list ps)

-- what stands behind `[`, each value read by inner
abbrev pub list_at : (List ℕ → Read ℕ Plain) → List ℕ → Read ℕ Plain
list_at inner text = as_at list_of (ended_at 93 (items_at leads_value inner (λ prev. inner))) text

-- ---- maps

-- `z` as often as a name has bytes
unfoldable pub greatest : List ℕ
greatest = codes "zzzzzzzzzzzzzzzzzzzzzzzzzzzzzzzz"

-- a comma leads on to another entry, unless no name is above the one before it
abbrev pub leads_entry : List ℕ × Plain → ℕ → List ℕ → Bool
leads_entry prev c cs = (c == 44) && is_lt (name_cmp prev.0 greatest)

-- the name at these bytes, if it is above this one
abbrev pub higher : List ℕ → List ℕ → List ℕ × List ℕ → Read ℕ (List ℕ)
higher prev text name = if is_lt (name_cmp prev name.0) then Ok name else Err (Low text)

abbrev pub higher_at : List ℕ → List ℕ → Read ℕ (List ℕ)
higher_at prev text = name_at text >>= higher prev text

-- `=` and a value
abbrev pub given_at : (List ℕ → Read ℕ Plain) → List ℕ → Read ℕ Plain
given_at inner text = behind_at (61 ∷ []) inner text

-- an entry
abbrev pub entry_at : (List ℕ → Read ℕ Plain) → List ℕ → Read ℕ (List ℕ × Plain)
entry_at inner text = then_at name_at (given_at inner) text

-- an entry whose name is above this one
abbrev pub next_entry_at : (List ℕ → Read ℕ Plain) → List ℕ → List ℕ → Read ℕ (List ℕ × Plain)
next_entry_at inner prev text = then_at (higher_at prev) (given_at inner) text

abbrev pub map_of : List (List ℕ × Plain) → Plain
map_of es = entries (from_pairs es)

-- what stands behind `(`, each value read by inner
abbrev pub map_at : (List ℕ → Read ℕ Plain) → List ℕ → Read ℕ Plain
map_at inner text =
    as_at map_of (ended_at 41 (items_at leads_entry (entry_at inner)
    (λ prev. next_entry_at inner prev.0))) text

-- ---- values

-- a value in which none lies: words, bytes or a number
abbrev pub leaf_at : List ℕ → Read ℕ Plain
leaf_at text =
    either_at (λ c. c == 34) (as_at words words_at)
    (either_at (λ c. c == 120) (as_at bytes bytes_at) (as_at int whole_at)) text

-- a list, a map or a leaf, each value in it read by inner
abbrev pub node_at : (List ℕ → Read ℕ Plain) → List ℕ → Read ℕ Plain
node_at inner text =
    either_at (λ c. c == 91) (behind_at (91 ∷ []) (list_at inner))
    (either_at (λ c. c == 40) (behind_at (40 ∷ []) (map_at inner)) leaf_at) text

-- a value in which lists and maps nest so deep at most; no text nests deeper than it is long
unfoldable pub value_within : ℕ → List ℕ → Read ℕ Plain
value_within zero text = leaf_at text
value_within (suc n) text = node_at (value_within n) text

-- a value: none nests deeper than it is long
abbrev pub value_at : List ℕ → Read ℕ Plain
value_at text = value_within (length text) text
