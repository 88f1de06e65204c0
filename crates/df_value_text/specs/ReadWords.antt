-- Reading words, character by character.
use Rattle.std.specs.Prelude.{ℕ, Bool, ◌||◌, List, [], ◌∷◌, ◌==◌, nat_lt}
use Rattle.std.specs.List.{concat}
use Rattle.df_format.specs.Reading.{Read, as_at, either_at, all_at, starts, behind_at, closed_at}
use Rattle.df_value_text.specs.ReadEscape.{is_plain, ascii_at}
use Rattle.df_value_text.specs.ReadWide.{is_lead, wide_at}

-- a byte and no other
abbrev pub alone : ℕ → List ℕ
alone byte = byte ∷ []

-- a spelled character: the bytes for which it stands
abbrev pub char_at : List ℕ → Read ℕ (List ℕ)
char_at bytes = either_at (λ c. nat_lt c 128) (as_at alone ascii_at) wide_at bytes

-- a byte with which a spelled character begins
abbrev pub begins_char : ℕ → Bool
begins_char c = (c == 92) || (is_plain c || is_lead c)

-- as many characters as there are: their bytes
abbrev pub chars_at : List ℕ → Read ℕ (List ℕ)
chars_at bytes = as_at concat (all_at (starts begins_char) char_at) bytes

-- words, in quotes: the bytes of the text
abbrev pub words_at : List ℕ → Read ℕ (List ℕ)
words_at bytes = behind_at (34 ∷ []) (closed_at (34 ∷ []) chars_at) bytes
