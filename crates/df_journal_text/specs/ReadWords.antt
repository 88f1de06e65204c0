-- Reading words and lines.
use Rattle.std.specs.Prelude.{ℕ, Bool, true, false, ◌&&◌, List, [], ◌∷◌, Ok, Err, ◌==◌, if◌then◌else◌}
use Rattle.std.specs.Ordering.{is_lt}
use Rattle.df_format.specs.Reading.{Bad, Low, Read, ◌>>=◌, then_at, behind_at, closed_at, text_at, all_at}
use Rattle.df_label.specs.Privilege.{privilege_cmp}
use Rattle.df_label.specs.declared.label.Label.{Label}
use Rattle.df_label.specs.declared.privilege.Privilege.{Privilege}
use Rattle.df_value_text.specs.Number.{begins_with}
use Rattle.df_value_text.specs.ReadLabel.{label_at, privilege_at}
use Rattle.df_value_text.specs.ReadName.{name_at}
use Rattle.df_journal_text.specs.Line.{word}

-- a word behind a space
abbrev pub word_at : {X : Type 0} → (List ℕ → Read ℕ X) → List ℕ → Read ℕ X
word_at read bytes = behind_at (32 ∷ []) read bytes

-- a line: what is read, and a line feed
abbrev pub line_at : {X : Type 0} → (List ℕ → Read ℕ X) → List ℕ → Read ℕ X
line_at read bytes = closed_at (10 ∷ []) read bytes

-- whether these two bytes stand in front
abbrev pub begins_pair : ℕ → ℕ → List ℕ → Bool
begins_pair a b [] = false
begins_pair a b (c ∷ cs) = (c == a) && begins_with b cs

-- whether each of these privileges is above the one before it
abbrev pub ascend : List Privilege → Bool
ascend [] = true
ascend (p ∷ []) = true
ascend (p ∷ q ∷ ps) = is_lt (privilege_cmp p q) && ascend (q ∷ ps)

-- the privileges that were read at these bytes, if they ascend
abbrev pub ascending : List ℕ → List Privilege × List ℕ → Read ℕ (List Privilege)
ascending bytes read = if ascend read.0 then Ok read else Err (Low bytes)

-- privileges, each a word, as many as there are
abbrev pub each_privilege_at : List ℕ → Read ℕ (List Privilege)
each_privilege_at bytes = all_at (begins_pair 32 35) (word_at privilege_at) bytes

-- privileges in ascending order
abbrev pub privileges_at : List ℕ → Read ℕ (List Privilege)
privileges_at bytes = each_privilege_at bytes >>= ascending bytes

-- a label and a name
abbrev pub named_at : List ℕ → Read ℕ (Label × List ℕ)
named_at bytes = then_at (word_at label_at) (word_at name_at) bytes

-- this, of which no more words stand there
abbrev pub bare_at : {X : Type 0} → X → List ℕ → Read ℕ X
bare_at x bytes = Ok (x, bytes)

-- what is read behind a keyword, or else
abbrev pub keyed : {X : Type 0} → Read ℕ (List ℕ) → (List ℕ → Read ℕ X) → Read ℕ X → Read ℕ X
keyed (Ok keyword) read others = read keyword.1
keyed (Err stop) read others = others

-- a keyword, as a word, and what is read behind it: the first of these that stands in front
abbrev pub kinds_at : {X : Type 0} → List (List ℕ × (List ℕ → Read ℕ X)) → List ℕ → Read ℕ X
kinds_at [] bytes = Err (Bad bytes)
kinds_at (kind ∷ kinds) bytes = keyed (text_at (word kind.0) bytes) kind.1 (kinds_at kinds bytes)
