-- Reading a label and a privilege.
use Rattle.std.specs.Prelude.{ℕ, Bool, true, false, List, [], ◌∷◌, Option, Some, None, ◌==◌}
use Rattle.df_format.specs.Reading.{Read, as_at, then_at, maybe_at, either_at, text_at, behind_at, closed_at}
use Rattle.df_label.specs.declared.label.Label.{Label}
use Rattle.df_label.specs.declared.privilege.Privilege.{Privilege}
use Rattle.df_label.specs.declared.privilege.Right.{Right}
use Rattle.df_label.specs.declared.privilege.Right.TheVariants.{Plus, Minus, PlusAuth, MinusAuth}
use Rattle.df_value_text.specs.ReadTag.{tag_at, tags_at}

-- the label of two sets
abbrev pub label_of : List (List ℕ) × List (List ℕ) → Label
label_of sets = record { s = sets.0; i = sets.1 }

abbrev pub label_at : List ℕ → Read ℕ Label
label_at bytes =
    behind_at (123
    ∷ []) (as_at label_of (then_at (closed_at (124 ∷ []) tags_at) (closed_at (125 ∷ []) tags_at)))
    bytes

-- what stands behind a sign: nothing, or `auth`
abbrev pub auth_at : List ℕ → Read ℕ (Option (List ℕ))
auth_at bytes = maybe_at (λ c. c == 97) (text_at (97 ∷ 117 ∷ 116 ∷ 104 ∷ [])) bytes

abbrev pub plus_of : Option (List ℕ) → Right
plus_of None = Plus
plus_of (Some word) = PlusAuth

abbrev pub minus_of : Option (List ℕ) → Right
minus_of None = Minus
minus_of (Some word) = MinusAuth

abbrev pub right_at : List ℕ → Read ℕ Right
right_at bytes =
    either_at (λ c. c == 43) (behind_at (43 ∷ []) (as_at plus_of auth_at))
    (behind_at (45 ∷ []) (as_at minus_of auth_at)) bytes

-- the privilege of a tag and a right
abbrev pub privilege_of : List ℕ × Right → Privilege
privilege_of parts = record { tag = parts.0; right = parts.1 }

abbrev pub privilege_at : List ℕ → Read ℕ Privilege
privilege_at bytes = as_at privilege_of (then_at tag_at right_at) bytes

-- the word that stands or doesn't
abbrev pub auth_word : Bool → Option (List ℕ)
auth_word false = None
auth_word true = Some (97 ∷ 117 ∷ 116 ∷ 104 ∷ [])
