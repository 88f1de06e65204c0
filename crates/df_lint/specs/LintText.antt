-- The lines that tell which privileges each root's family may hold.
use Rattle.std.specs.Prelude.{◌≡◌, ℕ, zero, suc, Bool, true, false, List, [], ◌∷◌, ◌++◌, codes, decimal, length}
use Rattle.std.specs.List.{flat_map}
use Rattle.df_family.specs.Family.{names}
use Rattle.df_family.specs.May.{IsLeast, Relation}
use Rattle.df_family.specs.Never.{NeverHolds}
use Rattle.df_label.specs.Ascending.{IsAscending}
use Rattle.df_label.specs.Tag.{tag_cmp}
use Rattle.df_label.specs.declared.privilege.Privilege.{Privilege}
use Rattle.df_label.specs.declared.privilege.Right.TheVariants.{Plus, Minus, PlusAuth, MinusAuth}
use Rattle.df_lint.specs.Tags.{AreTagsOf}
use Rattle.df_rules.specs.Always.{Roots}
use Rattle.df_value_text.specs.Label.{privilege_text}

-- the privileges over a tag, ascending
abbrev pub over : List ℕ → List Privilege
over t =
    record { tag = t; right = Plus } ∷ record { tag = t; right = Minus }
    ∷ record { tag = t; right = PlusAuth } ∷ record { tag = t; right = MinusAuth } ∷ []

-- the word for whether a privilege may be held
abbrev pub may_text : Bool → List ℕ
may_text true = codes "may"
may_text false = codes "never"

-- the line of a root and a privilege
abbrev pub lint_line : ℕ → Privilege → Bool → List ℕ
lint_line root p may =
    decimal root ++ codes " " ++ privilege_text p ++ codes " " ++ may_text may ++ codes "\n"

-- the lines of a root and a tag
abbrev pub tag_lines : ℕ → (Privilege → Bool) → List ℕ → List ℕ
tag_lines root may t = flat_map (λ p. lint_line root p (may p)) (over t)

-- the lines of the first roots over these tags, in order
abbrev pub lint_lines : Relation → List (List ℕ) → ℕ → List ℕ
lint_lines may tags zero = []
lint_lines may tags (suc root) =
    lint_lines may tags root ++ flat_map (tag_lines root (may root)) tags

-- the text is the lines of a start: of each root in order and each privilege over its tags,
-- ascending, whether the root's family may hold it; and where it is said never to, no unit of it
-- ever does
pub record IsLintText (start : Roots) (text : List ℕ) : Type 0 where
  pub may : Relation
  pub tags : List (List ℕ)
  pub least : IsLeast start may
  pub tags_are : AreTagsOf start tags
  pub ascending : IsAscending tag_cmp tags
  pub never : (k : ℕ) (p : Privilege) → names start p.tag ≡ true → may k p ≡ false →
      NeverHolds start k p
  pub lines : text ≡ lint_lines may tags (length start)
