-- How tags, sets of tags, labels and privileges are spelled.
use Rattle.std.specs.Prelude.{ℕ, List, ◌++◌, codes}
use Rattle.df_label.specs.declared.label.Label.{Label}
use Rattle.df_label.specs.declared.privilege.Privilege.{Privilege}
use Rattle.df_label.specs.declared.privilege.Right.{Right}
use Rattle.df_label.specs.declared.privilege.Right.TheVariants.{Plus, Minus, PlusAuth, MinusAuth}
pub use Rattle.df_label.specs.Spelling.{path_text, tag_text, tags_text}

-- a label: both sets in braces, with a bar between them
abbrev pub label_text : Label → List ℕ
label_text label = codes "{" ++ tags_text label.s ++ codes "|" ++ tags_text label.i ++ codes "}"

-- what a right adds to a tag
abbrev pub right_text : Right → List ℕ
right_text Plus = codes "+"
right_text Minus = codes "-"
right_text PlusAuth = codes "+auth"
right_text MinusAuth = codes "-auth"

-- a privilege: its tag and its right
abbrev pub privilege_text : Privilege → List ℕ
privilege_text privilege = tag_text privilege.tag ++ right_text privilege.right
