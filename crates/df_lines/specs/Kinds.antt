-- What is wrong with a line that is refused.
use Rattle.std.specs.Prelude.{ℕ, List, codes}
use Rattle.df_lines.specs.declared.refused.BadKind.{BadKind}
use Rattle.df_lines.specs.declared.refused.BadKind.TheVariants.{Syntax, TooLarge}
use Rattle.df_lines.specs.declared.refused.FileRefused.{FileRefused}
use Rattle.df_lines.specs.declared.refused.FileRefused.TheVariants as refused

-- the word for it
abbrev pub kind_text : BadKind → List ℕ
kind_text Syntax = codes "syntax"
kind_text TooLarge = codes "too large"

-- the refusal of this line for it
abbrev pub refused_line : ℕ → BadKind → FileRefused
refused_line line Syntax = refused.Syntax line
refused_line line TooLarge = refused.TooLarge line
