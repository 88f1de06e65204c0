-- What a unit is to be handed: what is left, and what is about to be.
use Rattle.std.specs.Prelude.{List, [], ◌∷◌, ◌++◌, refl}
use Rattle.std.specs.Coded.{Coded, code_by, coded×, coded_list}
use Rattle.df_unit.specs.contracts.commit.Given as given
use Rattle.df_unit.specs.declared.commit.Given.{Given}

pub record LineState : Type 0 where
  pub left : List Given
  pub staged : List Given

-- a line is stored as its two lists
abbrev pub line_code : Coded LineState
line_code =
    code_by (List Given × List Given)
    (coded× (coded_list given.the_row.coded) (coded_list given.the_row.coded))
    (λ l. (l.left, l.staged))
    (λ p. record { left = p.0; staged = p.1 })
    (λ _. refl)

-- the line with what was staged handed over
abbrev pub settled : LineState → LineState
settled l = record { left = l.left ++ l.staged; staged = [] }

-- the line without what is staged
abbrev pub quiet : LineState → LineState
quiet l = record l { staged = [] }

-- the line with one more delivery staged
abbrev pub staged_more : Given → LineState → LineState
staged_more d l = record l { staged = l.staged ++ d ∷ [] }
