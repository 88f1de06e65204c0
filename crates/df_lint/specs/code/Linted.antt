-- What a Lint keeps of its start.
use Rattle.std.specs.Prelude.{ℕ, List, map}
use Rattle.df_family.specs.May.{IsLeast}
use Rattle.df_start.specs.Begun.{begun}
use Rattle.df_start.specs.declared.start.RootStart.{RootStart}
use Rattle.df_lint.specs.Tags.{AreTagsOf}
use Rattle.df_lint.specs.code.Rows.{IsTable, found, rows_of}
use Rattle.df_lint.specs.declared.cell.Cell.{Cell}

-- the tags are those of the roots, and the rows have the least relation that keeps the rules
pub record IsLinted (roots : List RootStart) (tags : List (List ℕ)) (rows : List (List Cell))
    : Type 0 where
  pub table : IsTable roots tags rows
  pub tags_are : AreTagsOf (map begun roots) tags
  pub least : IsLeast (map begun roots) (found (rows_of tags rows))
