-- A row for each root: the privileges that its family may hold, as far as they are found.
use Rattle.std.specs.Prelude.{◌≡◌, ◌⊎◌, ℕ, ◌+◌, ◌<◌, ◌||◌, ◌&&◌, List, [], length, map, slice_index_or, slice_set}
use Rattle.std.specs.List.{Contains}
use Rattle.df_family.specs.Family.{begins_with}
use Rattle.df_family.specs.May.{Relation}
use Rattle.df_label.specs.Privileges.{contains as contains_privilege}
use Rattle.df_label.specs.Tag.{maker_of}
use Rattle.df_label.specs.TagSet.{contains}
use Rattle.df_label.specs.declared.label.Label.{Label}
use Rattle.df_label.specs.declared.privilege.Privilege.{Privilege}
use Rattle.df_start.specs.declared.start.RootStart.{RootStart}
use Rattle.df_lint.specs.code.Cells.{IsRow, cells_at, row_of}
use Rattle.df_lint.specs.code.Passing.{Gains, row_reaches}
use Rattle.df_label.specs.Ascending.{IsAscending}
use Rattle.df_label.specs.Tag.{tag_cmp}
use Rattle.df_lint.specs.declared.cell.Cell.{Cell}
use Rattle.df_priv.specs.Needed.{needed_to_attach}

-- the row of a root
abbrev pub row_at : List (List Privilege) → ℕ → List Privilege
row_at rows k = slice_index_or rows k []

-- what the rows have found
abbrev pub found : List (List Privilege) → Relation
found rows k p = contains_privilege (row_at rows k) p

-- the rows that the cells of each root are
abbrev pub rows_of : List (List ℕ) → List (List Cell) → List (List Privilege)
rows_of tags rows = map (row_of tags) rows

-- each root has a cell for each tag, marked where its label asks for the integrity
pub record IsTable (roots : List RootStart) (tags : List (List ℕ)) (rows : List (List Cell))
    : Type 0 where
  pub ascending : IsAscending tag_cmp tags
  pub count : length rows ≡ length roots
  pub rows_are : (k : ℕ) (d : RootStart) → k < length roots →
      IsRow tags (slice_index_or roots k d).label.i (cells_at rows k)

-- the row of a root before anything was passed on
abbrev pub IsFirstRow : List (List ℕ) → ℕ → List Privilege → List Privilege → Type 0
IsFirstRow tags k given row = (p : Privilege) → contains_privilege row p
    ≡ (contains_privilege given p || (contains tags p.tag && begins_with k (maker_of p.tag)))

-- the taker has all that it had, and what the giver's may attach, where that reaches it
abbrev pub IsGiven : Label → List Privilege → Label → List Privilege → List Privilege → Type 0
IsGiven from giver to old new = (p : Privilege) → contains_privilege new p
    ≡ (contains_privilege old p
    || (row_reaches from giver to old && contains_privilege giver (needed_to_attach p)))

-- so it is of a root's row, whatever stands for a root that isn't there
abbrev pub IsGivenBy : List RootStart → ℕ → ℕ → List (List Privilege) → List Privilege → Type 0
IsGivenBy roots from to rows new = (a b : RootStart) →
    IsGiven (slice_index_or roots from a).label (row_at rows from)
    (slice_index_or roots to b).label (row_at rows to) new

-- what is passed on from one root to another, and what waits
pub record Settles (roots : List RootStart) (from to : ℕ) (rows : List (List Privilege))
    (waiting : List ℕ) (rows' : List (List Privilege)) (waiting' : List ℕ) : Type 0 where
  pub row : rows' ≡ slice_set rows to (row_at rows' to)
  pub given : IsGivenBy roots from to rows (row_at rows' to)
  pub kept : (k : ℕ) → Contains waiting k → Contains waiting' k
  pub noted : Contains waiting' to ⊎ (rows' ≡ rows)
  pub in_range : ((k : ℕ) → Contains waiting k → k < length roots) → (k : ℕ) →
      Contains waiting' k → k < length roots
  pub few : (waiting' ≡ waiting)
      ⊎ ((length waiting' ≡ length waiting + 1) × Gains (row_at rows to) (row_at rows' to))
