-- How rows grow until nothing more can be passed on.
use Rattle.std.specs.Prelude.{◌≡◌, ◌⊎◌, ℕ, suc, ◌+◌, ◌*◌, ◌<◌, ◌≤◌, true, if◌then◌else◌, List, [], ◌∷◌, length, slice_index_or}
use Rattle.std.specs.List.{Contains}
use Rattle.df_family.specs.May.{Relation}
use Rattle.df_label.specs.Privileges.{contains as contains_privilege}
use Rattle.df_label.specs.declared.privilege.Privilege.{Privilege}
use Rattle.df_start.specs.declared.start.RootStart.{RootStart}
use Rattle.df_lint.specs.code.Passing.{row_reaches}
use Rattle.df_lint.specs.code.Rows.{row_at}
use Rattle.df_priv.specs.Needed.{needed_to_attach}

-- how many of the privileges a row lacks
abbrev pub lacks : List Privilege → List Privilege → ℕ
lacks [] row = 0
lacks (q ∷ qs) row = if contains_privilege row q then lacks qs row else suc (lacks qs row)

-- and how many all rows lack
abbrev pub missing : List Privilege → List (List Privilege) → ℕ
missing all [] = 0
missing all (row ∷ rows) = lacks all row + missing all rows

-- the work that is left at most
abbrev pub work : List Privilege → List (List Privilege) → List ℕ → ℕ
work all rows waiting = 2 * missing all rows + length waiting

-- each privilege of the rows is one of these, and with what is needed to attach one these have it
pub record AreWithin (all : List Privilege) (rows : List (List Privilege)) : Type 0 where
  pub rows_are : (k : ℕ) (p : Privilege) → contains_privilege (row_at rows k) p ≡ true →
      contains_privilege all p ≡ true
  pub attached : (p : Privilege) → contains_privilege all (needed_to_attach p) ≡ true →
      contains_privilege all p ≡ true

-- nothing more can be passed on from one root to another
abbrev pub IsSettled : List RootStart → List (List Privilege) → ℕ → ℕ → Type 0
IsSettled roots rows j k = (a b : RootStart) (p : Privilege) →
    row_reaches (slice_index_or roots j a).label (row_at rows j) (slice_index_or roots k b).label
    (row_at rows k) ≡ true → contains_privilege (row_at rows j) (needed_to_attach p) ≡ true →
    contains_privilege (row_at rows k) p ≡ true

-- so it is, or one of the two waits
abbrev pub IsSeen : List RootStart → List (List Privilege) → List ℕ → ℕ → ℕ → Type 0
IsSeen roots rows waiting j k =
    Contains waiting j ⊎ (Contains waiting k ⊎ IsSettled roots rows j k)

-- the relation has what the rows have
abbrev pub HasRows : Relation → List (List Privilege) → Type 0
HasRows g rows = (k : ℕ) (p : Privilege) → contains_privilege (row_at rows k) p ≡ true →
    g k p ≡ true

-- the relation has what its own may pass on
abbrev pub PassesOn : List RootStart → Relation → Type 0
PassesOn roots g = (rows : List (List Privilege)) (j k : ℕ) (a b : RootStart) (p : Privilege) →
    HasRows g rows → j < length roots → k < length roots →
    row_reaches (slice_index_or roots j a).label (row_at rows j) (slice_index_or roots k b).label
    (row_at rows k) ≡ true → contains_privilege (row_at rows j) (needed_to_attach p) ≡ true →
    g k p ≡ true

-- rows grow by what is passed on, and whoever gets anything waits
pub record Extends (roots : List RootStart) (rows : List (List Privilege)) (waiting : List ℕ)
    (rows' : List (List Privilege)) (waiting' : List ℕ) : Type 0 where
  pub count : length rows' ≡ length rows
  pub had : (k : ℕ) (p : Privilege) → contains_privilege (row_at rows k) p ≡ true →
      contains_privilege (row_at rows' k) p ≡ true
  pub kept : (k : ℕ) → Contains waiting k → Contains waiting' k
  pub moved : (k : ℕ) → Contains waiting' k ⊎ (row_at rows' k ≡ row_at rows k)
  pub in_range : ((k : ℕ) → Contains waiting k → k < length roots) → (k : ℕ) →
      Contains waiting' k → k < length roots
  pub least : (g : Relation) → PassesOn roots g → HasRows g rows → HasRows g rows'
  pub within : (all : List Privilege) → AreWithin all rows → AreWithin all rows'
  pub work_falls : (all : List Privilege) → AreWithin all rows →
      work all rows' waiting' ≤ work all rows waiting

-- nothing more can be passed on between a root and each of the first others, unless one waits
abbrev pub IsSeenBy : List RootStart → List (List Privilege) → List ℕ → ℕ → ℕ → Type 0
IsSeenBy roots rows waiting root n = (m : ℕ) → m < n →
    IsSeen roots rows waiting root m × IsSeen roots rows waiting m root

-- the rows have all that can be passed on, and no more
pub record IsSpread (roots : List RootStart) (rows rows' : List (List Privilege)) : Type 0 where
  pub count : length rows' ≡ length rows
  pub had : (k : ℕ) (p : Privilege) → contains_privilege (row_at rows k) p ≡ true →
      contains_privilege (row_at rows' k) p ≡ true
  pub least : (g : Relation) → PassesOn roots g → HasRows g rows → HasRows g rows'
  pub settled : (j k : ℕ) → j < length roots → k < length roots → IsSettled roots rows' j k
