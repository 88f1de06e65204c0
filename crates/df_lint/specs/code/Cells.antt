-- A cell for each root and tag: what the root's family may hold over the tag, as far as it is found.
use Rattle.std.specs.Prelude.{◌≡◌, ℕ, ◌<◌, Bool, true, false, not, ◌||◌, ◌&&◌, List, [], ◌∷◌, if◌then◌else◌, length, slice_index_or}
use Rattle.df_label.specs.TagSet.{contains}
use Rattle.df_label.specs.declared.privilege.Privilege.{Privilege}
use Rattle.df_label.specs.declared.privilege.Right.{Right}
use Rattle.df_label.specs.declared.privilege.Right.TheVariants.{Plus, Minus, PlusAuth, MinusAuth}
use Rattle.df_lint.specs.declared.cell.Cell.{Cell}

-- nothing is found
abbrev pub blank : Cell
blank = record {
  asked = false;
  plus = false;
  minus = false;
  plus_auth = false;
  minus_auth = false;
}

-- the cell at a place
abbrev pub cell_at : List Cell → ℕ → Cell
cell_at cells k = slice_index_or cells k blank

-- the cells of a root
abbrev pub cells_at : List (List Cell) → ℕ → List Cell
cells_at rows k = slice_index_or rows k []

-- whether the right is found
abbrev pub has : Cell → Right → Bool
has c Plus = c.plus
has c Minus = c.minus
has c PlusAuth = c.plus_auth
has c MinusAuth = c.minus_auth

-- the second cell with what the first may attach
abbrev pub passed : Cell → Cell → Cell
passed giver c = record {
  asked = c.asked;
  plus = c.plus || giver.plus_auth;
  minus = c.minus || giver.minus_auth;
  plus_auth = c.plus_auth || giver.plus_auth;
  minus_auth = c.minus_auth || giver.minus_auth;
}

-- whether the first may attach what the second lacks
abbrev pub gives : Cell → Cell → Bool
gives giver c = (giver.plus_auth && not (c.plus && c.plus_auth))
    || (giver.minus_auth && not (c.minus && c.minus_auth))

-- whether something over the tag may be passed on
abbrev pub attaches : Cell → Bool
attaches c = c.plus_auth || c.minus_auth

-- so with each cell of a row
abbrev pub pass_row : List Cell → List Cell → List Cell
pass_row [] cells = cells
pass_row (g ∷ gs) [] = []
pass_row (g ∷ gs) (c ∷ cs) = passed g c ∷ pass_row gs cs

-- whether the second asks for a tag that it may not take out, and the first may not write with
abbrev pub is_bar : Cell → Cell → Bool
is_bar giver c = c.asked && not (c.minus || (giver.asked || giver.plus))

-- whether no tag is a bar
abbrev pub no_bar : List Cell → List Cell → Bool
no_bar [] cells = true
no_bar (g ∷ gs) [] = true
no_bar (g ∷ gs) (c ∷ cs) = not (is_bar g c) && no_bar gs cs

-- something is found that wasn't
abbrev pub Grows : List Cell → List Cell → Type 0
Grows old new = (k : ℕ) × (r : Right) × (has (cell_at old k) r ≡ false)
    × (has (cell_at new k) r ≡ true)

-- the privilege before these, where it is found
abbrev pub pick : Bool → Privilege → List Privilege → List Privilege
pick b p ps = if b then p ∷ ps else ps

-- the privileges that a row has found
abbrev pub row_of : List (List ℕ) → List Cell → List Privilege
row_of [] cells = []
row_of (t ∷ ts) [] = []
row_of (t ∷ ts) (c ∷ cs) =
    pick c.plus (record { tag = t; right = Plus })
    (pick c.minus (record { tag = t; right = Minus })
    (pick c.plus_auth (record { tag = t; right = PlusAuth })
    (pick c.minus_auth (record { tag = t; right = MinusAuth }) (row_of ts cs))))

-- a row has a cell for each tag, marked where the integrity is asked, which has no other tags
pub record IsRow (tags : List (List ℕ)) (integrity : List (List ℕ)) (cells : List Cell)
    : Type 0 where
  pub count : length cells ≡ length tags
  pub marked : (k : ℕ) (d : List ℕ) → k < length tags →
      (cell_at cells k).asked ≡ contains integrity (slice_index_or tags k d)
  pub named : (t : List ℕ) → contains integrity t ≡ true → contains tags t ≡ true
