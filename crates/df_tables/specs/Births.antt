-- Units that come to exist.
use Rattle.std.specs.Prelude.{◌≡◌, ◌<◌, ℕ, true, false, List, [], ◌∷◌, ◌++◌, if◌then◌else◌, is_none, length, map, slice_index_or}
use Rattle.df_label.specs.TagSet.{is_subset}
use Rattle.df_label.specs.declared.privilege.Privilege.{Privilege}
use Rattle.df_filter.specs.declared.clause.Clause.{Clause}
use Rattle.df_instances.specs.declared.subscription.ManagedSubscription.{ManagedSubscription}
use Rattle.df_local.specs.Births.{instance_at, record_of}
use Rattle.df_local.specs.code.LocalState.{LocalState}
use Rattle.df_spawn.specs.declared.child.ChildLabels.{ChildLabels}
use Rattle.df_unit.specs.Beginnings.{child, child_input, child_output, fixed_of}
use Rattle.df_unit.specs.OwnState.{Fixed}
use Rattle.df_unit.specs.Rows.{is_instance, path_of}
use Rattle.df_unit.specs.declared.commit.Given.{Given}
use Rattle.df_unit.specs.declared.name.UnitName.TheVariants.{Root}
use Rattle.df_tables.specs.Table.{place_of}
use Rattle.df_tables.specs.declared.births.Beside.{Beside}
use Rattle.df_tables.specs.declared.births.Newborn.{Newborn}
use Rattle.df_tables.specs.declared.units.Unit.{Unit}

-- a unit's row as it begins, with nothing to be handed
abbrev pub new_row : LocalState → Unit
new_row l = record { local = l; line = record { left = []; staged = [] } }

-- the row of the child of this number that a unit makes with s and these privileges
abbrev pub child_row : LocalState → ℕ → List (List ℕ) → List Privilege → Unit
child_row maker k s privileges = new_row (record {
  unit = Root (path_of maker.unit ++ k ∷ []);
  own = child maker.own s privileges;
})

-- the labels and the privileges are those of the child that a unit makes with s and these
-- privileges
pub record IsOfChild (maker : LocalState) (s : List (List ℕ)) (privileges : List Privilege)
    (labels : ChildLabels) : Type 0 where
  pub plain : is_instance maker.unit ≡ false
  pub input : labels.input ≡ child_input maker.own s
  pub output : labels.output ≡ child_output maker.own s
  pub held : labels.held ≡ privileges
  -- what is read and what the maker wrote at may flow on into what is written
  pub reads : is_subset labels.input.s labels.output.s ≡ true
  pub writes : is_subset maker.own.output.s labels.output.s ≡ true
  pub read_integrity : is_subset labels.output.i labels.input.i ≡ true
  pub written_integrity : is_subset labels.output.i maker.own.output.i ≡ true

-- what a row needs beside it
abbrev pub beside_of : Unit → Beside
beside_of u = record { label = u.local.own.input; name = u.local.unit }

-- what stands beside the row is its own, and nothing is staged at it
pub record IsNewborn (b : Newborn) : Type 0 where
  pub beside : b.beside ≡ beside_of b.row
  pub calm : b.row.line.staged ≡ []

-- the rows of those that are about to come
abbrev pub rows_in : List Newborn → List Unit
rows_in bs = map (λ b. b.row) bs

-- the row of a unit that had none
abbrev pub if_new : Unit → List Unit → List Unit
if_new u us = if is_none (place_of u.local.unit us) then u ∷ [] else []

-- the rows with these behind them, each unless its unit has one
abbrev pub all_new : List Unit → List Unit → List Unit
all_new [] us = us
all_new (b ∷ bs) us = all_new bs (us ++ if_new b us)

-- one more managed subscription with this filter and number, of a plain unit
pub record IsEnrolledBy (l : LocalState) (filter : List Clause) (n : ℕ)
    (old new : List ManagedSubscription) : Type 0 where
  pub made : ManagedSubscription
  pub last : new ≡ old ++ made ∷ []
  pub owner : l.unit ≡ Root made.owner
  pub number : made.sub ≡ n
  pub keeps : record_of made.fixed ≡ fixed_of l.own filter

-- it is one of the unit at a place
abbrev pub IsEnrolled : ℕ → List Clause → ℕ → List Unit → List ManagedSubscription →
    List ManagedSubscription → Type 0
IsEnrolled k filter n us old new = (d : Unit) → k < length us →
    IsEnrolledBy (slice_index_or us k d).local filter n old new

-- the row of the instance of contamination t of a managed subscription as it begins, with its first
-- delivery
abbrev pub instance_row : List ℕ → ℕ → Fixed → List (List ℕ) → Given → Unit
instance_row owner sub f t d = record {
  local = instance_at owner sub f t;
  line = record { left = d ∷ []; staged = [] };
}
