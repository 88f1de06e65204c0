-- What the tables are when a unit has another own state.
use Rattle.std.specs.Prelude.{◌≡◌, Option, Some, None}
use Rattle.df_local.specs.code.LocalState.{LocalState}
use Rattle.df_unit.specs.OwnState.{OwnState}
use Rattle.df_tables.specs.Table.{moved_at}
use Rattle.df_tables.specs.declared.board.Board.{Board}
use Rattle.df_tables.specs.declared.units.Unit.{Unit}

-- the row with another own state of its unit
abbrev pub with_own : OwnState → Unit → Unit
with_own st u = record u { local = record { unit = u.local.unit; own = st } }

-- the unit has a row, at whose label this own state reads
abbrev pub ReadsAs : LocalState → Option Unit → Type 0
ReadsAs l None = ⊥
ReadsAs l (Some u) = l.own.input ≡ u.local.own.input

-- the unit's row has this own state, and all else stays
pub record IsSwapped (l : LocalState) (old new : Board) : Type 0 where
  pub rows : new.rows.items ≡ moved_at l.unit (with_own l.own) old.rows.items
  pub roll : new.roll ≡ old.roll
  pub events : new.events ≡ old.events
  pub index : new.index ≡ old.index
  pub managed : new.managed ≡ old.managed
  pub told : new.marks.handed ≡ old.marks.handed
