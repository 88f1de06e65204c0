-- How a crew's journal grows.
use Rattle.std.specs.Prelude.{◌≡◌, ◌++◌, List}
use Rattle.df_booking.specs.CrewState.{CrewState}
use Rattle.df_unit.specs.declared.entry.Entry.{Entry}

-- entries were appended, and nothing else has changed; the newest stand first
pub record IsMore {B : Type 0} (old new : CrewState B) : Type 0 where
  pub start : new.core.0 ≡ old.core.0
  pub brains : new.brains ≡ old.brains
  pub more : List Entry
  pub journal : new.core.1 ≡ more ++ old.core.1
