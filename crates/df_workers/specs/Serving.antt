-- What workers do for a unit, and what a run of them leaves. Journals have the oldest entry first.
use Rattle.std.specs.Prelude.{◌≡◌, ◌⊎◌, ◌≤◌, ◌++◌, ℕ, true, List, length, reverse}
use mathlib.Core.List.{IsPrefix}
use Rattle.df_crew.specs.Resting.{IsResting}
use Rattle.df_crew.specs.Seen.{crew_at}
use Rattle.df_crew.specs.declared.origin.Origin.{Origin}
use Rattle.df_machine.specs.Journal.{firsts}
use Rattle.df_rules.specs.Follows.{Brain, has_entry}
use Rattle.df_rules.specs.Own.{exists}
use Rattle.df_rules.specs.Start.{rows}
use Rattle.df_unit.specs.declared.entry.Entry.{Entry}
use Rattle.df_unit.specs.declared.name.UnitName.{UnitName}

-- the later journal has an entry of the unit behind the earlier one
pub record HasMoved (u : UnitName) (before after : List Entry) : Type 0 where
  pub rest : List Entry
  pub journal : before ++ rest ≡ after
  pub moved : has_entry u rest ≡ true

module _ {B : Type 0} (brain : Brain B) (origin : Origin B) where
  -- at a place not before the one and not behind the other journal, the unit waits and no delivery
  -- is left to it
  pub record WasAtRest (u : UnitName) (before after : List Entry) : Type 0 where
    pub journal : List Entry
    pub from : IsPrefix before journal
    pub to : IsPrefix journal after
    pub resting : IsResting brain (crew_at origin journal) u

  -- the unit has made an entry, or had nothing to do
  abbrev pub IsServed : UnitName → List Entry → List Entry → Type 0
  IsServed u before after = HasMoved u before after ⊎ WasAtRest u before after

  -- each unit that exists in the earlier journal has been served
  abbrev pub AreServed : List Entry → List Entry → Type 0
  AreServed before after = (u : UnitName) →
      exists rows (firsts origin.start) (reverse before) u ≡ true → IsServed u before after

  -- a run of workers led from the one journal to the other: there are at least so many entries, or
  -- each unit that existed has been served
  abbrev pub HaveRun : ℕ → List Entry → List Entry → Type 0
  HaveRun max before after = (max ≤ length after) ⊎ AreServed before after
