-- A crew as a desk hands it round: with what it was started, and its journal with the oldest entry
-- first.
use Rattle.std.specs.Prelude.{List, reverse}
use Rattle.df_booking.specs.CrewState.{CrewState}
use Rattle.df_crew.specs.declared.origin.Origin.{Origin}
use Rattle.df_machine.specs.Journal.{State}
use Rattle.df_unit.specs.declared.entry.Entry.{Entry}

module _ {B : Type 0} where
  -- the start and the brains with which the crew was started
  abbrev pub origin_of : CrewState B → Origin B
  origin_of crew = record { start = crew.core.0; brains = crew.brains }

  -- the crew's journal, the oldest entry first
  abbrev pub seen_of : CrewState B → List Entry
  seen_of crew = reverse crew.core.1

  -- the machine that was started so and has this journal, the oldest entry first
  abbrev pub core_at : Origin B → List Entry → State
  core_at origin seen = (origin.start, reverse seen)

  -- the crew that was started so and has this journal, the oldest entry first
  abbrev pub crew_at : Origin B → List Entry → CrewState B
  crew_at origin seen = record { core = core_at origin seen; brains = origin.brains }
