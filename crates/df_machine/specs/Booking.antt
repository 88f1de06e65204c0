-- Booking a run of local calls with the shared call that follows it.
use Rattle.std.specs.Prelude.{◌≡◌, ◌++◌, Option, Some, None, reverse}
use Rattle.df_local_run.specs.RunState.{RunState}
use Rattle.df_unit.specs.declared.call.Call.{Call}
use Rattle.df_unit.specs.declared.reply.Reply.{Reply}
use Rattle.df_machine.specs.Journal.{State, answer_in, appended, local_of}
use Rattle.df_machine.specs.declared.machine.BookCause.{BookCause}
use Rattle.df_machine.specs.declared.machine.BookCause.TheVariants.{NoMemory, Stale}

-- the entries of the run were appended
abbrev pub with_run : RunState → State → State
with_run run core = (core.0, reverse run.entries ++ core.1)

-- the entries of the run were appended, and then that of the shared call, if there is one
abbrev pub booked : RunState → Option Call → State → State
booked run None core = with_run run core
booked run (Some call) core = appended run.base.unit call (with_run run core)

-- what the shared call, if there is one, is answered behind the run
abbrev pub reply_booked : RunState → Option Call → State → Option Reply
reply_booked run None core = None
reply_booked run (Some call) core = Some (answer_in (with_run run core) run.base.unit call).0

-- the unit's own state is the one from which the run began
abbrev pub IsCurrent : RunState → State → Type 0
IsCurrent run core = local_of core run.base.unit ≡ Some run.base

-- a run is stale where it isn't current, and is else refused for want of memory
abbrev pub IsRefused : BookCause → RunState → State → Type 0
IsRefused Stale run core = ¬ IsCurrent run core
IsRefused NoMemory run core = IsCurrent run core
