-- What the calls promise by which the top call comes to its status.
use Rattle.std.specs.Prelude.{◌≡◌, ◌⊎◌, ◌↔◌, ⊤, ℕ, ◌<◌, List, length, Option, Result, Ok, Err}
use Rattle.df_io.specs.Faults.{Rose}
use Rattle.df_io.specs.Limits.{longest_file}
use Rattle.df_io.specs.Pieces.{HasAll, HasFront}
use Rattle.df_run.specs.Outcome.{AskPlainly, AsksNothing, BadInputIsDue, IfTold, OfRead, ReadFaultIsDue, TooLongIsDue}
use Rattle.df_run.specs.Tasks.{BlamesBytes}
use Rattle.df_run.specs.declared.status.Status.{Status}
use Rattle.df_run.specs.declared.status.Status.TheVariants as status
use Rattle.df_run.specs.declared.tasks.End.{End}
use Rattle.df_run.specs.declared.tasks.End.TheVariants as end
use Rattle.df_config.specs.declared.config.Config.{Config}
use Rattle.df_floor_run.specs.declared.run.FloorEnd.{FloorEnd}
use Rattle.df_floor_run.specs.declared.run.FloorEnd.TheVariants as floor
use Rattle.df_run.specs.Floor.{RunsFloor, WorksFloor}
use Rattle.df_ticks.specs.declared.tick.Tick.{Tick}
use Rattle.df_words.specs.declared.command.Command.{Command}
use Rattle.df_words.specs.declared.command.Command.TheVariants.{Floor, FloorWorkers}
use Rattle.df_words.specs.declared.command.WordsRefused.{WordsRefused}
use Rattle.df_words.specs.declared.command.WordsRefused.TheVariants as refused

-- a status tells why the command's file of this number was not read, or is blamed
abbrev pub StopsAt : Command → ℕ → Option (List ℕ) → ℕ → ℕ → Status → Type 0
StopsAt command number told before now status.ReadFault = Rose before now
StopsAt command number told before now status.NoMemory = ⊤
StopsAt command number told before now (status.TooLong input) =
    (input ≡ number) × IfTold told (λ bytes. longest_file < length bytes)
StopsAt command number told before now (status.BadInput input line kind) =
    (input ≡ number) × OfRead told (λ bytes. BlamesBytes command number bytes line kind)
StopsAt command number told before now _ = ⊥

-- a status ends a run before anything is written
abbrev pub IsStop : Status → Type 0
IsStop status.ReadFault = ⊤
IsStop status.NoMemory = ⊤
IsStop (status.TooLong input) = ⊤
IsStop (status.BadInput input line kind) = ⊤
IsStop _ = ⊥

-- a status tells why the command makes no text of these files
pub record Stops (command : Command) (files : List (Option (List ℕ))) (before now : ℕ) (s : Status) :
    Type 0 where
  pub stop : IsStop s
  pub bad_input : BadInputIsDue command files s
  pub too_long : TooLongIsDue command files s
  pub read_fault : ReadFaultIsDue before now s

-- the status of a run that ended so
abbrev pub status_of : End → Status
status_of end.Done = status.Done
status_of (end.Wrong place) = status.Wrong place
status_of (end.Unsettled steps) = status.Unsettled steps
status_of (end.NoPlace count) = status.NoPlace count

-- the text of a run that ended so was written, or a front of it
abbrev pub IsWritten
    : End → List ℕ → Option (List ℕ) → Option (List ℕ) → Status → Type 0
IsWritten e text old new s =
    ((s ≡ status_of e) × HasAll old text new) ⊎ ((s ≡ status.WriteFault) × HasFront old text new)

-- how the run of a floor ends
abbrev pub end_of_floor : FloorEnd → End
end_of_floor floor.Quiet = end.Done
end_of_floor (floor.Unsettled steps) = end.Unsettled steps

-- the text of a floor's run that ended so
abbrev pub TellsFloor : Config → List Tick → End → List ℕ → Type 0
TellsFloor config ticks end.Done text = RunsFloor config ticks floor.Quiet text
TellsFloor config ticks (end.Wrong place) text = ⊥
TellsFloor config ticks (end.Unsettled steps) text =
    RunsFloor config ticks (floor.Unsettled steps) text
TellsFloor config ticks (end.NoPlace count) text = ⊥

-- the text and the end are those of a run of the floor by workers
abbrev pub TellsWork : Config → List Tick → End → List ℕ → Type 0
TellsWork config ticks end.Done text = WorksFloor config ticks floor.Quiet text
TellsWork config ticks (end.Wrong place) text = ⊥
TellsWork config ticks (end.Unsettled steps) text =
    WorksFloor config ticks (floor.Unsettled steps) text
TellsWork config ticks (end.NoPlace count) text = ⊥

-- the command reads a configuration and ticks
abbrev pub IsOfFloor : Command → Type 0
IsOfFloor (Floor config ticks) = ⊤
IsOfFloor (FloorWorkers config ticks workers) = ⊤
IsOfFloor _ = ⊥

-- the answer is the command without workers for which the words ask, or Usage where they ask for
-- none, unless there was no memory
abbrev pub IsPlainCommandOf : List (List ℕ) → Result Command WordsRefused → Type 0
IsPlainCommandOf words (Ok command) = (c : Command) → (command ≡ c) ↔ AskPlainly words c
IsPlainCommandOf words (Err refused.Usage) = AsksNothing AskPlainly words
IsPlainCommandOf words (Err refused.NoMemory) = ⊤
