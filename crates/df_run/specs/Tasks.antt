-- What each command reads and writes. `read` are the bytes of its files, in order.
use Rattle.std.specs.Prelude.{◌≡◌, ⊤, ℕ, zero, suc, List, [], ◌∷◌}
use Rattle.df_audit.specs.Audit.{Explains, HasPlace, IsCheckOf, IsRightJournal, IsWrongAt, LacksPlace, OfJournal, Purges, TellsCount, Upgrades}
use Rattle.df_audit.specs.declared.audit.Finding.{Finding}
use Rattle.df_audit.specs.declared.audit.Finding.TheVariants as finding
use Rattle.df_auction.specs.AuctionText.{IsTextOfFile}
use Rattle.df_auction.specs.OrderFile.{IsBadAt, IsOrderFile}
use Rattle.df_book.specs.declared.order.Order.{Order}
use Rattle.df_config.specs.declared.config.Config.{Config}
use Rattle.df_floor_run.specs.Load.{IsLoadText}
use Rattle.df_floor_run.specs.declared.run.FloorEnd.{FloorEnd}
use Rattle.df_floor_run.specs.declared.run.FloorEnd.TheVariants as floor
use Rattle.df_gen.specs.Generated.{generated}
use Rattle.df_journal_file.specs.Either.{IsEitherText, Journal}
use Rattle.df_journal_file.specs.TooLarge.{IsLargeIn}
use Rattle.df_lines.specs.Refused.{NamesBadLine}
use Rattle.df_lines.specs.declared.refused.FileRefused.{FileRefused}
use Rattle.df_lines.specs.declared.refused.FileRefused.TheVariants as file
use Rattle.df_script_text.specs.Script.{IsScriptText}
use Rattle.df_script_text.specs.TooLarge.{IsTooLargeIn}
use Rattle.df_ticks.specs.TickFile as ticks
use Rattle.df_ticks.specs.TickText.{ticks_text}
use Rattle.df_ticks.specs.declared.tick.Tick.{Tick}
use Rattle.df_words.specs.declared.command.Command.{Command}
use Rattle.df_words.specs.declared.command.Command.TheVariants.{Steps, Check, Purge, Upgrade, Why, Auction, Lint, Gen, Floor, FloorWorkers, Load}
use Rattle.df_run.specs.Floor.{IsConfiguration, IsCutAt, IsTicks, MayBeCutAt, OfFloor, RunsFloor, Settles, SettlesAnyhow, WorksFloor}
use Rattle.df_run.specs.Lint.{LintsScript}
use Rattle.df_steps.specs.Steps.{RecordsScript}
use Rattle.df_run.specs.declared.status.BadKind.{BadKind}
use Rattle.df_run.specs.declared.status.BadKind.TheVariants.{Syntax, TooLarge, BadOrder, BadConfig, BadTick}
use Rattle.df_run.specs.declared.tasks.End.{End}
use Rattle.df_run.specs.declared.tasks.End.TheVariants as end
use Rattle.df_run.specs.declared.tasks.Refused.{Refused}
use Rattle.df_run.specs.declared.tasks.Refused.TheVariants as refused

-- ---- files

-- the bytes are an order file
abbrev pub IsOrders : List ℕ → Type 0
IsOrders bytes = (orders : List Order) × IsOrderFile bytes orders

-- the bytes are what a floor reads as its file of this number: a configuration, then ticks
abbrev pub IsFloorInput : ℕ → List ℕ → Type 0
IsFloorInput (suc zero) bytes = IsConfiguration bytes
IsFloorInput _ bytes = IsTicks bytes

-- ---- one command

-- one file was read, and this holds of its bytes
abbrev pub OfOne : List (List ℕ) → (List ℕ → Type 0) → Type 0
OfOne (bytes ∷ []) P = P bytes
OfOne _ P = ⊥

-- two files were read, and this holds of their bytes
abbrev pub OfTwo : List (List ℕ) → (List ℕ → List ℕ → Type 0) → Type 0
OfTwo (one ∷ other ∷ []) P = P one other
OfTwo _ P = ⊥

-- what a command reads as its file of a number, the first being 1; what was read where its run ends
-- so, or, by workers, may end so; and what it then writes
pub record Task : Type 1 where
  pub reads : ℕ → List ℕ → Type 0
  pub ends : End → List (List ℕ) → Type 0
  pub writes : End → List (List ℕ) → List ℕ → Type 0

-- what was read so is done, and ends in no other way
abbrev pub only_done : (List (List ℕ) → Type 0) → End → List (List ℕ) → Type 0
only_done P end.Done read = P read
only_done P _ read = ⊥

-- where it is done, this is written
abbrev pub done_with
    : (List (List ℕ) → List ℕ → Type 0) → End → List (List ℕ) → List ℕ → Type 0
done_with P end.Done read text = P read text
done_with P _ read text = ⊥

-- of a file that is this, this is written
abbrev pub file_task : (List ℕ → Type 0) → (List ℕ → List ℕ → Type 0) → Task
file_task Reads Writes = record {
  reads = λ number bytes. Reads bytes;
  ends = only_done (λ read. OfOne read Reads);
  writes = done_with (λ read text. OfOne read (λ bytes. Writes bytes text));
}

-- what is done is a journal of which this holds; one that is wrong ends with its first wrong place
abbrev pub journal_ends : (Journal → Type 0) → End → List (List ℕ) → Type 0
journal_ends Right end.Done read = OfOne read (λ bytes. OfJournal bytes Right)
journal_ends Right (end.Wrong place) read =
    OfOne read (λ bytes. OfJournal bytes (λ j. IsWrongAt j place))
journal_ends Right _ read = ⊥

-- what is written of a journal by what was found of it
abbrev pub journal_writes
    : (Journal → Finding → List ℕ → Type 0) → End → List (List ℕ) → List ℕ → Type 0
journal_writes Writes end.Done read text =
    OfOne read (λ bytes. OfJournal bytes (λ j. Writes j finding.Right text))
journal_writes Writes (end.Wrong place) read text =
    OfOne read (λ bytes. OfJournal bytes (λ j. Writes j (finding.Wrong place) text))
journal_writes Writes _ read text = ⊥

-- each right journal is done, and this is written by what was found
abbrev pub journal_task : (Journal → Finding → List ℕ → Type 0) → Task
journal_task Writes = record {
  reads = λ number bytes. IsEitherText bytes;
  ends = journal_ends IsRightJournal;
  writes = journal_writes Writes;
}

-- a right journal that hasn't the place ends with the number of its entries
abbrev pub why_ends : ℕ → End → List (List ℕ) → Type 0
why_ends place (end.NoPlace count) read =
    OfOne read (λ bytes. OfJournal bytes (LacksPlace place count))
why_ends place e read = journal_ends (HasPlace place) e read

-- what is written then tells that number
abbrev pub why_writes : ℕ → End → List (List ℕ) → List ℕ → Type 0
why_writes place (end.NoPlace count) read text =
    OfOne read (λ bytes. OfJournal bytes (λ j. TellsCount place j count text))
why_writes place e read text = journal_writes (Explains place) e read text

-- the grounds of the entry at a place are written
abbrev pub why_task : ℕ → Task
why_task place = record {
  reads = λ number bytes. IsEitherText bytes;
  ends = why_ends place;
  writes = why_writes place;
}

-- a command without a file writes this
abbrev pub key_task : (List ℕ → Type 0) → Task
key_task Writes = record {
  reads = λ number bytes. ⊤;
  ends = only_done (λ read. ⊤);
  writes = done_with (λ read text. Writes text);
}

-- a floor is done or cut off with so many entries
abbrev pub floor_ends
    : (Config → List Tick → Type 0) → (ℕ → Config → List Tick → Type 0) → End → List (List ℕ)
    → Type 0
floor_ends Rests IsCut end.Done read = OfTwo read (λ one other. OfFloor one other Rests)
floor_ends Rests IsCut (end.Unsettled steps) read =
    OfTwo read (λ one other. OfFloor one other (IsCut steps))
floor_ends Rests IsCut _ read = ⊥

-- this is written of a floor by how its run ends
abbrev pub floor_writes
    : (Config → List Tick → FloorEnd → List ℕ → Type 0) → End → List (List ℕ) → List ℕ → Type 0
floor_writes Runs end.Done read text =
    OfTwo read (λ one other. OfFloor one other (λ c t. Runs c t floor.Quiet text))
floor_writes Runs (end.Unsettled steps) read text =
    OfTwo read (λ one other. OfFloor one other (λ c t. Runs c t (floor.Unsettled steps) text))
floor_writes Runs _ read text = ⊥

-- a floor rests or is cut off, and this is written of its run
abbrev pub floor_task
    : (Config → List Tick → Type 0) → (ℕ → Config → List Tick → Type 0)
    → (Config → List Tick → FloorEnd → List ℕ → Type 0) → Task
floor_task Rests IsCut Runs = record {
  reads = IsFloorInput;
  ends = floor_ends Rests IsCut;
  writes = floor_writes Runs;
}

-- ---- the commands

-- what each command does
abbrev pub task_of : Command → Task
task_of (Steps file) = file_task IsScriptText RecordsScript
task_of (Check journal) = journal_task IsCheckOf
task_of (Purge label journal) = journal_task (Purges label)
task_of (Upgrade journal) = journal_task Upgrades
task_of (Why journal place) = why_task place
task_of (Auction orders) = file_task IsOrders IsTextOfFile
task_of (Lint script) = file_task IsScriptText LintsScript
task_of (Gen key n) = key_task (λ text. text ≡ ticks_text (generated key n))
task_of (Load key n) = key_task (IsLoadText key n)
task_of (Floor config ticks) = floor_task Settles IsCutAt RunsFloor
task_of (FloorWorkers config ticks workers) = floor_task SettlesAnyhow MayBeCutAt WorksFloor

-- the bytes are what the command reads as its file of this number
abbrev pub IsInput : Command → ℕ → List ℕ → Type 0
IsInput command = (task_of command).reads

-- what was read is right: it is what the command reads, a journal is right and has the place that
-- the command names, and a floor settles, with workers in whatever order they take turns
abbrev pub IsRightInput : Command → List (List ℕ) → Type 0
IsRightInput command read = (task_of command).ends end.Done read

-- what was read is a journal that is wrong, first at this place
abbrev pub IsWrongInput : Command → List (List ℕ) → ℕ → Type 0
IsWrongInput command read place = (task_of command).ends (end.Wrong place) read

-- what was read is a right journal of so many entries, which hasn't the place that the command
-- names
abbrev pub IsNoPlaceInput : Command → List (List ℕ) → ℕ → Type 0
IsNoPlaceInput command read count = (task_of command).ends (end.NoPlace count) read

-- what was read is a floor that doesn't settle: its run is cut off with so many entries, or a run by
-- workers may be
abbrev pub IsUnsettledInput : Command → List (List ℕ) → ℕ → Type 0
IsUnsettledInput command read steps = (task_of command).ends (end.Unsettled steps) read

-- what was read is a floor whose only run is cut off with so many entries
abbrev pub IsCutInput : Command → List (List ℕ) → ℕ → Type 0
IsCutInput (FloorWorkers config ticks workers) read steps = ⊥
IsCutInput command read steps = IsUnsettledInput command read steps

-- the text is what the command writes of what was read where it ends so
abbrev pub IsText : Command → List (List ℕ) → End → List ℕ → Type 0
IsText command read e text = (task_of command).writes e read text

-- how an audit ends
abbrev pub end_of : Finding → End
end_of finding.Right = end.Done
end_of (finding.Wrong place) = end.Wrong place
end_of (finding.NoPlace count) = end.NoPlace count

-- ---- what is blamed

-- where and how bytes aren't the text of a script
abbrev pub IsNoScript : List ℕ → ℕ → BadKind → Type 0
IsNoScript bytes line Syntax = NamesBadLine IsScriptText IsTooLargeIn bytes (file.Syntax line)
IsNoScript bytes line TooLarge = NamesBadLine IsScriptText IsTooLargeIn bytes (file.TooLarge line)
IsNoScript bytes line _ = ⊥

-- where and how bytes aren't a journal in one of its versions
abbrev pub IsNoJournal : List ℕ → ℕ → BadKind → Type 0
IsNoJournal bytes line Syntax =
    NamesBadLine IsEitherText (IsLargeIn IsEitherText) bytes (file.Syntax line)
IsNoJournal bytes line TooLarge =
    NamesBadLine IsEitherText (IsLargeIn IsEitherText) bytes (file.TooLarge line)
IsNoJournal bytes line _ = ⊥

-- where and how a floor's file of this number is wrong: no place in a configuration is named, and
-- of ticks it is the first record that isn't in form
abbrev pub IsNoFloorInput : ℕ → List ℕ → ℕ → BadKind → Type 0
IsNoFloorInput (suc zero) bytes line kind = (kind ≡ BadConfig) × (line ≡ 0)
IsNoFloorInput _ bytes line kind = (kind ≡ BadTick) × ticks.IsBadAt bytes line

-- where and how the command's file of this number is wrong: an order file at its first record that
-- isn't in form
abbrev pub IsBadLine : Command → ℕ → List ℕ → ℕ → BadKind → Type 0
IsBadLine (Steps file) number bytes line kind = IsNoScript bytes line kind
IsBadLine (Check journal) number bytes line kind = IsNoJournal bytes line kind
IsBadLine (Purge label journal) number bytes line kind = IsNoJournal bytes line kind
IsBadLine (Upgrade journal) number bytes line kind = IsNoJournal bytes line kind
IsBadLine (Why journal place) number bytes line kind = IsNoJournal bytes line kind
IsBadLine (Auction orders) number bytes line kind = (kind ≡ BadOrder) × IsBadAt bytes line
IsBadLine (Lint script) number bytes line kind = IsNoScript bytes line kind
IsBadLine (Gen key n) number bytes line kind = ⊥
IsBadLine (Floor config ticks) number bytes line kind = IsNoFloorInput number bytes line kind
IsBadLine (FloorWorkers config ticks workers) number bytes line kind =
    IsNoFloorInput number bytes line kind
IsBadLine (Load key n) number bytes line kind = ⊥

-- the bytes aren't what the command reads as its file of this number, and are blamed for that, where
-- they are wrong
pub record BlamesBytes (command : Command) (number : ℕ) (bytes : List ℕ) (line : ℕ) (kind : BadKind) :
    Type 0 where
  pub bad : ¬ IsInput command number bytes
  pub place : IsBadLine command number bytes line kind

-- the bytes of a command's only file that are refused are blamed; want of memory says nothing of
-- them
abbrev pub RefusesInput : Command → List ℕ → Refused → Type 0
RefusesInput command bytes (refused.BadInput line kind) = BlamesBytes command 1 bytes line kind
RefusesInput command bytes refused.NoMemory = ⊤

-- what is told of a file that isn't read
abbrev pub told_of : FileRefused → Refused
told_of (file.Syntax line) = refused.BadInput line Syntax
told_of (file.TooLarge line) = refused.BadInput line TooLarge
told_of file.NoMemory = refused.NoMemory
