-- Why the next line isn't taken, or isn't answered.
use Rattle.std.specs.Prelude.{◌≡◌, ⊤, ℕ, ◌+◌, ◌<◌, ◌^◌, List, [], ◌++◌, codes, length, Option, Some, None, IfSome}
use Rattle.std.specs.Io.KnownBytes.{Consumes, IsAtEnd}
use Rattle.df_io.specs.Faults.{Rose}
use Rattle.df_io.specs.Limits.{longest_file}
use Rattle.df_io.specs.Pieces.{HasAll, HasFront}
use Rattle.df_journal_text.specs.Fits.{AreRoots, IsRoot}
use Rattle.df_journal_text.specs.Large.{IsLargeCalled}
use Rattle.df_journal_text.specs.Start.{root_text}
use Rattle.df_journal_text.specs.declared.line_fault.LineFault.{LineFault}
use Rattle.df_journal_text.specs.declared.line_fault.LineFault.TheVariants as fault
use Rattle.df_lines.specs.Lines.{IsLine, ended}
use Rattle.df_lines.specs.code.Stops.{StopsAt}
use Rattle.df_lines.specs.declared.refused.BadKind.{BadKind}
use Rattle.df_lines.specs.declared.refused.BadKind.TheVariants.{Syntax, TooLarge}
use Rattle.df_machine.specs.Journal.{State}
use Rattle.df_machine.specs.Tables.{AgreesWith}
use Rattle.df_machine.specs.declared.tables.Tables.{Tables}
use Rattle.df_script_text.specs.Script.{IsScript, IsScriptLine, script_text}
use Rattle.df_script_text.specs.code.Lines.{call_line}
use Rattle.df_script_text.specs.code.Stops.{IsCallLine}
use Rattle.df_script_text.specs.declared.line.ScriptLine.{ScriptLine}
use Rattle.df_start.specs.declared.start.RootStart.{RootStart}
use Rattle.df_steps.specs.Steps.{AppendsStep, Records, journal_of}
use Rattle.df_live.specs.Live.{AnswersAll, BeginsStart, BreaksOff, HasLongLine, IsDue, IsPartOfLine}
use Rattle.df_live.specs.declared.lines.NotTaken.{NotTaken}
use Rattle.df_live.specs.declared.lines.NotTaken.TheVariants as why
use Rattle.df_live.specs.declared.lines.Taken.{Taken}
use Rattle.df_live.specs.declared.lines.Taken.TheVariants as taken
use Rattle.df_live.specs.declared.run.Progress.{Progress}
use Rattle.df_live.specs.declared.status.LiveStatus.{LiveStatus}
use Rattle.df_live.specs.declared.status.LiveStatus.TheVariants as status

-- ---- one line

-- how a run ends where no line was taken
abbrev pub not_taken : NotTaken → LiveStatus
not_taken why.Fault = status.ReadFault
not_taken why.TooLong = status.TooLong
not_taken why.NoMemory = status.NoMemory

-- why no line was taken
abbrev pub StopsTaking : ℕ → ℕ → List ℕ → LiveStatus → Type 0
StopsTaking before now line status.ReadFault = Rose before now
StopsTaking before now line status.TooLong = longest_file < length line
StopsTaking before now line status.NoMemory = ⊤
StopsTaking before now line _ = ⊥

-- why a run stops at the line of this number, which is bad as IsBad tells of what was left
abbrev pub IsLineDue : (List ℕ → BadKind → Type 0) → ℕ → Option (List ℕ) → ℕ → ℕ → LiveStatus →
    Type 0
IsLineDue IsBad number left before now (status.BadInput line kind) =
    (line ≡ number) × IfSome left (λ bytes. IsBad bytes kind)
IsLineDue IsBad number left before now status.TooLong = IfSome left HasLongLine
IsLineDue IsBad number left before now status.ReadFault = Rose before now
IsLineDue IsBad number left before now status.NoMemory = ⊤
IsLineDue IsBad number left before now _ = ⊥

-- a run stops at a line, of which a part was taken
pub record StopsLine (IsBad : List ℕ → BadKind → Type 0) (number : ℕ) (left after : Option (List ℕ))
    (before now : ℕ) (why : LiveStatus) : Type 0 where
  pub part : List ℕ
  pub of_one : IsPartOfLine part
  pub taken : Consumes left after part
  pub due : IsLineDue IsBad number left before now why

-- ---- the start

-- a line isn't one of these
abbrev pub IsBadHead : (List ℕ → Type 0) → List ℕ → BadKind → Type 0
IsBadHead Is left kind = (kind ≡ Syntax) × ((bad : List ℕ) × StopsAt Is left bad)

-- what was taken is this line
abbrev pub IsTakenAs : Taken → List ℕ → List ℕ → Type 0
IsTakenAs t line is = (t ≡ taken.Line) × (line ≡ is)

-- the line is that of the root of this number, or the line `run`
abbrev pub ReadsRoot : ℕ → Taken → List ℕ → Option RootStart → Type 0
ReadsRoot number t line None = IsTakenAs t line (codes "run")
ReadsRoot number t line (Some root) = (number + 1 < 2 ^ 32) × IsRoot root
    × IsTakenAs t line (root_text number root)

-- why a line isn't one of these
abbrev pub RefusesHead : (List ℕ → Type 0) → ℕ → Taken → List ℕ → LiveStatus → Type 0
RefusesHead Is number t line (status.BadInput place kind) = (place ≡ number) × (kind ≡ Syntax)
    × (t ≡ taken.Line → ¬ Is line)
RefusesHead Is number t line status.NoMemory = ⊤
RefusesHead Is number t line _ = ⊥

-- the line of the root of this number was taken, or the line `run`
abbrev pub TakesRoot : ℕ → Option (List ℕ) → Option (List ℕ) → Option RootStart → Type 0
TakesRoot number left after None = Consumes left after (ended (codes "run"))
TakesRoot number left after (Some root) = (number + 1 < 2 ^ 32) × IsRoot root
    × IsLine (root_text number root) × Consumes left after (ended (root_text number root))

-- a start was taken
abbrev pub TakesStart : Option (List ℕ) → Option (List ℕ) → List RootStart → Type 0
TakesStart left after roots = AreRoots roots × Consumes left after (script_text roots [])

-- a run ends while it reads
abbrev pub IsReading : LiveStatus → Type 0
IsReading (status.BadInput line kind) = ⊤
IsReading status.TooLong = ⊤
IsReading status.ReadFault = ⊤
IsReading status.NoMemory = ⊤
IsReading _ = ⊥

-- a run stops before the start is whole
pub record StopsHead (left after : Option (List ℕ)) (before now : ℕ) (why : LiveStatus) : Type 0
  where
    pub lines : List ℕ
    pub part : List ℕ
    pub taken : Consumes left after (lines ++ part)
    pub of_one : IsPartOfLine part
    pub begins : BeginsStart lines
    pub reading : IsReading why
    pub due : (w w' : ℕ) → IsDue left before now w w' why

-- ---- calls

-- what is wrong with a line
abbrev pub IsKind : List ℕ → BadKind → Type 0
IsKind bad Syntax = ¬ IsLargeCalled bad
IsKind bad TooLarge = IsLargeCalled bad

-- a line isn't one of a call
abbrev pub IsBadCall : List ℕ → BadKind → Type 0
IsBadCall left kind = (0 < length left)
    × ((bad : List ℕ) × StopsAt IsCallLine left bad × IsKind bad kind)

-- how a run ends where a line isn't read
abbrev pub unread : ℕ → LineFault → LiveStatus
unread line fault.Syntax = status.BadInput line Syntax
unread line fault.TooLarge = status.BadInput line TooLarge
unread line fault.NoMemory = status.NoMemory

-- the line is that of a call, or nothing was taken
abbrev pub ReadsCall : Taken → List ℕ → Option ScriptLine → Type 0
ReadsCall t line None = (t ≡ taken.End) × (line ≡ [])
ReadsCall t line (Some call) = IsScriptLine call × IsTakenAs t line (call_line call)

-- a line with a line feed isn't one of a call; or there is one without
abbrev pub IsNoCall : Taken → List ℕ → Type 0
IsNoCall taken.Line line = ¬ IsCallLine line
IsNoCall taken.End line = 0 < length line

-- why a line isn't read
abbrev pub RefusesCall : ℕ → Taken → List ℕ → LiveStatus → Type 0
RefusesCall number t line (status.BadInput place kind) = (place ≡ number) × IsNoCall t line
    × IsKind line kind
RefusesCall number t line status.NoMemory = ⊤
RefusesCall number t line _ = ⊥

-- the line of a call was taken, or nothing is left
abbrev pub TakesCall : Option (List ℕ) → Option (List ℕ) → List ℕ → Option ScriptLine → Type 0
TakesCall left after line None = Consumes left after [] × IsAtEnd after
TakesCall left after line (Some call) = IsScriptLine call × (line ≡ call_line call)
    × Consumes left after (ended line)

-- a call was made, and its entry was written
abbrev pub AnswersCall : ScriptLine → State → Tables → Option (List ℕ) → Option (List ℕ) → Type 0
AnswersCall call core tables old new = (more : List ℕ) × AppendsStep call core tables [] more
    × HasAll old more new

-- why a call isn't answered
abbrev pub StopsAnswer : ScriptLine → State → Tables → Option (List ℕ) → Option (List ℕ) → ℕ → ℕ →
    LiveStatus → Type 0
StopsAnswer call core tables old new before now status.NoMemory = new ≡ old
StopsAnswer call core tables old new before now status.WriteFault = Rose before now
    × ((more : List ℕ) × AppendsStep call core tables [] more × HasFront old more new)
StopsAnswer call core tables old new before now _ = ⊥

-- ---- the whole

-- the script of these roots and calls was taken, and its journal was written; these are its tables
pub record HasAnswered (roots : List RootStart) (lines : List ScriptLine)
    (before after old new : Option (List ℕ)) (tables : Tables) : Type 0 where
  pub text : List ℕ
  pub script : IsScript roots lines
  pub taken : Consumes before after (script_text roots lines)
  pub made : AgreesWith (roots, journal_of roots lines) tables
  pub records : Records roots lines text
  pub written : HasAll old text new

-- a start was taken, and what stands before its calls was written
abbrev pub Begins : Option (List ℕ) → Option (List ℕ) → Option (List ℕ) → Option (List ℕ) →
    Progress → Type 0
Begins before after old new progress = (roots : List RootStart)
    × HasAnswered roots [] before after old new progress.tables
    × (progress.next ≡ length roots + 3)

-- a run ends before all is answered
abbrev pub Stops : Option (List ℕ) → Option (List ℕ) → Option (List ℕ) → Option (List ℕ) → ℕ → ℕ →
    ℕ → ℕ → LiveStatus → Type 0
Stops before after old new f f' w w' status.WriteFault = BreaksOff before after old new × Rose w w'
Stops before after old new f f' w w' why = IsReading why × AnswersAll before after old new
    × IsDue before f f' w w' why
