-- What a run has written of the lines that it took.
use Rattle.std.specs.Prelude.{◌≡◌, ◌⊎◌, ⊤, ℕ, ◌+◌, ◌^◌, ◌<◌, ◌≤◌, List, [], ◌∷◌, ◌++◌, codes, length, take, Option, IfSome}
use Rattle.std.specs.Io.KnownBytes.{Consumes, IsAtEnd}
use Rattle.df_io.specs.Faults.{Rose}
use Rattle.df_io.specs.Limits.{longest_file}
use Rattle.df_io.specs.Pieces.{HasAll}
use Rattle.df_journal_text.specs.Fits.{AreRoots}
use Rattle.df_journal_text.specs.Line.{line}
use Rattle.df_journal_text.specs.Start.{start_text}
use Rattle.df_lines.specs.Kinds.{refused_line}
use Rattle.df_lines.specs.Lines.{IsLine, ended}
use Rattle.df_lines.specs.Refused.{NamesBadLine}
use Rattle.df_script_text.specs.Script.{IsScriptText}
use Rattle.df_script_text.specs.TooLarge.{IsTooLargeIn}
use Rattle.df_start.specs.declared.start.RootStart.{RootStart}
use Rattle.df_steps.specs.Steps.{RecordsScript}
use Rattle.df_live.specs.declared.status.LiveStatus.{LiveStatus}
use Rattle.df_live.specs.declared.status.LiveStatus.TheVariants as status

-- ---- answers

-- the first lines of a script, whose line `run` is still to come
abbrev pub BeginsStart : List ℕ → Type 0
BeginsStart taken = (taken ≡ []) ⊎ ((roots : List RootStart) × AreRoots roots
    × (taken ≡ line (codes "defcon-script") (codes "1" ∷ []) ++ start_text roots))

-- what these lines are answered: nothing until the start is whole; then the journal of the calls
-- that were taken, which is what `steps` writes for these bytes
abbrev pub IsAnswer : List ℕ → List ℕ → Type 0
IsAnswer taken text = (BeginsStart taken × (text ≡ [])) ⊎ RecordsScript taken text

-- a front of one line, or all of it, with its line feed or without
pub record IsPartOfLine (part : List ℕ) : Type 0 where
  pub line : List ℕ
  pub rest : List ℕ
  pub is_line : IsLine line
  pub parts : ended line ≡ part ++ rest

-- all of the source is a script, and its journal was written
pub record AnswersScript (before after old new : Option (List ℕ)) : Type 0 where
  pub script : List ℕ
  pub text : List ℕ
  pub taken : Consumes before after script
  pub end : IsAtEnd after
  pub records : RecordsScript script text
  pub written : HasAll old text new

-- every line that was taken was answered, but for the last, of which a part was taken, and of whose
-- answer nothing was written
pub record AnswersAll (before after old new : Option (List ℕ)) : Type 0 where
  pub lines : List ℕ
  pub part : List ℕ
  pub text : List ℕ
  pub taken : Consumes before after (lines ++ part)
  pub of_one : IsPartOfLine part
  pub answer : IsAnswer lines text
  pub written : HasAll old text new

-- every line that was taken was answered, but for the last, of whose answer a front was written
pub record BreaksOff (before after old new : Option (List ℕ)) : Type 0 where
  pub lines : List ℕ
  pub last : List ℕ
  pub text : List ℕ
  pub more : List ℕ
  pub count : ℕ
  pub taken : Consumes before after (lines ++ ended last)
  pub one : IsLine last
  pub answer : IsAnswer lines text
  pub next : IsAnswer (lines ++ ended last) (text ++ more)
  pub within : count ≤ length more
  pub written : HasAll old (text ++ take count more) new

-- What was taken and written where a run ends so. A read may fail whenever a line is asked for, and
-- a write whenever one is answered. So these say it for each moment: a line is asked for only where
-- all before it are answered, and no line is taken while one is being answered.
abbrev pub Leaves : Option (List ℕ) → Option (List ℕ) → Option (List ℕ) → Option (List ℕ) →
    LiveStatus → Type 0
Leaves before after old new status.Done = AnswersScript before after old new
Leaves before after old new status.WriteFault = BreaksOff before after old new
Leaves before after old new _ = AnswersAll before after old new

-- ---- causes

-- a line of these bytes is too long
pub record HasLongLine (bytes : List ℕ) : Type 0 where
  pub before : List ℕ
  pub line : List ℕ
  pub behind : List ℕ
  pub parts : bytes ≡ before ++ (line ++ behind)
  pub is_line : IsLine line
  pub long : longest_file < length line

-- a line of these bytes is too long, or they may have more lines than there are numbers for
abbrev pub IsTooLong : List ℕ → Type 0
IsTooLong bytes = HasLongLine bytes ⊎ (2 ^ 64 ≤ length bytes + 1)

-- each status comes only where it is due: the source's bytes are the text of no script, and this is
-- their first bad line; they are too long; or a count of faults rose
abbrev pub IsDue : Option (List ℕ) → ℕ → ℕ → ℕ → ℕ → LiveStatus → Type 0
IsDue bytes read read' written written' (status.BadInput line kind) = IfSome bytes (λ bs.
    NamesBadLine IsScriptText IsTooLargeIn bs (refused_line line kind))
IsDue bytes read read' written written' status.TooLong = IfSome bytes IsTooLong
IsDue bytes read read' written written' status.ReadFault = Rose read read'
IsDue bytes read read' written written' status.WriteFault = Rose written written'
IsDue bytes read read' written written' status.Usage = ⊥
IsDue bytes read read' written written' _ = ⊤
