-- Entries of calls that are made and spelled.
use Rattle.std.specs.Prelude.{◌≡◌, ℕ, Bool, true, false, List, ◌++◌, Option, None, Some}
use Rattle.df_label.specs.declared.label.Label.{Label}
use Rattle.df_machine.specs.Journal.{State, answer_in, appended, firsts}
use Rattle.df_machine.specs.Tables.{AgreesWith, place_in}
use Rattle.df_machine.specs.declared.tables.Tables.{Tables}
use Rattle.df_purge.specs.code.Left.{emitted_noted, is_noted_within}
use Rattle.df_replay.specs.Noted.{noted_in}
use Rattle.df_rules.specs.Commits.{commit_in}
use Rattle.df_rules.specs.Legal.{answered}
use Rattle.df_rules.specs.Purge.{echo}
use Rattle.df_rules.specs.Start.{rows}
use Rattle.df_unit.specs.declared.call.Call.{Call}
use Rattle.df_unit.specs.declared.commit.Commit.{Commit}
use Rattle.df_unit.specs.declared.entry.Effect.{Effect}
use Rattle.df_unit.specs.declared.entry.Noted.{Noted}
use Rattle.df_unit.specs.declared.name.UnitName.{UnitName}
use Rattle.df_unit.specs.declared.reply.Reply.{Reply}
use Rattle.df_journal_text.specs.Ask.{asked}
use Rattle.df_journal_text.specs.Entry.{noted_text}
use Rattle.df_journal_text.specs.Fits.{IsCall, IsReply, IsUnit}
use Rattle.df_journal_text.specs.Front.{call_front}
use Rattle.df_journal_file.specs.Journal.{IsWholeNoted}
use Rattle.df_spelled.specs.Spelled.{IsOutput}
use Rattle.df_audit.specs.declared.called.ReadCall.{ReadCall}
use Rattle.df_audit.specs.declared.called.ReadCall.TheVariants as read
use Rattle.df_audit.specs.declared.pass.Wanted.{Wanted}
use Rattle.df_audit.specs.declared.pass.Wanted.TheVariants as wanted

-- a call was read, with its words, and the place of its unit's row
pub record IsReadCall (tables : Tables) (place : Option ℕ) (actor : UnitName) (call : Call)
    (words : List ℕ) : Type 0 where
  pub seated : place ≡ place_in tables actor
  pub fits : IsUnit actor × IsCall call
  pub spelled : words ≡ call_front actor call

-- the entry of a call by the rules, with the contamination that its actor has before it
abbrev pub noted_call : State → UnitName → Call → Noted
noted_call core actor call = noted_in core (answered rows (firsts core.0) core.1 actor call)

-- what a label shows of a commit, where there is a label
abbrev pub shown_by : Option Label → Option Commit → Option Commit
shown_by None commit = None
shown_by (Some label) commit = echo label commit

-- the tables, which agreed with this state, made the call, what this label shows of its commit is
-- kept, and the lines of its entry were appended
pub record AppendsCall (core : State) (actor : UnitName) (call : Call) (label : Option Label)
    (shown : Option Commit) (tables : Tables) (before now : List ℕ) : Type 0 where
  pub made : AgreesWith (appended actor call core) tables
  pub whole : IsWholeNoted (noted_call core actor call)
  pub shows : shown ≡ shown_by label (commit_in (answer_in core actor call).1)
  pub text : now ≡ before ++ noted_text (noted_call core actor call)

-- what this label shows of an answer's commit is kept, and the answer's words are literals
abbrev pub Keeps : Option Label → Option Commit → Reply × Effect → Type 0
Keeps label shown answer =
    IsReply answer.0 × IsOutput answer.1 × (shown ≡ shown_by label (commit_in answer.1))

-- the call that was read
abbrev pub read_call : ReadCall → Call
read_call (read.Common ask) = asked ask
read_call (read.Any call) = call.now

-- whether the whole entry of a call is wanted before which its actor has this contamination
abbrev pub stays_in : Wanted → Option Label → Bool
stays_in wanted.Count contamination = false
stays_in wanted.Notes contamination = true
stays_in (wanted.Purge label) contamination = is_noted_within label.now contamination

-- the label by which a purge is wanted
abbrev pub label_in : Wanted → Option Label
label_in wanted.Count = None
label_in wanted.Notes = None
label_in (wanted.Purge label) = Some label.now

-- what is wanted of a call's entry, which made this commit, where it isn't wanted whole
abbrev pub left_in : Wanted → Option Commit → List Noted
left_in w commit = emitted_noted (shown_by (label_in w) commit)
