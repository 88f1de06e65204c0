-- What is made and written of a script's lines so far.
use Rattle.std.specs.Prelude.{◌≡◌, ℕ, Bool, true, false, List, [], ◌∷◌, ◌++◌}
use Rattle.std.specs.List.{flat_map}
use Rattle.df_journal_text.specs.Entry.{noted_text}
use Rattle.df_journal_text.specs.Start.{head_text}
use Rattle.df_machine.specs.Tables.{AgreesWith}
use Rattle.df_machine.specs.declared.tables.Tables.{Tables}
use Rattle.df_replay.specs.Noted.{noted}
use Rattle.df_script_text.specs.Reader.{HasRead, ReaderState}
use Rattle.df_script_text.specs.Script.{IsScript, script_text}
use Rattle.df_script_text.specs.declared.line.ScriptLine.{ScriptLine}
use Rattle.df_start.specs.declared.start.RootStart.{RootStart}
use Rattle.df_steps.specs.Steps.{journal_of}

-- the tables are those of these lines' journal, and its text is written
pub record IsWritten (roots : List RootStart) (lines : List ScriptLine) (tables : Tables)
    (written : List ℕ) : Type 0 where
  pub made : AgreesWith (roots, journal_of roots lines) tables
  pub text : written ≡ head_text roots ++ flat_map noted_text (noted roots (journal_of roots lines))

-- the next line was read, made and written; or these lines are all of the script
abbrev pub WritesOn : List RootStart → List ScriptLine → Bool → ReaderState → Tables → List ℕ →
    Type 0
WritesOn roots lines true reader tables written = (line : ScriptLine)
    × HasRead roots (lines ++ line ∷ []) reader
    × IsWritten roots (lines ++ line ∷ []) tables written
WritesOn roots lines false reader tables written = IsScript roots lines
    × (reader.bytes ≡ script_text roots lines) × IsWritten roots lines tables written
