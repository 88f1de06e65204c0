use Rattle.std.proofs.Common.{◌≡◌, ℕ, List, Some}
use Rattle.csv.specs.Reading.{Reached, Ready, default_config, source_of, strip_bom}
use Rattle.csv.specs.declared.parser.State.TheVariants as st
use Rattle.csv.specs.declared.reader.Trim.TheVariants as trim
use Rattle.df_records.specs.RecordFile.{Fields}
use Rattle.df_records.proofs.Reading.{Read}
use Rattle.df_records.proofs.records.read_records.Given as goal

abbrev pub invariant-loop-line : goal.invariant-loop-line
invariant-loop-line g l = (l.reader.trim ≡ trim.None) × Ready l.reader × (l.reader.config ≡ default_config)
    × (y : List ℕ) × (source_of (λ s. Some s.now) l.reader ≡ Some y)
    × (records : List Fields) × Reached default_config st.StartRecord (strip_bom l.bytes) records l.reader.state y
    × Read g.F.Form.header g.F.Form.told_of records l.told.items l.line
