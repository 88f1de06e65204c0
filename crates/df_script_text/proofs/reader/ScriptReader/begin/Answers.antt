use Rattle.df_script_text.proofs.Names.{names_line, IsScriptText, IsTooLargeIn}
use Rattle.df_script_text.proofs.reader.ScriptReader.begin.Goals as goal

pub returns-in-Err-clause-refused : goal.returns-in-Err-clause-refused
returns-in-Err-clause-refused c =
    rw c.file_refused.ensures (names_line IsScriptText IsTooLargeIn c.args.bytes.now c.in-Err.fault c.in-Err.ensures.stops)
