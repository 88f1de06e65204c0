use Rattle.df_script_text.proofs.ScriptBacks.{script_back}
use Rattle.df_script_text.proofs.laws.a_script_is_read_back.Goals as goal

pub returns : goal.returns
returns c = script_back
