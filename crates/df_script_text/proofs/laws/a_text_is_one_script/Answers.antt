use Rattle.df_script_text.proofs.ScriptBacks.{script_is_one}
use Rattle.df_script_text.proofs.laws.a_text_is_one_script.Goals as goal

pub returns : goal.returns
returns c = script_is_one
