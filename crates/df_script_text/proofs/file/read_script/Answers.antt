use Rattle.df_lines.specs.declared.refused.BadKind.TheVariants.{Syntax, TooLarge}
use Rattle.df_script_text.proofs.Names.{Err, refused_as, IsScriptText, IsTooLargeIn}
use Rattle.df_script_text.proofs.ScriptBacks.{only_script}
use Rattle.df_script_text.proofs.Stops.{only_refused}
use Rattle.df_script_text.proofs.file.read_script.Goals as goal

pub returns-in-Ok-clause-only : goal.returns-in-Ok-clause-only
returns-in-Ok-clause-only c = only_script _ _ c.in-Ok.ensures.read

pub returns-in-Err-clause-only : goal.returns-in-Err-clause-only
returns-in-Err-clause-only c = λ roots lines f e. only_refused _ _ c.in-Err.ensures.refused (roots, lines, f, e)

pub returns-in-Err-clause-syntax : goal.returns-in-Err-clause-syntax
returns-in-Err-clause-syntax c = refused_as IsScriptText IsTooLargeIn _ {X = Unit {0}} (Err c.in-Err.refused) tt c.in-Err.ensures.refused Syntax

pub returns-in-Err-clause-too_large : goal.returns-in-Err-clause-too_large
returns-in-Err-clause-too_large c = refused_as IsScriptText IsTooLargeIn _ {X = Unit {0}} (Err c.in-Err.refused) tt c.in-Err.ensures.refused TooLarge
