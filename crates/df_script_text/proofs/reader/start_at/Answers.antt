use Rattle.df_script_text.proofs.Names.{IfErr-weaker, IfOk-weaker, failed_is}
use Rattle.df_script_text.proofs.Stops.{first_stop, roots_stop, start_read}
use Rattle.df_script_text.proofs.reader.start_at.Goals as goal

pub returns-in_err-roots-clause-stops : goal.returns-in_err-roots-clause-stops
returns-in_err-roots-clause-stops c =
    rw (failed_is _ c.from_residual.ensures.1) (first_stop _ _ c.in_err-roots.ensures.stops)

pub returns-clause-read : goal.returns-clause-read
returns-clause-read c = IfOk-weaker _ _ _ (λ s. start_read _ _ _ _ c.in_ok-roots.ensures.read) c.roots_at.ensures.read

pub returns-clause-stops : goal.returns-clause-stops
returns-clause-stops c = IfErr-weaker _ _ _ (λ f. roots_stop _ _ f c.in_ok-roots.ensures.read) c.roots_at.ensures.stops
