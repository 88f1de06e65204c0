use Rattle.df_script_text.proofs.Names.{subst, sym, HasRead}
use Rattle.df_script_text.proofs.Commons.{root_read}
use Rattle.df_script_text.proofs.reader.ScriptReader.next_common.Goals as goal

pub returns-clause-next : goal.returns-clause-next
returns-clause-next c = λ roots lines h.
    root_read _ _ _ _ _ _ _ _ (subst (HasRead roots lines) (sym c.self.view_is) h) c.in_ok-line.ensures
