use Rattle.df_audit.proofs.Names.{on_ok_weaker}
use Rattle.df_audit.proofs.made.append_heard.Goals as goal

pub returns : goal.returns
returns g c = on_ok_weaker c.hear.result (λ heard. (heard, c.in_ok-append_spelled.ensures)) c.hear.ensures
