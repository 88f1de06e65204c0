use Rattle.df_audit.proofs.Names.{on_ok_weaker}
use Rattle.df_audit.proofs.Calls.{enters_again}
use Rattle.df_audit.proofs.made.append_brief.Goals as goal

pub append_refused-requires-clause-state : goal.append_refused-requires-clause-state
append_refused-requires-clause-state g c =
    let left = rw c.in-None.is at c.in_ok-accepted.ensures.made in
    (c.requires.state.0, left.agrees c.requires.state.0 c.requires.state.1)

pub returns-in-None : goal.returns-in-None
returns-in-None g c =
    let left = rw c.in-None.is at c.in_ok-accepted.ensures.made in
    on_ok_weaker c.append_refused.result (λ enters. enters_again left enters) c.append_refused.ensures
