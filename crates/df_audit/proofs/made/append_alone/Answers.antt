use Rattle.df_audit.proofs.Names.{on_ok_weaker}
use Rattle.df_audit.proofs.Calls.{enters_again}
use Rattle.df_audit.proofs.made.append_alone.Goals as goal

pub append_other-requires-clause-state : goal.append_other-requires-clause-state
append_other-requires-clause-state g c =
    let left = rw c.in-Ok-false.field-0-test at c.in-Ok-false.ensures.made in
    (c.requires.state.0, left.agrees c.requires.state.0 c.requires.state.1)

pub returns-in-Ok-false : goal.returns-in-Ok-false
returns-in-Ok-false g c =
    let left = rw c.in-Ok-false.field-0-test at c.in-Ok-false.ensures.made in
    on_ok_weaker c.append_other.result (λ enters. enters_again left enters) c.append_other.ensures
