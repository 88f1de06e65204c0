use Rattle.df_script_text.proofs.Names.{List, ℕ, subst, Err, IsLargeCalled, TellsLine, IsScriptLine, script_line}
use Rattle.df_script_text.proofs.Stops.{open_call, open_unread}
use Rattle.df_script_text.proofs.line.open_fault.Goals as goal

pub returns-in-Ok : goal.returns-in-Ok
returns-in-Ok c = open_call _ _ c.requires.some c.requires.open c.in-Ok.line (rw c.rest_at.ensures at c.in-Ok.ensures)

pub returns-in-Err : goal.returns-in-Err
returns-in-Err c =
    let told = subst (λ (l : List ℕ). TellsLine script_line IsScriptLine IsLargeCalled l (Err c.in-Err.fault)) c.rest_at.ensures c.in-Err.ensures in
    rw c.fault_of.ensures (open_unread _ _ c.requires.some c.requires.open c.in-Err.fault told)
