use Rattle.df_audit.proofs.Names.{sym, subst, OnOk, on_ok_weaker, Call, Enters}
use Rattle.df_audit.proofs.Calls.{enters_again}
use Rattle.df_audit.proofs.made.append_closing.Goals as goal

pub append_as_any-requires-clause-state : goal.append_as_any-requires-clause-state
append_as_any-requires-clause-state g c =
    let left = rw c.in-Ok-false.field-0-test at c.in-Ok-false.ensures in
    (c.requires.state.0, left.1.agrees c.requires.state.0 c.requires.state.1)

pub returns-in-Ok-false : goal.returns-in-Ok-false
returns-in-Ok-false g c =
    let left = rw c.in-Ok-false.field-0-test at c.in-Ok-false.ensures in
    let any = c.append_as_any in
    subst
    (λ (call : Call). OnOk any.result (Enters c.args.place c.args.words.now call c.args.note.now (g.H.Hears.heard c.args.to.now any.new.to) c.args.tables.now
    any.new.tables c.args.text.now.items any.new.text.items))
    (sym c.requires.closing)
    (on_ok_weaker any.result (λ enters. enters_again left.1 enters) any.ensures)
