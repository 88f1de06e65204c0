use Rattle.df_audit.proofs.Names.{sym, IfOk-weaker, State, past_of, TakesKept}
use Rattle.df_audit.proofs.Passes.{comes_kept}
use Rattle.df_audit.proofs.pass.next_right.Goals as goal

pub returns-in-Ok-Some : goal.returns-in-Ok-Some
returns-in-Ok-Some c =
    IfOk-weaker c.take_kept.result _ _
    (λ passed taken roots read come.
    let core : State = (roots, past_of read) in
    let made : TakesKept core c.next_entry.new.self.has_notes c.in-Ok-Some.kept passed c.take_kept.new.tables = rw (sym c.has_notes.ensures)
    (taken core come.made) in
    comes_kept roots read c.in-Ok-Some.kept c.args.cursor.now c.next_entry.new.self c.args.tables.now c.take_kept.new.tables come passed
    (rw c.in-Ok-Some.field-0-is at (c.in-Ok-Some.ensures.next roots read come.passed)) made
    c.next_entry.ensures.version (rw c.in-Ok-Some.field-0-is at c.in-Ok-Some.ensures.further) c.next_entry.ensures.bytes)
    c.take_kept.ensures
