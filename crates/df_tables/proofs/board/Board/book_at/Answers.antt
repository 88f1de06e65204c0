use Rattle.df_tables.proofs.Names.{◌∙◌, sym, OnOk, on_err_weaker, on_ok_weaker}
use Rattle.std.specs.Prelude.{Result, Ok, Err}
use Rattle.df_tables.proofs.Booked.{booked_plain, child_at, kept_renewed}
use Rattle.df_tables.proofs.Children.{booked_child}
use Rattle.df_tables.proofs.Enrolling.{booked_managed, managed_at}
use Rattle.df_tables.proofs.Closes.{plain_at}
use Rattle.df_tables.proofs.board.Board.book_at.Goals as goal

pub returns-in-Some-closed_by-clause-ok : goal.returns-in-Some-closed_by-clause-ok
returns-in-Some-closed_by-clause-ok c =
    on_ok_weaker c.book_close.result
    (λ closes actor here. closes actor c.args.call.now c.args.reply.now here (sym c.closed_by.ensures ∙ c.in-Some-closed_by.is) c.requires.right)
    c.book_close.ensures.ok

pub book_plain-requires-clause-plain : goal.book_plain-requires-clause-plain
book_plain-requires-clause-plain c =
    plain_at c.args.self.now.rows.items c.args.place c.args.call.now c.args.reply.now c.args.effect.now c.requires.within
    (sym c.closed_by.ensures ∙ c.in-None.is) c.requires.right

pub returns-in-None-clause-ok : goal.returns-in-None-clause-ok
returns-in-None-clause-ok c =
    on_ok_weaker c.book_plain.result
    (λ moved actor here. booked_plain actor c.args.place c.args.call.now c.args.reply.now c.args.effect.now c.args.self.now c.book_plain.new.self here (sym c.in_default-managed_sub_by.ensures) (sym c.in_default.ensures)
    c.requires.right
    (plain_at c.args.self.now.rows.items c.args.place c.args.call.now c.args.reply.now c.args.effect.now c.requires.within
    (sym c.closed_by.ensures ∙ c.in-None.is) c.requires.right) c.requires.board.whole moved c.book_plain.ensures.managed)
    c.book_plain.ensures.ok

pub returns-in-None-clause-kept : goal.returns-in-None-clause-kept
returns-in-None-clause-kept c = on_err_weaker c.book_plain.result (kept_renewed c.args.self.now c.book_plain.new.self) c.book_plain.ensures.same

pub make_child-requires-clause-right : goal.make_child-requires-clause-right
make_child-requires-clause-right c =
    child_at c.args.self.now.rows.items c.args.place c.args.call.now c.args.reply.now c.args.effect.now c.in-Some.number c.in-Some.s.now c.in-Some.privileges.now (sym c.in-Some.ensures) c.requires.right

pub returns-in-Some-clause-ok : goal.returns-in-Some-clause-ok
returns-in-Some-clause-ok c =
    on_ok_weaker c.make_child.result
    (λ made actor here. booked_child actor c.args.place c.args.call.now c.args.reply.now c.args.effect.now c.in-Some.number c.in-Some.s.now c.in-Some.privileges.now c.args.self.now c.make_child.new.self here (sym c.in-Some.ensures)
    c.requires.right c.requires.board.whole made)
    c.make_child.ensures.ok

both_ok : {T E : Type 0} (P Q : Type 0) (r : Result T E) → OnOk r P → OnOk r Q → OnOk r (P × Q)
both_ok P Q (Ok x) p q = (p, q)
both_ok P Q (Err e) p q = tt

pub enrol_managed-requires-clause-right : goal.enrol_managed-requires-clause-right
enrol_managed-requires-clause-right c =
    managed_at c.args.self.now.rows.items c.args.place c.args.call.now c.args.reply.now c.args.effect.now c.in-Some-managed_sub_by.number c.in-Some-managed_sub_by.filter.now (sym c.in-Some-managed_sub_by.ensures) c.requires.right

pub returns-in-Some-managed_sub_by-clause-ok : goal.returns-in-Some-managed_sub_by-clause-ok
returns-in-Some-managed_sub_by-clause-ok c =
    on_ok_weaker c.enrol_managed.result
    (λ both actor here. booked_managed actor c.args.place c.args.call.now c.args.reply.now c.args.effect.now c.in-Some-managed_sub_by.number c.in-Some-managed_sub_by.filter.now c.args.self.now c.enrol_managed.new.self here (sym c.in-Some-managed_sub_by.ensures)
    c.requires.right c.requires.board.whole both.0 both.1)
    (both_ok _ _ c.enrol_managed.result c.enrol_managed.ensures.ok c.enrol_managed.ensures.enrolled)
