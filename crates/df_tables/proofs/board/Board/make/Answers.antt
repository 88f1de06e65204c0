use Rattle.df_tables.proofs.Names.{IfOk-weaker}
use Rattle.df_tables.proofs.Alone.{made_renewed}
use Rattle.df_tables.proofs.board.Board.make.Goals as goal

pub returns-clause-made : goal.returns-clause-made
returns-clause-made c =
    IfOk-weaker c.answer_and_book.result _ _
    (λ a. made_renewed c.args.place c.args.call.now (a.reply, a.effect) c.args.self.now c.make_alone.new.self c.answer_and_book.new.self (rw c.if-branch.false at c.in_ok-make_alone.ensures.made))
    c.answer_and_book.ensures.made
