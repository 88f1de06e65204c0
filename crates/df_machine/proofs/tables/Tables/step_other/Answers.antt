use Rattle.std.proofs.Common.{sym}
use Rattle.std.proofs.lemmas.Result.{IfOk-weaker, on_err_weaker}
use Rattle.df_machine.specs.declared.tables.Tables.{Tables}
use Rattle.df_machine.proofs.Steps.{kept_on, stepped}
use Rattle.df_machine.proofs.tables.Tables.step_other.Goals as goal

pub answer_and_book-requires-clause-board : goal.answer_and_book-requires-clause-board
answer_and_book-requires-clause-board c = c.requires.agrees.1.board

pub answer_and_book-requires-clause-seated : goal.answer_and_book-requires-clause-seated
answer_and_book-requires-clause-seated c = (c.requires.seated.0, sym c.requires.seated.1)

abbrev after : (c : goal.After-answer_and_book) → Tables
after c = record { board = c.answer_and_book.new.self }

pub returns-clause-step : goal.returns-clause-step
returns-clause-step c =
    IfOk-weaker c.answer_and_book.result _ _
    (λ a made core actor agrees seated.
    stepped core actor c.args.place c.args.call.now (a.reply, a.effect) c.args.self.now (after c) agrees seated c.answer_and_book.ensures.board made)
    c.answer_and_book.ensures.made

pub returns-clause-kept : goal.returns-clause-kept
returns-clause-kept c =
    on_err_weaker c.answer_and_book.result (λ kept core agrees. kept_on core c.args.self.now (after c) agrees c.answer_and_book.ensures.board kept)
    c.answer_and_book.ensures.kept
