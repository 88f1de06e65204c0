use Rattle.std.proofs.Common.{sym}
use Rattle.std.proofs.lemmas.Result.{IfOk-weaker, on_err_weaker}
use Rattle.df_machine.specs.declared.tables.Tables.{Tables}
use Rattle.df_machine.proofs.Steps.{kept_on, stepped}
use Rattle.df_machine.proofs.tables.Tables.step.Goals as goal

pub make-requires-clause-board : goal.make-requires-clause-board
make-requires-clause-board c = c.requires.agrees.1.board

pub make-requires-clause-seated : goal.make-requires-clause-seated
make-requires-clause-seated c = (c.requires.seated.0, sym c.requires.seated.1)

abbrev after : (c : goal.After-make) → Tables
after c = record { board = c.make.new.self }

pub returns-clause-answer : goal.returns-clause-answer
returns-clause-answer c =
    IfOk-weaker c.make.result _ _
    (λ a made core actor agrees seated.
    (stepped core actor c.args.place c.args.call.now (a.reply, a.effect) c.args.self.now (after c) agrees seated c.make.ensures.board made).answer)
    c.make.ensures.made

pub returns-clause-entry : goal.returns-clause-entry
returns-clause-entry c =
    IfOk-weaker c.make.result _ _
    (λ a made core actor agrees seated.
    (stepped core actor c.args.place c.args.call.now (a.reply, a.effect) c.args.self.now (after c) agrees seated c.make.ensures.board made).entry)
    c.make.ensures.made

pub returns-clause-kept : goal.returns-clause-kept
returns-clause-kept c =
    on_err_weaker c.make.result (λ kept core agrees. kept_on core c.args.self.now (after c) agrees c.make.ensures.board kept) c.make.ensures.kept
