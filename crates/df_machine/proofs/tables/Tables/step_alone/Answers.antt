use Rattle.std.proofs.Common.{sym}
use Rattle.std.proofs.lemmas.Result.{IfOk-weaker, on_err_weaker}
use Rattle.df_local.specs.Locally.{told_if}
use Rattle.df_machine.specs.declared.tables.Tables.{Tables}
use Rattle.df_machine.proofs.Steps.{renewed_on, stepped_alone}
use Rattle.df_machine.proofs.tables.Tables.step_alone.Goals as goal

pub make_alone-requires-clause-board : goal.make_alone-requires-clause-board
make_alone-requires-clause-board c = c.requires.agrees.1.board

pub make_alone-requires-clause-seated : goal.make_alone-requires-clause-seated
make_alone-requires-clause-seated c = (c.requires.seated.0, sym c.requires.seated.1)

abbrev after : (c : goal.After-make_alone) → Tables
after c = record { board = c.make_alone.new.self }

pub returns-clause-made : goal.returns-clause-made
returns-clause-made c =
    IfOk-weaker c.make_alone.result _ _
    (λ made is. stepped_alone c.args.place c.args.call.now (told_if made c.make_alone.new.reply) c.args.self.now (after c) c.make_alone.ensures.board is)
    c.make_alone.ensures.made

pub returns-clause-kept : goal.returns-clause-kept
returns-clause-kept c =
    on_err_weaker c.make_alone.result (λ same core agrees. renewed_on core c.args.self.now (after c) agrees c.make_alone.ensures.board same)
    c.make_alone.ensures.same
