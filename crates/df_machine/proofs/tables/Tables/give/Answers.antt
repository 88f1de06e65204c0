use Rattle.std.proofs.Common.{Some, sym}
use Rattle.std.proofs.lemmas.Result.{IfOk-weaker, on_err_weaker}
use Rattle.df_tables.specs.Hand.{received_answer}
use Rattle.df_unit.specs.declared.call.Call.TheVariants.{Get}
use Rattle.df_machine.specs.declared.tables.Tables.{Tables}
use Rattle.df_machine.proofs.Steps.{renewed_on, stepped}
use Rattle.df_machine.proofs.tables.Tables.give.Goals as goal

pub give-requires-clause-board : goal.give-requires-clause-board
give-requires-clause-board c = c.requires.agrees.1.board

pub give-requires-clause-seated : goal.give-requires-clause-seated
give-requires-clause-seated c = (c.requires.seated.0, sym c.requires.seated.1)

abbrev after : (c : goal.After-give) → Tables
after c = record { board = c.give.new.self }

pub returns-clause-made : goal.returns-clause-made
returns-clause-made c =
    IfOk-weaker c.give.result _ _
    (λ x is core actor agrees seated.
    stepped core actor (Some c.args.place) Get (received_answer x) c.args.self.now (after c) agrees seated c.give.ensures.board is)
    c.give.ensures.made

pub returns-clause-kept : goal.returns-clause-kept
returns-clause-kept c =
    on_err_weaker c.give.result (λ same core agrees. renewed_on core c.args.self.now (after c) agrees c.give.ensures.board same) c.give.ensures.same
