use Rattle.std.proofs.Common.{sym}
use Rattle.std.proofs.lemmas.Result.{IfOk-weaker}
use Rattle.df_local.specs.Locally.{closing, made_where}
use Rattle.df_machine.specs.declared.tables.Tables.{Tables}
use Rattle.df_machine.proofs.Steps.{stepped_closing}
use Rattle.df_machine.proofs.tables.Tables.close_handle.Goals as goal

pub close_handle-requires-clause-board : goal.close_handle-requires-clause-board
close_handle-requires-clause-board c = c.requires.agrees.1.board

pub close_handle-requires-clause-seated : goal.close_handle-requires-clause-seated
close_handle-requires-clause-seated c = (c.requires.seated.0, sym c.requires.seated.1)

abbrev after : (c : goal.After-close_handle) → Tables
after c = record { board = c.close_handle.new.self }

pub returns : goal.returns
returns c =
    IfOk-weaker c.close_handle.result _ _
    (λ is made. stepped_closing c.args.place (closing c.args.how c.args.h) (made_where is c.close_handle.new.effect) c.args.self.now (after c) c.close_handle.ensures.board made)
    c.close_handle.ensures.made
