use Rattle.std.proofs.Common.{map}
use Rattle.df_start.specs.Begun.{begun}
use Rattle.df_memory.proofs.Errors.{on_err}
use Rattle.df_machine.proofs.tables.Tables.emitted.Goals as goal

pub emit-requires : goal.emit-requires
emit-requires c = c.requires.1.board

pub returns-clause-entry : goal.returns-clause-entry
returns-clause-entry c core agrees =
    record { board = c.emit.ensures.board; tells = c.in_ok-emit.ensures.ok (map begun core.0) core.1 agrees.tells }

pub returns-in_err-emit-clause-kept : goal.returns-in_err-emit-clause-kept
returns-in_err-emit-clause-kept c =
    on_err c.from_residual.result
    (λ core agrees. record { board = c.emit.ensures.board; tells = c.in_err-emit.ensures.kept (map begun core.0) core.1 agrees.tells })
