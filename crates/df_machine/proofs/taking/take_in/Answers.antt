use Rattle.std.proofs.Common.{Option, sym, ap, ◌∙◌}
use Rattle.df_tables.specs.Board.{answer_from}
use Rattle.df_tables.specs.declared.units.Unit.{Unit}
use Rattle.df_tables.proofs.Booked.{row_is}
use Rattle.df_machine.proofs.taking.take_in.Goals as goal

pub book-requires-clause-seated : goal.book-requires-clause-seated
book-requires-clause-seated c = (c.args.actor.now, sym c.place-place.ensures)

pub returns-clause-answer : goal.returns-clause-answer
returns-clause-answer c =
    sym (c.in_ok-reply.ensures ∙ ap (λ (o : Option Unit). answer_from o c.args.call.now) (row_is c.args.board.now c.args.actor.now c.place-place.result (sym c.place-place.ensures)))

pub returns-clause-booked : goal.returns-clause-booked
returns-clause-booked c = c.in_ok-book.ensures.ok c.args.actor.now (sym c.place-place.ensures)
