use Rattle.df_tables.proofs.Names.{on_ok_weaker}
use Rattle.df_tables.proofs.Booked.{enrols_at, moved_made}
use Rattle.df_tables.proofs.board.Board.book_plain.Goals as goal

pub enrol-requires-clause-right : goal.enrol-requires-clause-right
enrol-requires-clause-right c =
    enrols_at c.args.self.now.rows.items c.args.place c.args.call.now c.args.reply.now c.args.effect.now c.in-Some.number c.in-Some.filter.now c.in-Some.ensures c.requires.right

pub returns-in-Some-clause-ok : goal.returns-in-Some-clause-ok
returns-in-Some-clause-ok c =
    on_ok_weaker c.enrol.result
    (moved_made c.args.place c.args.call.now c.args.reply.now c.args.effect.now c.in-Some.number c.in-Some.filter.now c.args.self.now c.enrol.new.self c.in-Some.ensures c.requires.within c.requires.right)
    c.enrol.ensures.ok
