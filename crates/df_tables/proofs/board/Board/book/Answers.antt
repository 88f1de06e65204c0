use Rattle.df_tables.proofs.Names.{◌≡◌, subst, ◌∙◌, on_ok_weaker, answer_from, Unit}
use Rattle.std.specs.Prelude.{Option}
use Rattle.df_tables.proofs.Booked.{absent_childless, absent_unmanaged, answered_at, booked_none, place_in, row_is}
use Rattle.df_tables.proofs.board.Board.book.Goals as goal

pub book_at-requires-clause-within : goal.book_at-requires-clause-within
book_at-requires-clause-within c =
    let actor = c.requires.seated.0 in
    place_in actor c.args.self.now.rows.items c.in-Some.place (c.requires.seated.1 ∙ c.in-Some.is)

pub book_at-requires-clause-right : goal.book_at-requires-clause-right
book_at-requires-clause-right c =
    let us = c.args.self.now.rows.items in
    let actor = c.requires.seated.0 in
    let right = subst (λ (o : Option Unit). answer_from o c.args.call.now ≡ (c.args.reply.now, c.args.effect.now)) (row_is c.args.self.now actor c.args.place c.requires.seated.1) c.requires.right in
    answered_at actor us c.in-Some.place c.args.call.now c.args.reply.now c.args.effect.now (c.requires.seated.1 ∙ c.in-Some.is) right

pub returns-in-Some-clause-ok : goal.returns-in-Some-clause-ok
returns-in-Some-clause-ok c = on_ok_weaker c.book_at.result (λ booked actor here. booked actor (here ∙ c.in-Some.is)) c.book_at.ensures.ok

pub returns-in-None-clause-ok : goal.returns-in-None-clause-ok
returns-in-None-clause-ok c actor here =
    let none = here ∙ c.in-None.is in
    let said = rw c.in-None.is at c.requires.right in
    booked_none actor c.args.call.now c.args.reply.now c.args.effect.now c.args.self.now none (absent_unmanaged c.args.call.now c.args.reply.now c.args.effect.now said) (absent_childless c.args.call.now c.args.reply.now c.args.effect.now said) c.requires.board.whole said
