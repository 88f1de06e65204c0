use Rattle.df_tables.proofs.Names.{sym, subst, OnOk, Effect}
use Rattle.df_tables.specs.Board.{ClosesAt}
use Rattle.df_tables.proofs.HandedOver.{booked_shut}
use Rattle.df_tables.proofs.board.Board.book_close.Goals as goal

pub returns-in-Commit-clause-ok : goal.returns-in-Commit-clause-ok
returns-in-Commit-clause-ok c =
    subst (λ (f : Effect). OnOk c.book_commit.result (ClosesAt c.args.place c.args.h f c.args.self.now c.book_commit.new.self))
    (sym c.in-Commit.is) c.book_commit.ensures.ok

pub returns-in_default-clause-ok : goal.returns-in_default-clause-ok
returns-in_default-clause-ok c actor call reply here closes answered =
    booked_shut actor c.args.place c.args.h call reply c.args.effect.now c.args.self.now c.shut.new.self here closes answered
    c.in_default.not-Commit c.requires.board.whole c.shut.ensures.shut
