use Rattle.df_tables.proofs.Names.{arith}
use Rattle.df_memory.proofs.Errors.{on_err}
use Rattle.df_tables.proofs.Boards.{handed_longer}
use Rattle.df_tables.proofs.Booked.{kept_opened}
use Rattle.df_tables.proofs.HandedOver.{booked_commit}
use Rattle.df_tables.proofs.board.Board.book_commit.Goals as goal

pub shut-requires-clause-within : goal.shut-requires-clause-within
shut-requires-clause-within c =
    let longer = handed_longer c.args.commit.now c.args.self.now c.hand_commit.new.self c.requires.board.whole c.in_ok-hand_commit.ensures.ok in
    let within = c.requires.within in
    omega (arith, longer, within)

pub returns-clause-ok : goal.returns-clause-ok
returns-clause-ok c actor call reply here closes answered =
    booked_commit actor c.args.place c.args.h call reply c.args.commit.now c.args.self.now c.hand_commit.new.self _ here closes answered
    c.requires.board.whole c.in_ok-hand_commit.ensures.ok c.shut.ensures.shut

pub returns-in_err-hand_commit-clause-kept : goal.returns-in_err-hand_commit-clause-kept
returns-in_err-hand_commit-clause-kept c =
    on_err c.from_residual.result
    (kept_opened c.args.commit.now.event c.args.self.now c.hand_commit.new.self c.requires.board.whole c.in_err-hand_commit.ensures.opened)
