use Rattle.df_tables.proofs.Names.{on_err_weaker, on_ok_weaker}
use Rattle.df_tables.proofs.Booked.{kept_opened}
use Rattle.df_tables.proofs.HandedOver.{emitted}
use Rattle.df_tables.proofs.board.Board.emit.Goals as goal

pub returns-clause-ok : goal.returns-clause-ok
returns-clause-ok c =
    on_ok_weaker c.hand_commit.result (emitted c.args.commit.now c.args.self.now c.hand_commit.new.self c.requires.whole) c.hand_commit.ensures.ok

pub returns-clause-kept : goal.returns-clause-kept
returns-clause-kept c =
    on_err_weaker c.hand_commit.result
    (kept_opened c.args.commit.now.event c.args.self.now c.hand_commit.new.self c.requires.whole) c.hand_commit.ensures.opened
