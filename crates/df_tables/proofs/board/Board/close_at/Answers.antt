use Rattle.df_tables.proofs.Names.{◌≡◌, Effect, Some, None}
use Rattle.df_tables.proofs.Booked.{place_in}
use Rattle.df_tables.proofs.HandedOver.{closing_made, closing_taken}
use Rattle.df_tables.proofs.board.Board.close_at.Goals as goal

pub take_closed-requires-clause-within : goal.take_closed-requires-clause-within
take_closed-requires-clause-within c = place_in c.requires.seated.0 c.args.self.now.rows.items c.args.place c.requires.seated.1

pub returns-then-not-branch-clause-made : goal.returns-then-not-branch-clause-made
returns-then-not-branch-clause-made c =
    let taken = rw c.if-not-branch.true at c.in_ok-take_closed.ensures.taken in
    closing_made c.requires.seated.0 c.args.place c.args.how c.args.h c.args.self.now c.take_closed.new.self c.requires.seated.1 c.requires.board
    None (λ k e. let z : ⊥ = cc in z) taken

pub returns-in_ok-hand_commit-clause-made : goal.returns-in_ok-hand_commit-clause-made
returns-in_ok-hand_commit-clause-made c =
    let taken = rw (c.if-not-branch.false, c.in-Commit.is) at c.in_ok-take_closed.ensures.taken in
    closing_taken c.requires.seated.0 c.args.place c.args.how c.args.h c.args.self.now c.take_closed.new.self c.requires.seated.1 c.requires.board
    c.in-Commit.commit c.hand_commit.new.self taken c.in_ok-hand_commit.ensures.ok

pub returns-in_default : goal.returns-in_default
returns-in_default c =
    let taken = rw c.if-not-branch.false at c.in_ok-take_closed.ensures.taken in record {
      board = c.take_closed.ensures.board;
      made = closing_made c.requires.seated.0 c.args.place c.args.how c.args.h c.args.self.now c.take_closed.new.self c.requires.seated.1 c.requires.board
          (Some c.take_closed.new.effect) (λ k e. let f : c.take_closed.new.effect ≡ Effect.Commit k = cc in c.in_default.not-Commit k f) taken;
    }
