use Rattle.df_tables.proofs.Names.{◌++◌, List, ap, ◌∙◌, IfOk-weaker, rows_in, receivers_of, names_at, names_of, Unit}
use Rattle.df_tables.proofs.Booked.{kept_opened}
use Rattle.df_tables.proofs.Receiving.{ready_receivers}
use Rattle.df_tables.proofs.board.Board.receivers.Goals as goal

pub returns-in_err-ready-clause-kept : goal.returns-in_err-ready-clause-kept
returns-in_err-ready-clause-kept c = kept_opened c.args.commit.now.event c.args.self.now c.open.new.self c.requires.whole c.open.ensures.opened

pub returns-clause-kept : goal.returns-clause-kept
returns-clause-kept c = kept_opened c.args.commit.now.event c.args.self.now c.open.new.self c.requires.whole c.open.ensures.opened

pub returns-clause-exact : goal.returns-clause-exact
returns-clause-exact c = IfOk-weaker c.names_in.result
    _ _ (λ names names_are. ready_receivers c.args.commit.now c.args.self.now c.open.new.self c.in_ok-ready.ready names.items c.requires c.in_ok-ready.ensures.opened
    c.in_ok-ready.ensures.ready (names_are
    ∙ ap (λ (us : List Unit). names_at us (receivers_of c.in_ok-ready.ready) ++ names_of (rows_in c.in_ok-ready.ready.called.born.items)) c.as_slice.ensures.value)) c.names_in.ensures
