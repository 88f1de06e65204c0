use Rattle.df_tables.proofs.Names.{List, refl, subst, sym, Label, Seat, IsWhole, IsRollOf, AreLabels, inputs, Unit}
use Rattle.df_tables.proofs.board.Board.make_room.Goals as goal

pub returns-clause-board : goal.returns-clause-board
returns-clause-board c =
    let old = c.args.self.now in
    let is = c.make_room.ensures in record {
      whole = subst (λ (us : List Unit). IsWhole us old.events old.index) (sym is.rows) c.requires.board.whole;
      roll = subst (λ (ss : List Seat). IsRollOf ss c.make_room.new.rows.items) (sym is.seats)
          (subst (λ (us : List Unit). IsRollOf old.roll.seats us) (sym is.rows) c.requires.board.roll);
      labels = subst (λ (us : List Unit). AreLabels (inputs us) c.make_room.new.labels.items old.stale) (sym is.rows)
          (subst (λ (ls : List Label). AreLabels (inputs old.rows.items) ls old.stale) (sym is.labels) c.requires.board.labels);
    }

pub returns-clause-same : goal.returns-clause-same
returns-clause-same c = let is = c.make_room.ensures in record { rows = is.rows; roll = is.seats; events = refl; index = refl; managed = refl; told = refl }

pub returns-clause-labels : goal.returns-clause-labels
returns-clause-labels c = c.make_room.ensures.labels
