use Rattle.df_tables.proofs.Names.{ap, ◌∙◌, apply, spared}
use Rattle.df_tables.proofs.Opened.{place_within}
use Rattle.df_tables.proofs.board.Board.open.Goals as goal

pub contents-requires : goal.contents-requires
contents-requires c = place_within c.args.commit.now.event c.open_event.new.self.events c.in_ok-place.place c.in_ok-place.ensures.place

pub called-requires-clause-added : goal.called-requires-clause-added
called-requires-clause-added c = (spared c.args.commit.now.edit.0 c.contents.result.now, c.in_ok-after.ensures)

pub make_ready-requires-clause-after : goal.make_ready-requires-clause-after
make_ready-requires-clause-after c = c.in_ok-after.ensures ∙ ap (apply c.args.commit.now.edit) (c.contents.ensures c.args.commit.now.event c.in_ok-place.ensures.place)
