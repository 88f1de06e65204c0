use Rattle.df_tables.proofs.Names.{Some, refl, ap, ◌∙◌, List, with_items_is, rows, Subscribe, Effect, Sub, modify, moved_row, Unit}
use Rattle.df_tables.proofs.Moved.{board_other}
use Rattle.df_tables.proofs.board.Board.enrol.Goals as goal

pub returns-clause-ok : goal.returns-clause-ok
returns-clause-ok c = record {
  rows = with_items_is c.args.self.now.rows c.subscribe.new.units (c.subscribe.auto.units ∙ c.as_mut_slice-rows.ensures.len)
      ∙ c.in_ok-subscribe.ensures.ok
      ∙ ap (λ (us : List Unit). modify c.args.place (moved_row rows (Subscribe c.args.filter.now) (Sub c.args.number) Effect.Nothing) us) c.as_mut_slice-rows.ensures.value;
  roll = refl;
  events = refl;
  enrolled = c.in_ok-subscribe.ensures.enrolled;
  handed = c.subscribe.ensures.handed;
  told = refl;
}

pub returns-clause-board : goal.returns-clause-board
returns-clause-board c =
    board_other c.args.place (Subscribe c.args.filter.now) (Sub c.args.number) Effect.Nothing (Some (c.args.number, c.args.filter.now)) c.args.self.now _ c.requires.within c.requires.board (returns-clause-ok c) refl refl refl
