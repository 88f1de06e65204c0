use Rattle.df_tables.proofs.Names.{None, refl, ap, sym, ◌∙◌, List, append-nil, with_items_is, rows, SubscribeManaged, Effect, Sub, modify, moved_row, Unit}
use Rattle.df_tables.proofs.Moved.{board_other}
use Rattle.df_tables.proofs.board.Board.enrol_managed.Goals as goal

pub returns-clause-ok : goal.returns-clause-ok
returns-clause-ok c = record {
  rows = with_items_is c.args.self.now.rows c.subscribe_managed.new.units (c.subscribe_managed.auto.units ∙ c.as_mut_slice-rows.ensures.len)
      ∙ c.in_ok-subscribe_managed.ensures.ok
      ∙ ap (λ (us : List Unit). modify c.args.place (moved_row rows (SubscribeManaged c.args.filter.now) (Sub c.args.number) Effect.Nothing) us) c.as_mut_slice-rows.ensures.value;
  roll = refl;
  events = refl;
  enrolled = sym (append-nil c.args.self.now.index.enrolled);
  handed = refl;
  told = refl;
}

pub returns-clause-board : goal.returns-clause-board
returns-clause-board c =
    board_other c.args.place (SubscribeManaged c.args.filter.now) (Sub c.args.number) Effect.Nothing None c.args.self.now _ c.requires.within c.requires.board (returns-clause-ok c) refl refl refl
