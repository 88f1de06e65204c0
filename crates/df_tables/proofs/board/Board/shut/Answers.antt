use Rattle.df_tables.proofs.Names.{◌∙◌, List, ap, refl, with_items_is, modify, shut_row, Unit}
use Rattle.df_tables.proofs.Boards.{board_shut}
use Rattle.df_tables.proofs.board.Board.shut.Goals as goal

pub returns-clause-shut : goal.returns-clause-shut
returns-clause-shut c = record {
  rows = with_items_is c.args.self.now.rows c.shut_at.new.units (c.shut_at.auto.units ∙ c.as_mut_slice.ensures.len)
      ∙ c.shut_at.ensures
      ∙ ap (λ (us : List Unit). modify c.args.place (shut_row c.args.h) us) c.as_mut_slice.ensures.value;
  roll = refl;
  events = refl;
  index = refl;
  managed = refl;
  told = refl;
}

pub returns-clause-board : goal.returns-clause-board
returns-clause-board c = board_shut c.args.place c.args.h c.args.self.now _ c.requires.board (returns-clause-shut c) refl refl
