use Rattle.df_tables.proofs.Names.{None, refl, sym, ap, ◌∙◌, List, append-nil, with_items_is, rows, modify, moved_row, Unit}
use Rattle.df_tables.proofs.Moved.{board_other}
use Rattle.df_tables.proofs.board.Board.move_other.Goals as goal

pub returns-clause-ok : goal.returns-clause-ok
returns-clause-ok c = record {
  rows = with_items_is c.args.self.now.rows c.move_at.new.units (c.move_at.auto.units ∙ c.as_mut_slice.ensures.len)
      ∙ c.in_ok-move_at.ensures.ok
      ∙ ap (λ (us : List Unit). modify c.args.place (moved_row rows c.args.call.now c.args.reply.now c.args.effect.now) us) c.as_mut_slice.ensures.value;
  roll = refl;
  events = refl;
  enrolled = sym (append-nil c.args.self.now.index.enrolled);
  handed = refl;
  told = refl;
}

pub returns-clause-board : goal.returns-clause-board
returns-clause-board c =
    board_other c.args.place c.args.call.now c.args.reply.now c.args.effect.now None c.args.self.now _ c.requires.within c.requires.board (returns-clause-ok c) c.requires.other refl refl
