use Rattle.df_tables.proofs.Names.{None, refl, sym, ap, ◌∙◌, List, append-nil, with_items_is, rows, FilterIndex, modify, inputs, moved_row, Unit}
use Rattle.df_tables.proofs.Moved.{board_reader}
use Rattle.df_tables.proofs.board.Board.move_reader.Goals as goal

pub returns-clause-ok : goal.returns-clause-ok
returns-clause-ok c =
    let same = c.refresh.ensures.same in record {
      rows = with_items_is c.refresh.new.self.rows c.move_at.new.units (c.move_at.auto.units ∙ c.as_mut_slice.ensures.len)
          ∙ c.in_ok-move_at.ensures.ok
          ∙ ap (λ (us : List Unit). modify c.args.place (moved_row rows c.args.call.now c.args.reply.now c.args.effect.now) us) (c.as_mut_slice.ensures.value ∙ same.rows);
      roll = same.roll;
      events = same.events;
      enrolled = ap (λ (x : FilterIndex). x.enrolled) same.index ∙ sym (append-nil c.args.self.now.index.enrolled);
      handed = ap (λ (x : FilterIndex). x.handed) same.index;
      told = same.told;
    }

pub returns-clause-board : goal.returns-clause-board
returns-clause-board c =
    board_reader c.args.place c.args.call.now c.args.reply.now c.args.effect.now None c.args.self.now _ c.requires.within c.requires.board (returns-clause-ok c)
    (c.in_ok-refresh.ensures.fresh ∙ ap inputs c.refresh.ensures.same.rows) refl
