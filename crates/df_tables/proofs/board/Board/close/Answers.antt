use Rattle.df_tables.proofs.Names.{List, length, refl, ap, ◌∙◌, FilterIndex, event_place, parts_of, EventRow}
use Rattle.df_index.specs.IndexState.{was_handed}
use Rattle.df_instances.specs.Marks as marks
use Rattle.df_tables.proofs.Boards.{board_booked}
use Rattle.df_tables.proofs.board.Board.close.Goals as goal

pub bear_all-requires-clause-board : goal.bear_all-requires-clause-board
bear_all-requires-clause-board c =
    board_booked c.args.self.now _ c.args.ready.to c.args.ready.place c.requires.board c.requires.within c.requires.place refl refl refl refl c.book.ensures.enrolled c.book.ensures.handed c.set.ensures.length

pub returns-clause-closed : goal.returns-clause-closed
returns-clause-closed c =
    let born = c.bear_all.ensures.born in record {
      rows = born.rows;
      managed = born.managed;
      told = λ e q. ap (λ (h : List _). marks.was_handed h e q) born.told ∙ c.book-2.ensures.handed e q;
      enrolled = ap (λ (x : FilterIndex). x.enrolled) born.index ∙ c.book.ensures.enrolled;
      handed = λ e p. ap (λ (x : FilterIndex). was_handed x.handed e p) born.index ∙ c.book.ensures.handed e p;
      size = ap (λ (l : List EventRow). length l) born.events ∙ c.set.ensures.length;
      places = λ e. ap (event_place e) born.events ∙ c.set.ensures.places e;
      parts = λ event h e. ap (parts_of e) born.events ∙ c.set.ensures.parts event h e;
    }
