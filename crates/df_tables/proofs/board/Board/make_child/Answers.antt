use Rattle.df_tables.proofs.Names.{None, refl, ap, sym, ◌∙◌, ◌≡◌, ◌<◌, ◌+◌, List, length, arith, length-append, append-nil, with_items_is, rows, Instantiate, Effect, Reply, if_new, modify, moved_row, Unit}
use Rattle.df_tables.proofs.Moved.{board_other}
use Rattle.df_tables.proofs.board.Board.make_child.Goals as goal

pub returns-clause-board : goal.returns-clause-board
returns-clause-board c =
    let us = c.args.self.now.rows.items in
    let born = c.bear.new.self in
    let more : length born.rows.items ≡ length us + length (if_new c.in_ok-born.born us) = ap length c.in_ok-bear.ensures.ok.rows ∙ length-append us (if_new c.in_ok-born.born us) in
    let within : c.args.place < length born.rows.items = omega (arith, more, c.requires.within) in
    board_other c.args.place (Instantiate c.args.s.now c.args.privileges.now) (Reply.Unit c.args.number) Effect.Nothing None born _ within c.bear.ensures.board
    (record {
      rows = with_items_is born.rows c.count_child.new.units (c.count_child.auto.units ∙ c.as_mut_slice.ensures.len)
          ∙ c.count_child.ensures
          ∙ ap (λ (l : List Unit). modify c.args.place (moved_row rows (Instantiate c.args.s.now c.args.privileges.now) (Reply.Unit c.args.number) Effect.Nothing) l) c.as_mut_slice.ensures.value;
      roll = refl;
      events = refl;
      enrolled = sym (append-nil born.index.enrolled);
      handed = refl;
      told = refl;
    })
    refl refl refl
