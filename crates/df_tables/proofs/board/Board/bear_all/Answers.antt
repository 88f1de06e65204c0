use Rattle.df_tables.proofs.Names.{All, List, ℕ, ap, sym, subst, ◌∙◌, All-tail, into_iter_items, into_iter_len, IsNewborn, all_new, rows_in, HasRoom, Newborn}
use Rattle.df_tables.proofs.board.Board.bear_all.Goals as goal

pub births-preserved : goal.births-preserved
births-preserved c =
    let kept = c.births.invariant in
    let first = c.in-Some.ensures.steps in
    let born = c.bear_in_room.ensures.born in
    let rest : List Newborn = into_iter_items c.next.new.self in record {
      board = c.bear_in_room.ensures.board;
      newborn = All-tail IsNewborn c.in-Some.one rest (subst (All IsNewborn) first.0 kept.newborn);
      room = c.bear_in_room.ensures.room (into_iter_len c.next.new.self) (subst (λ (n : ℕ). HasRoom n c.births.self) (sym first.1) kept.room);
      rows = ap (all_new (rows_in rest)) born.rows ∙ ap (λ (l : List Newborn). all_new (rows_in l) c.births.self.rows.items) (sym first.0) ∙ kept.rows;
      events = born.events ∙ kept.events;
      index = born.index ∙ kept.index;
      managed = born.managed ∙ kept.managed;
      told = born.told ∙ kept.told;
    }
