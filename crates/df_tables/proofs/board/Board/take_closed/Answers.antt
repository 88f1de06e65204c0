use Rattle.df_tables.proofs.Names.{◌≡◌, ◌∙◌, None, Option, refl, ap, subst, with_items, with_items_is, IfOk-weaker, on_err_weaker, Effect, TellsAt, shut_where}
use Rattle.df_local.specs.Locally.{closing, made_where}
use Rattle.df_tables.proofs.HandedOver.{board_taken_either}
use Rattle.df_tables.proofs.board.Board.take_closed.Goals as goal

pub close_at-requires : goal.close_at-requires
close_at-requires c = rw c.as_mut_slice.ensures.value (record { within = c.requires.within })

-- the rows, as they stand in the board
rows_taken : (c : goal.After-self-1) (made : Option Effect) → c.close_at.new.units ≡ shut_where made c.args.place c.args.h c.as_mut_slice.result.now →
    (with_items c.args.self.now.rows c.close_at.new.units).items ≡ shut_where made c.args.place c.args.h c.args.self.now.rows.items
rows_taken c made e =
    with_items_is c.args.self.now.rows c.close_at.new.units (c.close_at.auto.units ∙ c.as_mut_slice.ensures.len) ∙ e
    ∙ ap (shut_where made c.args.place c.args.h) c.as_mut_slice.ensures.value

pub returns-clause-taken : goal.returns-clause-taken
returns-clause-taken c =
    IfOk-weaker c.close_at.result _ _
    (λ is closed. let made = made_where is c.close_at.new.effect in record {
      answered = subst (TellsAt c.args.place (closing c.args.how c.args.h) made) c.as_mut_slice.ensures.value closed.told;
      moved = record { rows = rows_taken c made closed.moved; roll = refl; events = refl; index = refl; managed = refl; told = refl };
    })
    c.close_at.ensures.made

pub returns-clause-board : goal.returns-clause-board
returns-clause-board c =
    board_taken_either c.args.place c.args.h c.args.self.now _ c.close_at.new.effect c.requires.board
    (record { seats = refl; labels = refl; stale = refl; events = refl; index = refl; managed = refl; told = refl }) c.close_at.result
    (IfOk-weaker c.close_at.result _ _ (λ is closed. rows_taken c (made_where is c.close_at.new.effect) closed.moved) c.close_at.ensures.made)
    (on_err_weaker c.close_at.result (rows_taken c None) c.close_at.ensures.unchanged)
