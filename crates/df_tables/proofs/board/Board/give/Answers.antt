use Rattle.df_tables.proofs.Names.{◌≡◌, List, None, refl, sym, subst, ◌∙◌, with_items, with_items_is, IfOk-weaker, on_err_weaker, Get, Effect, Reply, IsGivenAt, Unit}
use Rattle.df_tables.proofs.Alone.{makes_alone}
use Rattle.df_tables.proofs.Booked.{place_in}
use Rattle.df_tables.proofs.Gets.{board_either, makes_given}
use Rattle.df_tables.specs.Hand.{received_answer}
use Rattle.df_tables.proofs.board.Board.give.Goals as goal

pub give_at-requires : goal.give_at-requires
give_at-requires c = rw c.as_mut_slice.ensures.value (record { within = place_in c.requires.seated.0 c.args.self.now.rows.items c.args.place c.requires.seated.1 })

-- what is given in the rows, as they stand in the board
in_rows : (c : goal.After-self-1) (x : Reply × Effect) → IsGivenAt c.args.place x c.as_mut_slice.result.now c.give_at.new.units
    → IsGivenAt c.args.place x c.args.self.now.rows.items (with_items c.args.self.now.rows c.give_at.new.units).items
in_rows c x is =
    subst (λ (vs : List Unit). IsGivenAt c.args.place x c.args.self.now.rows.items vs)
    (sym (with_items_is c.args.self.now.rows c.give_at.new.units (c.give_at.auto.units ∙ c.as_mut_slice.ensures.len)))
    (subst (λ (us : List Unit). IsGivenAt c.args.place x us c.give_at.new.units) c.as_mut_slice.ensures.value is)

rows_same : (c : goal.After-self-1) → c.give_at.new.units ≡ c.as_mut_slice.result.now → (with_items c.args.self.now.rows c.give_at.new.units).items ≡ c.args.self.now.rows.items
rows_same c same = with_items_is c.args.self.now.rows c.give_at.new.units (c.give_at.auto.units ∙ c.as_mut_slice.ensures.len) ∙ same ∙ c.as_mut_slice.ensures.value

pub returns-clause-made : goal.returns-clause-made
returns-clause-made c =
    IfOk-weaker c.give_at.result _ _
    (λ x is. makes_given c.requires.seated.0 c.args.place (received_answer x) c.args.self.now _ c.requires.seated.1 c.requires.board
    (record { seats = refl; labels = refl; stale = refl; events = refl; index = refl; managed = refl; told = refl }) (in_rows c (received_answer x) is))
    c.give_at.ensures.given

pub returns-clause-board : goal.returns-clause-board
returns-clause-board c =
    board_either c.requires.seated.0 c.args.place c.args.self.now _ c.requires.seated.1 c.requires.board
    (record { seats = refl; labels = refl; stale = refl; events = refl; index = refl; managed = refl; told = refl }) c.give_at.result
    (IfOk-weaker c.give_at.result _ _ (λ x is. in_rows c (received_answer x) is) c.give_at.ensures.given)
    (on_err_weaker c.give_at.result (rows_same c) c.give_at.ensures.unchanged)

pub returns-clause-same : goal.returns-clause-same
returns-clause-same c =
    on_err_weaker c.give_at.result
    (λ same. makes_alone c.requires.seated.0 c.args.place Get c.args.self.now _ c.requires.seated.1 c.requires.board
    (record { seats = refl; labels = refl; stale = refl; events = refl; index = refl; managed = refl; told = refl }) None (rows_same c same))
    c.give_at.ensures.unchanged
