use Rattle.df_tables.proofs.Names.{List, Option, refl, sym, subst, ◌∙◌, with_items, with_items_is, IfOk-weaker, Reply, IsMadeAt, Unit}
use Rattle.df_local.specs.Locally.{told_if}
use Rattle.df_tables.proofs.Alone.{board_alone, made_or_not, makes_alone}
use Rattle.df_tables.proofs.Booked.{place_in}
use Rattle.df_tables.proofs.board.Board.make_alone.Goals as goal

pub make_at-requires : goal.make_at-requires
make_at-requires c =
    rw c.as_mut_slice.ensures.value (record { within = place_in c.requires.seated.0 c.args.self.now.rows.items c.in-Some.place (c.requires.seated.1 ∙ c.in-Some.is); ok = c.requires.ok })

-- what is made in the rows, as they stand in the board
in_rows : (c : goal.After-self-1) (made : Option Reply) → IsMadeAt c.in-Some.place c.args.call.now made c.as_mut_slice.result.now c.make_at.new.units
    → IsMadeAt c.in-Some.place c.args.call.now made c.args.self.now.rows.items (with_items c.args.self.now.rows c.make_at.new.units).items
in_rows c made is =
    subst (λ (vs : List Unit). IsMadeAt c.in-Some.place c.args.call.now made c.args.self.now.rows.items vs)
    (sym (with_items_is c.args.self.now.rows c.make_at.new.units (c.make_at.auto.units ∙ c.as_mut_slice.ensures.len)))
    (subst (λ (us : List Unit). IsMadeAt c.in-Some.place c.args.call.now made us c.make_at.new.units) c.as_mut_slice.ensures.value is)

pub returns-in-Some-clause-board : goal.returns-in-Some-clause-board
returns-in-Some-clause-board c =
    let or = made_or_not (λ made. IsMadeAt c.in-Some.place c.args.call.now made c.as_mut_slice.result.now c.make_at.new.units)
    (λ made. told_if made c.make_at.new.reply) c.make_at.result
    c.make_at.ensures.made c.make_at.ensures.unchanged in
    board_alone c.requires.seated.0 c.in-Some.place c.args.call.now c.args.self.now _ (c.requires.seated.1 ∙ c.in-Some.is) c.requires.board
    (record { seats = refl; labels = refl; stale = refl; events = refl; index = refl; managed = refl; told = refl }) or.0 (in_rows c or.0 or.1)

pub returns-in-Some-clause-made : goal.returns-in-Some-clause-made
returns-in-Some-clause-made c =
    rw c.in-Some.is
    (IfOk-weaker c.make_at.result _ _
    (λ made is. makes_alone c.requires.seated.0 c.in-Some.place c.args.call.now c.args.self.now _ (c.requires.seated.1 ∙ c.in-Some.is) c.requires.board
    (record { seats = refl; labels = refl; stale = refl; events = refl; index = refl; managed = refl; told = refl }) (told_if made c.make_at.new.reply)
    (in_rows c (told_if made c.make_at.new.reply) is))
    c.make_at.ensures.made)
