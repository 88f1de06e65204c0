use Rattle.std.proofs.Common.{sym, ◌∙◌, ap, subst, w64, to_z, of_z}
use Rattle.std.proofs.lemmas.Int.{to_z-of_z}
use Rattle.df_book.specs.code.Places.{by_arrival}
use Rattle.df_book.specs.code.Trees.{IsByPlace, left_in}
use Rattle.df_book.proofs.AtFork.{ok_passed}
use Rattle.df_book.proofs.ByPlace.{left_by_place}
use Rattle.df_book.proofs.Standing.{left_arrived}
use Rattle.df_book.proofs.resting.leave.Goals as goal

pub returns-clause-left : goal.returns-clause-left
returns-clause-left c =
    ok_passed c.leave.result c.leave.ensures (λ t e.
    ap by_arrival (e ∙ ap (λ z. left_in c.args.place.now z c.args.orders.now) (to_z-of_z w64 c.args.left c.ranges.left))
    ∙ left_arrived 0 _ c.args.place.now c.args.left c.requires.taken.0 c.args.orders.now c.requires.in_order c.requires.taken.1)

pub returns-clause-by_place : goal.returns-clause-by_place
returns-clause-by_place c =
    ok_passed c.leave.result c.leave.ensures (λ t e. subst IsByPlace (sym e) (left_by_place c.args.place.now (to_z w64 (of_z w64 c.args.left)) c.args.orders.now c.requires.by_place))
