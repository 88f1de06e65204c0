use Rattle.std.proofs.Common.{◌++◌, ◌∷◌, refl, sym, ◌∙◌, ap, w64, arith}
use Rattle.std.proofs.lemmas.Int.{to_z-of_z}
use Rattle.df_book.specs.code.Trees.{left_here, left_in}
use Rattle.df_book.proofs.AtFork.{at_fork, becomes, compared}
use Rattle.df_book.proofs.ByPlace.{Entries, left_left, left_middle, left_right, above_earlier}
use Rattle.df_book.proofs.changes.+leave.Goals as goal

pub leave-requires : goal.leave-requires
leave-requires t c =
    let f = at_fork c.deref-fork.result.now c.tree.view_is c.in-Some.is c.deref-fork.ensures c.requires in
    (omega (arith, f.left_shorter, c.decreases), f.parted.left)

pub leave-requires-in-Greater : goal.leave-requires-in-Greater
leave-requires-in-Greater t c =
    let f = at_fork c.deref-fork.result.now c.tree.view_is c.in-Some.is c.deref-fork.ensures c.requires in
    (omega (arith, f.right_shorter, c.decreases), f.parted.right)

pub returns-in_ok-before-in-Less : goal.returns-in_ok-before-in-Less
returns-in_ok-before-in-Less t c =
    let g = c.deref-fork.result.now in
    let f = at_fork g c.tree.view_is c.in-Some.is c.deref-fork.ensures c.requires in
    let less = compared c.args.place.now g.entry.0 c.cmp.ensures c.in-Less.is refl c.place.ensures in
    becomes _ c.with_left_side.ensures
    (ap (λ (l : Entries). l ++ g.entry ∷ g.right) (c.in_ok-before-in-Less.ensures ∙ ap (λ z. left_in c.args.place.now z g.left) (to_z-of_z w64 c.args.left c.ranges.left))
    ∙ sym (left_left c.args.place.now c.args.left g.left g.entry g.right less (above_earlier c.args.place.now g.entry.0 g.right f.parted.above less))
    ∙ sym (ap (left_in c.args.place.now c.args.left) f.is))

pub returns-in-Equal : goal.returns-in-Equal
returns-in-Equal t c =
    let g = c.deref-fork.result.now in
    let f = at_fork g c.tree.view_is c.in-Some.is c.deref-fork.ensures c.requires in
    let same = compared c.args.place.now g.entry.0 c.cmp.ensures c.in-Equal.is refl c.place.ensures in
    becomes _ c.leave_here.ensures
    (ap (λ z. g.left ++ left_here z g.entry g.right) (to_z-of_z w64 c.args.left c.ranges.left)
    ∙ sym (left_middle c.args.place.now c.args.left g.left g.entry g.right same f.by_place)
    ∙ sym (ap (left_in c.args.place.now c.args.left) f.is))

pub returns-in_ok-after-in-Greater : goal.returns-in_ok-after-in-Greater
returns-in_ok-after-in-Greater t c =
    let g = c.deref-fork.result.now in
    let f = at_fork g c.tree.view_is c.in-Some.is c.deref-fork.ensures c.requires in
    let more = compared c.args.place.now g.entry.0 c.cmp.ensures c.in-Greater.is refl c.place.ensures in
    becomes _ c.with_right_side.ensures
    (ap (λ (r : Entries). g.left ++ g.entry ∷ r) (c.in_ok-after-in-Greater.ensures ∙ ap (λ z. left_in c.args.place.now z g.right) (to_z-of_z w64 c.args.left c.ranges.left))
    ∙ sym (left_right c.args.place.now c.args.left g.left g.entry g.right more f.by_place)
    ∙ sym (ap (left_in c.args.place.now c.args.left) f.is))
