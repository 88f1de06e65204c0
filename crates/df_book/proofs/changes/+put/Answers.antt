use Rattle.std.proofs.Common.{◌++◌, ◌∷◌, sym, ◌∙◌, ap, arith}
use Rattle.std.specs.BTreeMap.{insert_entry}
use Rattle.df_book.specs.code.Places.{place_cmp}
use Rattle.df_book.proofs.AtFork.{at_fork, becomes, compared}
use Rattle.df_book.proofs.ByPlace.{Entries, put_left, put_here, put_right}
use Rattle.df_book.proofs.changes.+put.Goals as goal

pub put-requires : goal.put-requires
put-requires t c =
    let f = at_fork c.deref-fork.result.now c.tree.view_is c.in-Some.is c.deref-fork.ensures c.requires in
    (omega (arith, f.left_shorter, c.decreases), f.parted.left)

pub put-requires-in-Greater : goal.put-requires-in-Greater
put-requires-in-Greater t c =
    let f = at_fork c.deref-fork.result.now c.tree.view_is c.in-Some.is c.deref-fork.ensures c.requires in
    (omega (arith, f.right_shorter, c.decreases), f.parted.right)

pub returns-in_ok-left-in-Less : goal.returns-in_ok-left-in-Less
returns-in_ok-left-in-Less t c =
    let g = c.deref-fork.result.now in
    let f = at_fork g c.tree.view_is c.in-Some.is c.deref-fork.ensures c.requires in
    let less = compared c.args.entry.0 g.entry.0 c.cmp.ensures c.in-Less.is c.place.ensures c.place-2.ensures in
    becomes _ c.with_left_side.ensures
    (ap (λ (l : Entries). l ++ g.entry ∷ g.right) c.in_ok-left-in-Less.ensures ∙ sym (put_left c.args.entry.0 c.args.entry.1 g.left g.entry g.right less)
    ∙ sym (ap (λ es. insert_entry place_cmp es c.args.entry.0 c.args.entry.1) f.is))

pub returns-in_ok-entry-in-Equal : goal.returns-in_ok-entry-in-Equal
returns-in_ok-entry-in-Equal t c =
    let g = c.deref-fork.result.now in
    let f = at_fork g c.tree.view_is c.in-Some.is c.deref-fork.ensures c.requires in
    let same = compared c.args.entry.0 g.entry.0 c.cmp.ensures c.in-Equal.is c.place.ensures c.place-2.ensures in
    becomes _ c.with_entry.ensures
    (ap (λ e. g.left ++ e ∷ g.right) (c.in_ok-entry-in-Equal.ensures ∙ ap (λ r. (g.entry.0, r)) c.rest.ensures) ∙ sym (put_here c.args.entry.0 c.args.entry.1 g.left g.entry g.right same f.by_place)
    ∙ sym (ap (λ es. insert_entry place_cmp es c.args.entry.0 c.args.entry.1) f.is))

pub returns-in_ok-right-in-Greater : goal.returns-in_ok-right-in-Greater
returns-in_ok-right-in-Greater t c =
    let g = c.deref-fork.result.now in
    let f = at_fork g c.tree.view_is c.in-Some.is c.deref-fork.ensures c.requires in
    let more = compared c.args.entry.0 g.entry.0 c.cmp.ensures c.in-Greater.is c.place.ensures c.place-2.ensures in
    becomes _ c.with_right_side.ensures
    (ap (λ (r : Entries). g.left ++ g.entry ∷ r) c.in_ok-right-in-Greater.ensures ∙ sym (put_right c.args.entry.0 c.args.entry.1 g.left g.entry g.right more f.by_place)
    ∙ sym (ap (λ es. insert_entry place_cmp es c.args.entry.0 c.args.entry.1) f.is))
