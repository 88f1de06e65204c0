use Rattle.std.proofs.Common.{◌≡◌, List, map, sym, subst, ap, ◌∙◌}
use Rattle.std.specs.List.{All}
use Rattle.df_start.specs.Begun.{begun}
use Rattle.df_start.specs.declared.start.RootStart.{RootStart}
use Rattle.df_tables.specs.Hand.{IsCalm}
use Rattle.df_tables.specs.Table.{IsInOrder, rows_from}
use Rattle.df_tables.proofs.Begin.{calm_first}
use Rattle.df_tables.proofs.Order.{order_first}
use Rattle.df_machine.proofs.tables.Tables.begin.Goals as goal

pub new-requires-clause-order : goal.new-requires-clause-order
new-requires-clause-order c =
    let begin = map begun c.args.start.now in
    let units : c.in_ok-units.units.items ≡ rows_from 0 begin = c.in_ok-units.ensures ∙ ap (λ (rs : List RootStart). rows_from 0 (map begun rs)) c.as_slice.ensures.roots in
    subst IsInOrder (sym units) (order_first 0 begin)

pub new-requires-clause-calm : goal.new-requires-clause-calm
new-requires-clause-calm c =
    let begin = map begun c.args.start.now in
    let units : c.in_ok-units.units.items ≡ rows_from 0 begin = c.in_ok-units.ensures ∙ ap (λ (rs : List RootStart). rows_from 0 (map begun rs)) c.as_slice.ensures.roots in
    subst (All IsCalm) (sym units) (calm_first 0 begin)

pub returns : goal.returns
returns c =
    let begin = map begun c.args.start.now in
    let units : c.in_ok-units.units.items ≡ rows_from 0 begin = c.in_ok-units.ensures ∙ ap (λ (rs : List RootStart). rows_from 0 (map begun rs)) c.as_slice.ensures.roots in
    record { board = c.in_ok-board.ensures.board; tells = c.in_ok-board.ensures.tells begin units }
