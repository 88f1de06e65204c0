use Rattle.df_lint.proofs.Names.{◌∙◌, ap, length, sym, row_of, rows_of}
use Rattle.df_lint.proofs.CellRows.{read_row, row_at_of}
use Rattle.df_lint.proofs.Lines.{rows_more}
use Rattle.df_lint.proofs.text.append_rows.Goals as goal

pub append_row-requires-clause-many : goal.append_row-requires-clause-many
append_row-requires-clause-many c =
    let at = c.cells.ensures ∙ read_row c.args.rows.now c.loop-root.root c.index-rows-root.result c.loop-root-test.true c.index-rows-root.is in
    ap length at ∙ c.requires.many c.loop-root.root c.loop-root-test.true

pub loop-root-preserved : goal.loop-root-preserved
loop-root-preserved c =
    let tags = c.args.tags.now in
    let at = c.cells.ensures ∙ read_row c.args.rows.now c.loop-root.root c.index-rows-root.result c.loop-root-test.true c.index-rows-root.is in
    rows_more (rows_of tags c.args.rows.now) tags c.loop-root.root (row_of tags c.cells.result.now) c.args.to.now.items c.loop-root.to.items c.append_row.new.to.items
    (ap (row_of tags) at ∙ sym (row_at_of tags c.args.rows.now c.loop-root.root)) c.loop-root.invariant c.in_ok-append_row.ensures
