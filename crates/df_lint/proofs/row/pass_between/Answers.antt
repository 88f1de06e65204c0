use Rattle.df_lint.proofs.Names.{◌∙◌, List, ap, pass_row, Cell}
use Rattle.df_lint.proofs.CellRows.{taken_out, nothing_out}
use Rattle.df_lint.proofs.row.pass_between.Goals as goal

pub returns-clause-passed : goal.returns-clause-passed
returns-clause-passed c =
    taken_out c.args.rows.now.items c.args.from c.args.to c.replace-taker.new.dest c.index_mut-2.result.now c.index-2.result.now c.replace-taker.result c.take-gained.new.self c.requires.from c.requires.to c.if-from-to.false c.index_mut-2.ensures.value c.replace-taker.ensures.value c.index-2.ensures (c.take-gained.ensures.passed ∙ ap (λ (g : List Cell). pass_row g c.replace-taker.result) c.cells-2.ensures)

pub returns-clause-same : goal.returns-clause-same
returns-clause-same c = λ e.
    nothing_out c.args.rows.now.items c.args.to c.replace-taker.new.dest c.index_mut-2.result.now c.replace-taker.result c.take-gained.new.self c.requires.to c.index_mut-2.ensures.value c.replace-taker.ensures.value (c.take-gained.ensures.same e)
