use Rattle.df_lint.proofs.Names.{sym, ◌∙◌}
use Rattle.df_lint.proofs.CellRows.{all_given, as_many, is_gained, none_given, row_put, table_put}
use Rattle.df_lint.proofs.spread.settle_row.Goals as goal

pub reaches_between-requires-clause-many : goal.reaches_between-requires-clause-many
reaches_between-requires-clause-many c = as_many c.args.roots.now c.args.tags.now c.args.rows.now.items c.args.from c.args.to c.requires.table c.requires.from c.requires.to

pub pass_between-requires-clause-many : goal.pass_between-requires-clause-many
pass_between-requires-clause-many c = as_many c.args.roots.now c.args.tags.now c.args.rows.now.items c.args.from c.args.to c.requires.table c.requires.from c.requires.to

pub returns-then-not-reaches_between-clause-passed : goal.returns-then-not-reaches_between-clause-passed
returns-then-not-reaches_between-clause-passed c = none_given c.args.roots.now c.args.tags.now c.args.rows.now.items c.args.from c.args.to c.requires.table c.requires.from c.requires.to (sym c.reaches_between.ensures ∙ c.if-not-reaches_between.true)

pub returns-clause-rows : goal.returns-clause-rows
returns-clause-rows c = row_put c.args.roots.now c.args.tags.now c.args.rows.now.items c.args.from c.args.to c.requires.table c.requires.from c.requires.to c.pass_between.new.rows.items c.in_ok-pass_between.ensures.passed

pub returns-clause-passed : goal.returns-clause-passed
returns-clause-passed c = all_given c.args.roots.now c.args.tags.now c.args.rows.now.items c.args.from c.args.to c.requires.table c.requires.from c.requires.to c.pass_between.new.rows.items c.in_ok-pass_between.ensures.passed (sym c.reaches_between.ensures ∙ c.if-not-reaches_between.false)

pub returns-clause-gains : goal.returns-clause-gains
returns-clause-gains c = λ e. is_gained c.args.roots.now c.args.tags.now c.args.rows.now.items c.args.from c.args.to c.requires.table c.requires.from c.requires.to c.pass_between.new.rows.items c.in_ok-pass_between.ensures.passed (c.in_ok-pass_between.ensures.gains e)

pub returns-clause-table : goal.returns-clause-table
returns-clause-table c = table_put c.args.roots.now c.args.tags.now c.args.rows.now.items c.args.from c.args.to c.requires.table c.requires.from c.requires.to c.pass_between.new.rows.items c.in_ok-pass_between.ensures.passed
