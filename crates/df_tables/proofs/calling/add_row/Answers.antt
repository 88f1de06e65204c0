use Rattle.df_tables.proofs.Names.{All, sym, subst, All-push, IsNewborn}
use Rattle.df_tables.proofs.calling.add_row.Goals as goal

pub returns-clause-newborn : goal.returns-clause-newborn
returns-clause-newborn c =
    subst (All IsNewborn) (sym c.in_ok-push.ensures.items)
    (All-push IsNewborn c.args.to.now.items (record { row = c.args.row; beside = c.in_ok-beside.beside }) c.requires.newborn (record { beside = c.in_ok-beside.ensures; calm = c.requires.calm }))
