use Rattle.df_tables.proofs.Names.{◌∙◌, ap, each, settled_row}
use Rattle.df_tables.proofs.Handed.{calm_stays, handed_out}
use Rattle.df_tables.proofs.handing.hand_out.Goals as goal

pub returns-clause-ok : goal.returns-clause-ok
returns-clause-ok c given is =
    let n = c.args.news.now in
    c.settle.ensures
    ∙ ap (each settled_row n.receivers.now) c.in-Ok.ensures.ok
    ∙ handed_out n.event.now n.after.now n.receivers.now c.args.units.now given c.requires.calm is

pub returns-in_default-clause-unchanged : goal.returns-in_default-clause-unchanged
returns-in_default-clause-unchanged c = c.quiet.ensures ∙ c.in_default.ensures.quiet ∙ calm_stays c.args.news.now.receivers.now c.args.units.now c.requires.calm
