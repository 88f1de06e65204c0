use Rattle.df_keep.specs.Kept.{followed}
use Rattle.df_keep.proofs.Stored.{counted, holds_last}
use Rattle.df_keep.proofs.store.step_lines.Goals as goal

pub returns-clause-count : goal.returns-clause-count
returns-clause-count g c = counted c.step_all-counted.result c.step_all-counted.new.kept.core (followed c.args.kept.core c.args.lines.now)
    c.step_all-counted.ensures.count c.step_all-counted.ensures.made

pub returns-clause-holds : goal.returns-clause-holds
returns-clause-holds g c = holds_last g.D.Disk.bytes g.D.Disk.may_leave c.args.disk.now c.step_all-counted.new.disk c.step_all-counted.result
    c.step_all-counted.new.kept (followed c.args.kept.core c.args.lines.now) c.step_all-counted.ensures.on_disk c.step_all-counted.ensures.tells
    c.step_all-counted.ensures.made
