use Rattle.df_journal_file.proofs.Names.{told}
use Rattle.df_journal_file.proofs.WordLines.{event_whole}
use Rattle.df_journal_file.proofs.told.EventNameTold.read.Goals as goal

pub returns : goal.returns
returns c = told (event_whole c.args.mark.now) c.args.line.now c.marked_event_at.result c.marked_event_at.ensures c.whole.result c.whole.ensures
