use Rattle.df_journal_file.proofs.Names.{told}
use Rattle.df_journal_file.proofs.WordLines.{spot_whole}
use Rattle.df_journal_file.proofs.told.SpotTold.read.Goals as goal

pub returns : goal.returns
returns c = told spot_whole c.args.line.now c.marked_spot_at.result c.marked_spot_at.ensures c.whole.result c.whole.ensures
