use Rattle.df_journal_file.proofs.Names.{told}
use Rattle.df_journal_file.proofs.WordLines.{note_whole}
use Rattle.df_journal_file.proofs.told.LabelTold.read.Goals as goal

pub returns : goal.returns
returns c = told note_whole c.args.line.now c.marked_label_at.result c.marked_label_at.ensures c.whole.result c.whole.ensures
