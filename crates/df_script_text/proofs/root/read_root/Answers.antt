use Rattle.df_journal_text.proofs.Wholes.{told}
use Rattle.df_script_text.proofs.RootLines.{root_whole}
use Rattle.df_script_text.proofs.root.read_root.Goals as goal

pub returns : goal.returns
returns c = told (root_whole c.args.number) c.args.line.now c.root_line_at.result c.root_line_at.ensures c.whole.result c.whole.ensures
