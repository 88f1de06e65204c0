use Rattle.df_journal_file.proofs.Names.{refl, IsEitherFirst}
use Rattle.df_script_text.proofs.Stops.{open_stop}
use Rattle.df_journal_file.proofs.file.version_at.Goals as goal

pub returns-in_default-clause-stops : goal.returns-in_default-clause-stops
returns-in_default-clause-stops c = (refl, (c.args.bytes.now, open_stop IsEitherFirst c.args.bytes.now c.in_default.ensures))
