use Rattle.df_script_text.proofs.Names.{◌≡◌, codes, refl}
use Rattle.df_script_text.proofs.Stops.{open_stop}
use Rattle.df_script_text.proofs.reader.first_at.Goals as goal

pub returns-in_default-clause-stops : goal.returns-in_default-clause-stops
returns-in_default-clause-stops c = (refl, (c.args.bytes.now, open_stop (λ line. line ≡ codes "defcon-script 1") c.args.bytes.now c.in_default.ensures))
