use Rattle.df_script_text.proofs.Commons.{line_found}
use Rattle.df_script_text.proofs.common.call_line_at.Goals as goal

pub byte_at-requires : goal.byte_at-requires
byte_at-requires c = c.in_ok-line.ensures.inside

pub returns : goal.returns
returns c = line_found _ _ _ _ _ _ _ _ c.requires c.in-Ok.ensures.exact.0 c.in_ok-line.ensures c.in-Ok.ensures.exact.1
