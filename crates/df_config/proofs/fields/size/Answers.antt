use Rattle.std.proofs.Common.{◌∙◌, sym}
use Rattle.df_config.proofs.Told.{size_is}
use Rattle.df_config.proofs.fields.size.Goals as goal

pub returns : goal.returns
returns c = c.len.ensures.len ∙ sym (size_is c.args.table.now.entries)
