use Rattle.std.proofs.Common.{◌∙◌}
use Rattle.df_part.specs.Part.{readable}
use Rattle.df_index.specs.Filter.{serves}
use Rattle.df_index.proofs.Served.{any_within}
use Rattle.df_index.proofs.matching.is_served.Goals as goal

pub returns : goal.returns
returns c = c.any_serves_at.ensures ∙ any_within (readable c.args.at.now) (serves c.args.clause.now) c.args.parts.now
