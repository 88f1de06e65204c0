use Rattle.std.proofs.Common.{◌∙◌}
use Rattle.df_instances.proofs.Placed.{place_searched}
use Rattle.df_instances.proofs.marks.has_place.Goals as goal

pub returns : goal.returns
returns c = c.is_ok.ensures.value ∙ place_searched c.args.places.now c.args.place c.binary_search.result c.requires c.binary_search.ensures.position
