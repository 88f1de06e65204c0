use Rattle.std.proofs.Common.{◌≡◌, take}
use Rattle.df_index.specs.Listing.{names_of}
use Rattle.df_instances.proofs.names.all_names.Given as goal

abbrev pub invariant-loop-part : goal.invariant-loop-part
invariant-loop-part l = l.names.items ≡ names_of (take l.part-index l.parts)
