use Rattle.std.proofs.Common.{◌≡◌, take}
use Rattle.std.specs.List.{flat_map}
use Rattle.df_index.specs.Listing.{places_of}
use Rattle.df_index.proofs.listing.Listing.look_up.Given as goal

abbrev pub invariant-loop-name : goal.invariant-loop-name
invariant-loop-name g l = l.places.items ≡ flat_map (λ name. places_of g.F.Listed.first_of name l.self) (take l.name-index l.names)
