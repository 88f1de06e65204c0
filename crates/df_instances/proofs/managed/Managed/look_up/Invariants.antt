use Rattle.std.proofs.Common.{◌≡◌, take}
use Rattle.std.specs.List.{flat_map}
use Rattle.df_instances.specs.code.Listing.{places_named}
use Rattle.df_instances.proofs.managed.Managed.look_up.Given as goal

abbrev pub invariant-loop-name : goal.invariant-loop-name
invariant-loop-name l = l.places.items ≡ flat_map (λ name. places_named name l.self) (take l.name-index l.names)
