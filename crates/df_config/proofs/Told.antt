-- What the items of a table tell, one after another.
use Rattle.std.proofs.Common.{◌≡◌, refl, ap, suc, List, [], ◌∷◌, ◌++◌, length, Option, Some, None}
use Rattle.toml.specs.View.{members_view}
use Rattle.toml.proofs.Views.{Entry}
use Rattle.df_config.specs.ConfigTable.{size}

-- a table has as many keys as its map
pub size_is : (es : List Entry) → size (members_view es) ≡ length es
size_is [] = refl
size_is (e ∷ es) = ap suc (size_is es)

-- these in front of others, if those are there
abbrev pub behind : {X : Type 0} → List X → Option (List X) → Option (List X)
behind xs None = None
behind xs (Some ys) = Some (xs ++ ys)
