-- The numbers of a path, wherever they are kept.
use Rattle.std.specs.Prelude.{ℕ, ◌<◌, ◌≤◌, List, length, take}
use Rattle.df_unit.specs.declared.path.TheConstants.{INLINE}
use Rattle.df_unit.specs.declared.path.Kept.{Kept}
use Rattle.df_unit.specs.declared.path.Kept.TheVariants.{Short, Long}

-- the numbers of a path
abbrev pub numbers_of : Kept → List ℕ
numbers_of (Short numbers len) = take len numbers
numbers_of (Long numbers) = numbers.items

-- there is at least one number, and a short path has room for those that it has
abbrev pub HasRoom : Kept → Type 0
HasRoom (Short numbers len) = (0 < len) × (len ≤ INLINE)
HasRoom (Long numbers) = 0 < length numbers.items
