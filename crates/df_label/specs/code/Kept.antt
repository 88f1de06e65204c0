use Rattle.std.specs.Prelude.{ℕ, ◌<◌, ◌≤◌, List, take, length}
use Rattle.std.specs.Arc.{arc_value}
use Rattle.df_label.specs.declared.tag.TheConstants.{INLINE}
use Rattle.df_label.specs.declared.tag.Kept.{Kept}
use Rattle.df_label.specs.declared.tag.Kept.TheVariants.{Short, Long}

-- the numbers of a tag, wherever they are kept
abbrev pub numbers_of : Kept → List ℕ
numbers_of (Short numbers len) = take len numbers
numbers_of (Long numbers) = (arc_value numbers).items

-- there is at least one number, and a short tag has room for those that it has
abbrev pub IsKept : Kept → Type 0
IsKept (Short numbers len) = (0 < len) × (len ≤ INLINE)
IsKept (Long numbers) = 0 < length (arc_value numbers).items
