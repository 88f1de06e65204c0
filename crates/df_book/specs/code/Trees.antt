-- The entries of a tree, as one of them changes.
use Rattle.std.specs.Prelude.{ℤ, pos, int_lt, if◌then◌else◌, List, [], ◌∷◌, map, Option, Some, None, ⊤}
use Rattle.std.specs.BTreeMap.{is_at}
use Rattle.std.specs.BTreeMap.Range.{entries_between}
use Rattle.std.specs.Map.{keys_of}
use Rattle.std.specs.List.Sorted.{IsStrictlySortedBy}
use Rattle.df_book.specs.declared.place.Place.{Place}
use Rattle.df_book.specs.declared.place.Rest.{Rest}
use Rattle.df_book.specs.declared.plan.Plan.{Plan}
use Rattle.df_book.specs.declared.order.Order.{Order}
use Rattle.std.specs.declared.ops.Bound.TheVariants.{Included}
use Rattle.df_book.specs.code.Places.{IsPlan, MayRest, arrived, behind_all, order_at, place_cmp, plan_of}

-- the entries stand in order of their places
abbrev pub IsByPlace : List (Place × Rest) → Type 0
IsByPlace es = IsStrictlySortedBy place_cmp (keys_of es)

-- so much of what rests at a place
abbrev pub with_left : ℤ → Place × Rest → Place × Rest
with_left left e = (e.0, record e.1 { qty = left })

-- the entries behind one of which so much is left, with it, if anything is
abbrev pub left_here : ℤ → Place × Rest → List (Place × Rest) → List (Place × Rest)
left_here left e es = if int_lt (pos 0) left then with_left left e ∷ es else es

-- the entries where that of a place has so much left
abbrev pub left_in : Place → ℤ → List (Place × Rest) → List (Place × Rest)
left_in p left [] = []
left_in p left (e ∷ es) =
    if is_at (place_cmp p) e.0 then left_here left e es else e ∷ left_in p left es

-- the entries that were parted into the first and the others
abbrev pub with_first : Option ((Place × Rest) × List (Place × Rest)) → List (Place × Rest)
with_first None = []
with_first (Some s) = s.0 ∷ s.1

-- the entries from the first place to the last
abbrev pub spanned : Place → Place → List (Place × Rest) → List (Place × Rest)
spanned first last es = entries_between place_cmp (Included first) (Included last) es

-- each entry is an order that may rest
abbrev pub EachMayRest : List (Place × Rest) → Type 0
EachMayRest [] = ⊤
EachMayRest (e ∷ es) = MayRest (order_at e.0 e.1) × EachMayRest es

-- a plan went on with these entries
abbrev pub GoesOn : Order → List (Place × Rest) → Plan → Plan → Type 0
GoesOn o es p q =
    IsPlan (behind_all p.trades.items p.fills.items (plan_of o p.left (map arrived es))) q
