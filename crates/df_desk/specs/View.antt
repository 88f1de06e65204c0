-- What a seat of the desk's table knows. A value of V in a view stands for its origin and its list.
use Rattle.std.specs.Prelude.{◌≡◌, Bool, true, false, List, [], ◌∷◌, Option, Some, None}
use Rattle.atomic_table.specs.Table.{Me}
use Rattle.df_desk.specs.declared.view.View.{View}
use Rattle.df_desk.specs.declared.view.View.TheVariants.{Spent, Idle, Joined, Called, Counted}

-- a seat of this view has the value
abbrev pub IsOut : {V : Type 0} → View V → Type 0
IsOut Spent = ⊥
IsOut (Idle v) = ⊥
IsOut (Joined v w) = ⊥
IsOut (Called v) = Unit {0}
IsOut (Counted v) = Unit {0}

-- the list that a seat of this view has seen; between a join and the comparison behind it, the
-- first of the two
abbrev pub seen_list : {V E : Type 0} → (V → List E) → View V → List E
seen_list list Spent = []
seen_list list (Idle v) = list v
seen_list list (Joined v w) = list v
seen_list list (Called v) = list v
seen_list list (Counted v) = list v

-- the origin of what a seat of this view has seen
abbrev pub view_origin : {V O : Type 0} → (V → O) → View V → Option O
view_origin origin Spent = None
view_origin origin (Idle v) = Some (origin v)
view_origin origin (Joined v w) = Some (origin v)
view_origin origin (Called v) = Some (origin v)
view_origin origin (Counted v) = Some (origin v)

-- what a seat knows, and the slots that are out with it
abbrev pub SeatState : Type 0 → Type 0
SeatState V = Me (Option V) (View V)

-- a seat between two calls of the desk: with the value, which was taken out of the slot, or with
-- nothing
abbrev pub settled_seat : {V : Type 0} → Bool → V → SeatState V
settled_seat true v = (Called v, (0, None) ∷ [])
settled_seat false v = (Idle v, [])

-- the seat is between two calls of the desk, with or without the value
abbrev pub IsSettled : {V : Type 0} → Bool → SeatState V → Type 0
IsSettled {V} holds seat = (v : V) × (seat ≡ settled_seat holds v)
