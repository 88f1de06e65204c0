-- A desk and its passes, as contracts see them.
use Rattle.std.specs.Prelude.{◌≡◌, ℕ, ◌+◌, ◌-◌, ◌^◌, ◌≤◌, Bool, false, true, List, length, min, nat_lt, if◌then◌else◌, Option, Some, None}
use Rattle.atomic_table.specs.Seated.{TableId}
use Rattle.df_desk.specs.declared.view.View.{View}
use Rattle.df_desk.specs.declared.view.View.TheVariants.{Spent, Idle, Joined, Called, Counted}
use Rattle.df_desk.specs.View.{SeatState, settled_seat}

-- A desk: what no other desk shares with it, and the origin of the value with which it was made.
pub record DeskId (O : Type 0) : Type 0 where
  pub table : TableId
  pub origin : O

-- A pass: the desk that it is of (there is always one), the list that it has seen, the list that
-- its last take found, its numbers of takes and of splits, and whether it has the value.
pub record PassState (O E : Type 0) : Type 0 where
  pub desk : Option (DeskId O)
  pub seen : List E
  pub found : List E
  pub takes : ℕ
  pub splits : ℕ
  pub holds : Bool

module _ {O E : Type 0} where
  -- the pass is of the desk and has nothing
  abbrev pub IsFree : DeskId O → PassState O E → Type 0
  IsFree desk pass = (pass.desk ≡ Some desk) × (pass.holds ≡ false)

  -- the pass is of the desk and has its value
  abbrev pub Holds : DeskId O → PassState O E → Type 0
  Holds desk pass = (pass.desk ≡ Some desk) × (pass.holds ≡ true)

  -- the pass has made no take and no split, and has seen the list
  abbrev pub IsNew : PassState O E → List E → Type 0
  IsNew pass list = (pass.seen ≡ list) × (pass.found ≡ list) × (pass.takes ≡ 0) × (pass.splits ≡ 0)

-- one more, and no more than the greatest `u64`
abbrev pub one_more : ℕ → ℕ
one_more n = min (n + 1) (2 ^ 64 - 1)

-- the longer of two lists
abbrev pub longer_list : {E : Type 0} → List E → List E → List E
longer_list xs ys = if nat_lt (length xs) (length ys) then ys else xs

-- the desk of a seat of this table, by the seat's view
abbrev pub desk_of : {V O : Type 0} → (V → O) → TableId → View V → Option (DeskId O)
desk_of origin table Spent = None
desk_of origin table (Idle v) = Some (record { table = table; origin = origin v })
desk_of origin table (Joined v w) = Some (record { table = table; origin = origin v })
desk_of origin table (Called v) = Some (record { table = table; origin = origin v })
desk_of origin table (Counted v) = Some (record { table = table; origin = origin v })

-- a pass between two calls: its seat, and the lengths that the pass keeps beside it
pub record IsSeated {V E : Type 0} (list : V → List E) (holds : Bool) (seen found : ℕ)
    (seat : SeatState V) : Type 0 where
  pub latest : V
  pub settled : seat ≡ settled_seat holds latest
  pub seen_is : seen ≡ length (list latest)
  pub found_is : found ≤ seen
