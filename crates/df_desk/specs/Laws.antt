-- The laws of the desk, each a sentence about one moment of its table: its two words, its slot, and
-- the views of all seats.
use Rattle.std.specs.Prelude.{◌≡◌, ℕ, ◌⊎◌, List, length, slice_index, Some}
use mathlib.Core.Option.{some, none}
use mathlib.Core.List.{IsPrefix}
use lib.ListN.{get_elem?}
use Rattle.df_desk.specs.declared.view.View.{View}
use Rattle.df_desk.specs.View.{IsOut, seen_list, view_origin}
use Rattle.df_desk.specs.Rule.{Moment, DeskInvariant}

-- the law holds in each moment of each desk
abbrev pub Always : {V O E : Type 0} → (V → O) → (V → List E) → (V → Moment V → Type 0) → Type 0
Always {V} origin list law = (first : V) (s : Moment V) → DeskInvariant origin list first s →
    law first s

module _ {V : Type 0} where
  -- the seat has this view
  abbrev pub HasView : Moment V → ℕ → View V → Type 0
  HasView s seat view = get_elem? s.views seat ≡ some view

  -- the seat has the value
  abbrev pub IsHolder : Moment V → ℕ → Type 0
  IsHolder s seat = (view : View V) × HasView s seat view × IsOut view

  -- this value is in the slot
  abbrev pub IsInSlot : Moment V → V → Type 0
  IsInSlot s v = get_elem? s.homes 0 ≡ some (some (Some v))

  -- at most one seat has the value
  abbrev pub HasOneHolder : Moment V → Type 0
  HasOneHolder s = (i j : ℕ) → IsHolder s i → IsHolder s j → i ≡ j

  -- the first word is 1 and a seat has the value, or it is 0 and none has
  abbrev pub TellsHolder : Moment V → Type 0
  TellsHolder s = ((slice_index s.words 0 ≡ 1) × ((seat : ℕ) × IsHolder s seat))
      ⊎ ((slice_index s.words 0 ≡ 0) × ((seat : ℕ) → ¬ IsHolder s seat))

  -- a value is in the slot, or the slot is out with a seat that has the value
  abbrev pub IsEmptyOnlyWhileHeld : Moment V → Type 0
  IsEmptyOnlyWhileHeld s = ((v : V) × IsInSlot s v)
      ⊎ ((get_elem? s.homes 0 ≡ some none) × ((seat : ℕ) × IsHolder s seat))

module _ {V E : Type 0} (list : V → List E) where
  -- the desk's list: that of the value in the slot or, while a seat has the value, what this seat
  -- has seen
  abbrev pub IsDeskList : Moment V → List E → Type 0
  IsDeskList s xs = ((v : V) × IsInSlot s v × (list v ≡ xs))
      ⊎ ((seat : ℕ) × (view : View V) × HasView s seat view × IsOut view
      × (seen_list list view ≡ xs))

  -- the desk has one list
  abbrev pub HasOneList : Moment V → Type 0
  HasOneList s = (xs : List E) × IsDeskList s xs × ((ys : List E) → IsDeskList s ys → ys ≡ xs)

  -- the second word is the length of the desk's list
  abbrev pub CountsItsList : Moment V → Type 0
  CountsItsList s = (xs : List E) → IsDeskList s xs → slice_index s.words 1 ≡ length xs

  -- what each seat has seen is a beginning of the desk's list
  abbrev pub HasSeenBeginnings : Moment V → Type 0
  HasSeenBeginnings s = (xs : List E) → IsDeskList s xs
      → (seat : ℕ) (view : View V) → HasView s seat view → IsPrefix (seen_list list view) xs

module _ {V O : Type 0} (origin : V → O) where
  -- what each seat has seen has this origin, and so has the value in the slot
  abbrev pub HasOrigin : O → Moment V → Type 0
  HasOrigin o s = ((seat : ℕ) (view : View V) (p : O) → HasView s seat view →
      view_origin origin view ≡ Some p → p ≡ o)
      × ((v : V) → IsInSlot s v → origin v ≡ o)
