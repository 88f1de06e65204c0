-- What a change at a place does to a value.
use Rattle.std.specs.Prelude.{◌≡◌, Option, Some, None, IsSome, Result, Ok, Err, ⊤}
use Rattle.df_frozen.specs.Plain.{Plain}
use Rattle.df_frozen.specs.Place.{push_to, put_into}
use Rattle.df_frozen.specs.Value.{plain}
use Rattle.df_frozen.specs.declared.value.Value.{Value}
use Rattle.df_frozen.specs.declared.change.Change.{Change}
use Rattle.df_frozen.specs.declared.change.Change.TheVariants.{Set, Push, Put}
use Rattle.df_frozen.specs.declared.put.NotPut.{NotPut}
use Rattle.df_frozen.specs.declared.put.PutCause.{PutCause}
use Rattle.df_frozen.specs.declared.put.PutCause.TheVariants.{NoSuchPlace, NoMemory}

-- what the change makes of a node, where it can
abbrev pub changed : Change → Plain → Option Plain
changed (Set v) = λ _. Some (plain v)
changed (Push v) = push_to (plain v)
changed (Put name v) = put_into name (plain v)

-- the value that the change brings
abbrev pub value_of : Change → Value
value_of (Set v) = v
value_of (Push v) = v
value_of (Put name v) = v

-- a change that lets something grow
abbrev pub Grows : Change → Type 0
Grows (Set v) = ⊥
Grows (Push v) = ⊤
Grows (Put name v) = ⊤

-- no such place exactly where nothing would come of the change
abbrev pub IsCause : Change → Option Plain → PutCause → Type 0
IsCause change wanted NoSuchPlace = wanted ≡ None
IsCause change wanted NoMemory = IsSome wanted × Grows change

-- `wanted` is what should come of it, `before` and `after` are what was there and what is
abbrev pub Changes : Change → Option Plain → Plain → Plain → Result (Unit {0}) NotPut → Type 0
Changes change wanted before after (Ok _) = wanted ≡ Some after
Changes change wanted before after (Err e) =
    (e.value ≡ value_of change) × (after ≡ before) × IsCause change wanted e.cause
