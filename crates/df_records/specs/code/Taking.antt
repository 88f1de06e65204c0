-- What one record does.
use Rattle.std.specs.Prelude.{◌≡◌, ◌≢◌, ◌++◌, Bool, true, false, List, [], ◌∷◌, Option, Some, None}
use Rattle.df_records.specs.RecordFile.{Fields}

-- what the answer whether a record is good says of a further record
abbrev pub TakesFurther : {T : Type 0} → (Fields → Option T) → Fields → List T → List T → Bool
    → Type 0
TakesFurther {T} told_of fields old new true =
    (one : T) × (told_of fields ≡ Some one) × (new ≡ old ++ one ∷ [])
TakesFurther told_of fields old new false = told_of fields ≡ None

-- and of the first
abbrev pub TakesHeader : {T : Type 0} → Fields → Fields → List T → List T → Bool → Type 0
TakesHeader header fields old new true = (fields ≡ header) × (new ≡ old)
TakesHeader header fields old new false = fields ≢ header

-- the first record is the header, each further one tells one thing
abbrev pub TakesRecord : {T : Type 0} → Fields → (Fields → Option T) → Bool → Fields → List T
    → List T → Bool → Type 0
TakesRecord header told_of true fields old new good = TakesHeader header fields old new good
TakesRecord header told_of false fields old new good = TakesFurther told_of fields old new good
