-- The form of a file of records: a header, and then a record for each thing that it tells.
use Rattle.std.specs.Prelude.{◌≡◌, ◌≢◌, ◌+◌, ◌⊎◌, ℕ, List, [], ◌∷◌, ◌++◌, length, map, Option, Some, None}
use Rattle.csv.specs.Reading.{default_config, strip_bom, Reached, AreRecords}
use Rattle.csv.specs.declared.parser.State.{State}
use Rattle.csv.specs.declared.parser.State.TheVariants as st

-- a record: the bytes of each field
abbrev pub Fields : Type 0
Fields = List (List ℕ)

-- records that tell these: the header, and then one for each
abbrev pub Tells : {T : Type 0} → Fields → (Fields → Option T) → List Fields → List T → Type 0
Tells header told_of records told =
    (rows : List Fields) × (records ≡ header ∷ rows) × (map told_of rows ≡ map Some told)

-- this is what the file tells
abbrev pub IsFileOf : {T : Type 0} → Fields → (Fields → Option T) → List ℕ → List T → Type 0
IsFileOf header told_of bytes told = (records : List Fields)
    × AreRecords default_config st.StartRecord (strip_bom bytes) records
    × Tells header told_of records told

-- these are the file's first records
abbrev pub BeginsWith : List ℕ → List Fields → Type 0
BeginsWith bytes records = (s : State) × (rest : List ℕ)
    × Reached default_config st.StartRecord (strip_bom bytes) records s rest

-- a record behind good ones isn't in form: the first isn't the header, or a further one tells none
abbrev pub IsBadAfter : {T : Type 0} → Fields → (Fields → Option T) → List Fields → Fields → Type 0
IsBadAfter {T} header told_of good bad = ((good ≡ []) × (bad ≢ header))
    ⊎ ((told : List T) × Tells header told_of good told × (told_of bad ≡ None))

-- the first record that isn't in form has this number, from 1; a file without a record has 1
abbrev pub IsBadAt : {T : Type 0} → Fields → (Fields → Option T) → List ℕ → ℕ → Type 0
IsBadAt header told_of bytes line =
    (AreRecords default_config st.StartRecord (strip_bom bytes) [] × (line ≡ 1))
    ⊎ ((good : List Fields) × (bad : Fields) × BeginsWith bytes (good ++ bad ∷ [])
    × IsBadAfter header told_of good bad × (line ≡ length good + 1))
