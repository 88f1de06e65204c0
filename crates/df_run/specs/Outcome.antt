-- When each status comes, and what is written then. `files` says of each of the command's files, in
-- order, what the shelf tells to be in it. They are numbered from 1.
use Rattle.std.specs.Prelude.{◌≡◌, ◌⊎◌, ⊤, true, ℕ, suc, ◌<◌, ◌≤◌, List, [], ◌∷◌, length, Option, Some, None, slice_get}
use Rattle.std.specs.Option.{option_and_then}
use Rattle.df_io.specs.Faults.{Rose}
use Rattle.df_io.specs.Limits.{longest_file}
use Rattle.df_io.specs.Pieces.{HasAll, HasFront}
use Rattle.df_run.specs.declared.status.Status.{Status}
use Rattle.df_run.specs.declared.status.Status.TheVariants as status
use Rattle.df_run.specs.Tasks.{BlamesBytes, IsCutInput, IsInput, IsNoPlaceInput, IsRightInput, IsText, IsUnsettledInput, IsWrongInput}
use Rattle.df_run.specs.declared.tasks.End.{End}
use Rattle.df_run.specs.declared.tasks.End.TheVariants as end
use Rattle.df_words.specs.Words.{Ask, files_of, is_plain}
use Rattle.df_words.specs.declared.command.Command.{Command}
use Rattle.df_words.specs.declared.command.Files.{Files}
use Rattle.df_words.specs.declared.command.Files.TheVariants as count

-- the words ask for the command, and it asks for no workers
abbrev pub AskPlainly : List (List ℕ) → Command → Type 0
AskPlainly words c = Ask words c × (is_plain c ≡ true)

-- the words ask for none of these commands
abbrev pub AsksNothing : (List (List ℕ) → Command → Type 0) → List (List ℕ) → Type 0
AsksNothing asks words = (c : Command) → ¬ asks words c

-- what holds of the command for which the words ask, where they ask for one of these
abbrev pub IfAsked : (List (List ℕ) → Command → Type 0) → List (List ℕ) → (Command → Type 0)
    → Type 0
IfAsked asks words P = (c : Command) → asks words c → P c

-- ---- what is told of files, and what was read of them

-- what is told to be in the file that has a place among the words
abbrev pub told_at : (List ℕ → Option (List ℕ)) → List (List ℕ) → ℕ → Option (List ℕ)
told_at shelf words place = option_and_then shelf (slice_get words place)

-- what is told to be in each of these files
abbrev pub told_in
    : (List ℕ → Option (List ℕ)) → List (List ℕ) → Files → List (Option (List ℕ))
told_in shelf words count.None = []
told_in shelf words (count.One file) = told_at shelf words file ∷ []
told_in shelf words (count.Two first second) =
    told_at shelf words first ∷ told_at shelf words second ∷ []

-- what the shelf tells to be in each of the command's files
abbrev pub files_told
    : (List ℕ → Option (List ℕ)) → List (List ℕ) → Command → List (Option (List ℕ))
files_told shelf words c = told_in shelf words (files_of c)

-- what is told to be in the file is so
abbrev pub IfTold : Option (List ℕ) → (List ℕ → Type 0) → Type 0
IfTold None P = ⊤
IfTold (Some bytes) P = P bytes

-- these bytes were read, which are the file's where it is told
abbrev pub WasRead : Option (List ℕ) → List ℕ → Type 0
WasRead told bytes = (length bytes ≤ longest_file) × IfTold told (λ file. bytes ≡ file)

-- these bytes were read of these files, one after the other
abbrev pub WereRead : List (Option (List ℕ)) → List (List ℕ) → Type 0
WereRead [] [] = ⊤
WereRead (told ∷ files) (bytes ∷ read) = WasRead told bytes × WereRead files read
WereRead _ _ = ⊥

-- this holds of bytes that were read of the file
abbrev pub OfRead : Option (List ℕ) → (List ℕ → Type 0) → Type 0
OfRead told P = (bytes : List ℕ) × WasRead told bytes × P bytes

-- the file is told and isn't too long, and this holds of its bytes
abbrev pub OfTold : Option (List ℕ) → (List ℕ → Type 0) → Type 0
OfTold None P = ⊥
OfTold (Some bytes) P = (length bytes ≤ longest_file) × P bytes

-- the file is told, and is too long
abbrev pub IsToldLong : Option (List ℕ) → Type 0
IsToldLong None = ⊥
IsToldLong (Some bytes) = longest_file < length bytes

-- where all files are told and none is too long, this holds of their bytes
abbrev pub IfAllTold : List (Option (List ℕ)) → (List (List ℕ) → Type 0) → Type 0
IfAllTold [] P = P []
IfAllTold (None ∷ files) P = ⊤
IfAllTold (Some bytes ∷ files) P =
    length bytes ≤ longest_file → IfAllTold files (λ read. P (bytes ∷ read))

-- the file of this number is reached, and this holds of it: those before it are what the command
-- reads, by what was read of them or by what is told of them. The first of these files has number n.
abbrev pub Reaches
    : (Option (List ℕ) → (List ℕ → Type 0) → Type 0) → Command → ℕ → List (Option (List ℕ)) → ℕ
    → (Option (List ℕ) → Type 0) → Type 0
Reaches Of command n [] input P = ⊥
Reaches Of command n (told ∷ files) input P =
    ((input ≡ n) × P told)
    ⊎ (Of told (IsInput command n) × Reaches Of command (suc n) files input P)

-- ---- statuses

-- Usage comes exactly where the words ask for none of these commands, unless there was no memory
abbrev pub UsageIsExact : (List (List ℕ) → Command → Type 0) → List (List ℕ) → Status → Type 0
UsageIsExact asks words result = (result ≡ status.Usage → AsksNothing asks words)
    × (AsksNothing asks words → (result ≡ status.Usage) ⊎ (result ≡ status.NoMemory))

-- the status is one of a command's run
abbrev pub IsOfACommand : Status → Type 0
IsOfACommand result = ¬ (result ≡ status.Usage)

-- the run was cut off while a file was read or for want of memory
abbrev pub IsCutOff : Status → Type 0
IsCutOff result = (result ≡ status.ReadFault) ⊎ (result ≡ status.NoMemory)

-- the run was cut off, or failed to write
abbrev pub IsHindered : Status → Type 0
IsHindered result = (result ≡ status.WriteFault) ⊎ IsCutOff result

-- the files before the file of this number are told to be what the command reads, and it isn't
abbrev pub IsToldBad : Command → List (Option (List ℕ)) → ℕ → Type 0
IsToldBad command files input =
    Reaches OfTold command 1 files input
    (λ told. OfTold told (λ bytes. ¬ IsInput command input bytes))

-- a status that blames an input blames the file of that number, which was read whole and isn't what
-- the command reads
abbrev pub BadInputIsDue : Command → List (Option (List ℕ)) → Status → Type 0
BadInputIsDue command files (status.BadInput input line kind) =
    Reaches OfRead command 1 files input
    (λ told. OfRead told (λ bytes. BlamesBytes command input bytes line kind))
BadInputIsDue command files _ = ⊤

-- the status blames the file of this number
abbrev pub BlamesFile : Status → ℕ → Type 0
BlamesFile (status.BadInput input line kind) number = input ≡ number
BlamesFile _ number = ⊥

-- BadInput comes exactly where a file, read whole, isn't what the command reads, and names the first
-- such
abbrev pub BadInputIsExact : Command → List (Option (List ℕ)) → Status → Type 0
BadInputIsExact command files result =
    BadInputIsDue command files result
    × ((input : ℕ) → IsToldBad command files input → BlamesFile result input ⊎ IsCutOff result)

-- a status that calls an input too long says so of the file of that number
abbrev pub TooLongIsDue : Command → List (Option (List ℕ)) → Status → Type 0
TooLongIsDue command files (status.TooLong input) =
    Reaches OfRead command 1 files input
    (λ told. IfTold told (λ bytes. longest_file < length bytes))
TooLongIsDue command files _ = ⊤

-- TooLong comes exactly where a file has a byte past the most, and those before it are what the
-- command reads
abbrev pub TooLongIsExact : Command → List (Option (List ℕ)) → Status → Type 0
TooLongIsExact command files result =
    TooLongIsDue command files result
    × ((input : ℕ) → Reaches OfTold command 1 files input IsToldLong →
    (result ≡ status.TooLong input) ⊎ IsCutOff result)

-- ReadFault comes only where the shelf's count of faults rose
abbrev pub ReadFaultIsDue : ℕ → ℕ → Status → Type 0
ReadFaultIsDue before now result = result ≡ status.ReadFault → Rose before now

-- WriteFault comes only where the sink's count of faults rose
abbrev pub WriteFaultIsDue : ℕ → ℕ → Status → Type 0
WriteFaultIsDue before now result = result ≡ status.WriteFault → Rose before now

-- this holds of what was read of the files
abbrev pub OfAllRead : List (Option (List ℕ)) → (List (List ℕ) → Type 0) → Type 0
OfAllRead files P = (read : List (List ℕ)) × WereRead files read × P read

-- a status that calls a journal wrong tells the first wrong place of what was read
abbrev pub WrongIsDue : Command → List (Option (List ℕ)) → Status → Type 0
WrongIsDue command files (status.Wrong place) =
    OfAllRead files (λ read. IsWrongInput command read place)
WrongIsDue command files _ = ⊤

-- Wrong comes exactly where the file, read whole, is a journal that isn't right, with its first
-- wrong place; a fault may come in its place
abbrev pub WrongIsExact : Command → List (Option (List ℕ)) → Status → Type 0
WrongIsExact command files result =
    WrongIsDue command files result
    × IfAllTold files (λ read. (place : ℕ) → IsWrongInput command read place →
    (result ≡ status.Wrong place) ⊎ IsHindered result)

-- a status that calls a run unsettled tells how many entries the run of what was read has
abbrev pub UnsettledIsDue : Command → List (Option (List ℕ)) → Status → Type 0
UnsettledIsDue command files (status.Unsettled steps) =
    OfAllRead files (λ read. IsUnsettledInput command read steps)
UnsettledIsDue command files _ = ⊤

-- Unsettled comes exactly where the files, read whole, are a floor whose run is cut off, with the
-- number of its entries; a fault may come in its place. With workers it comes only where a run may be
-- cut off so.
abbrev pub UnsettledIsExact : Command → List (Option (List ℕ)) → Status → Type 0
UnsettledIsExact command files result =
    UnsettledIsDue command files result
    × IfAllTold files (λ read. (steps : ℕ) → IsCutInput command read steps →
    (result ≡ status.Unsettled steps) ⊎ IsHindered result)

-- a status that says that a journal hasn't a place tells how many entries what was read has
abbrev pub NoPlaceIsDue : Command → List (Option (List ℕ)) → Status → Type 0
NoPlaceIsDue command files (status.NoPlace count) =
    OfAllRead files (λ read. IsNoPlaceInput command read count)
NoPlaceIsDue command files _ = ⊤

-- NoPlace comes exactly where the file, read whole, is a right journal that hasn't the place that
-- the command names, with the number of its entries; a fault may come in its place
abbrev pub NoPlaceIsExact : Command → List (Option (List ℕ)) → Status → Type 0
NoPlaceIsExact command files result =
    NoPlaceIsDue command files result
    × IfAllTold files (λ read. (count : ℕ) → IsNoPlaceInput command read count →
    (result ≡ status.NoPlace count) ⊎ IsHindered result)

-- what the command reads that is right, a journal or a floor too, is done: what is left is Done, a
-- fault or want of memory
abbrev pub DoesInput : Command → List (Option (List ℕ)) → Status → Type 0
DoesInput command files result =
    IfAllTold files (λ read. IsRightInput command read →
    (result ≡ status.Done) ⊎ IsHindered result)

-- ---- what is written

-- the text is what the command writes of what was read, where it ends so
abbrev pub IsTextOfSome : Command → List (Option (List ℕ)) → End → List ℕ → Type 0
IsTextOfSome command files e text = OfAllRead files (λ read. IsText command read e text)

-- the whole text of a run that ended so was written
abbrev pub WritesAll
    : Command → List (Option (List ℕ)) → Option (List ℕ) → Option (List ℕ) → End → Type 0
WritesAll command files old new e =
    (text : List ℕ) × IsTextOfSome command files e text × HasAll old text new

-- after Done, Wrong, Unsettled and NoPlace the whole text was written, after WriteFault a front of
-- it, and after any other status nothing; whatever the shelf tells, it is the text of what the
-- command reads
abbrev pub Writes
    : Command → List (Option (List ℕ)) → Option (List ℕ) → Option (List ℕ) → Status → Type 0
Writes command files old new status.Done = WritesAll command files old new end.Done
Writes command files old new (status.Wrong place) =
    WritesAll command files old new (end.Wrong place)
Writes command files old new (status.Unsettled steps) =
    WritesAll command files old new (end.Unsettled steps)
Writes command files old new (status.NoPlace count) =
    WritesAll command files old new (end.NoPlace count)
Writes command files old new status.WriteFault =
    (text : List ℕ) × (e : End) × IsTextOfSome command files e text × HasFront old text new
Writes command files old new _ = new ≡ old

-- ---- all of it

-- what is promised of a run of the command on these files: each status comes when it is due, and what
-- is written then. The shelf's and the sink's counts of faults, and what is written, are those before
-- and after the run.
pub record IsOutcome (command : Command) (files : List (Option (List ℕ)))
    (shelf_before shelf_after sink_before sink_after : ℕ) (old new : Option (List ℕ))
    (result : Status) : Type 0 where
  pub asked : IsOfACommand result
  pub bad_input : BadInputIsExact command files result
  pub too_long : TooLongIsExact command files result
  pub wrong : WrongIsExact command files result
  pub unsettled : UnsettledIsExact command files result
  pub no_place : NoPlaceIsExact command files result
  pub read_fault : ReadFaultIsDue shelf_before shelf_after result
  pub write_fault : WriteFaultIsDue sink_before sink_after result
  pub writes : Writes command files old new result
  pub does : DoesInput command files result
