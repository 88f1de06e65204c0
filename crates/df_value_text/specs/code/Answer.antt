-- What a reader of bytes answers.
use Rattle.std.specs.Prelude.{◌≡◌, ℕ, ◌≤◌, List, length, drop, Result, Ok, Err, IfOk, IfErr, ⊤, ◌⊎◌}
use Rattle.df_format.specs.Reading.{Bad, Low, Read}
use Rattle.df_format.specs.Grammar.{Stands, FirstBad}
use Rattle.df_frozen.specs.Plain.{Plain}
use Rattle.df_value_text.specs.Fits.{IsValue}
use Rattle.df_value_text.specs.OrderNames.{LowInValue}
use Rattle.df_value_text.specs.ReadTag.{ended}
use Rattle.df_value_text.specs.Value.{value_text}
use Rattle.df_value_text.specs.ValueFault.{FirstLow, FirstTooLarge, IsTooLargeAt, IsWithinBefore, NamesTooLarge, NamesValueFault, NoLowBefore}
use Rattle.df_value_text.specs.declared.refused.Fault.{Fault}
use Rattle.df_value_text.specs.declared.refused.Fault.TheVariants as fault
use Rattle.df_value_text.specs.declared.refused.TextRefused.{TextRefused}
use Rattle.df_value_text.specs.declared.refused.TextRefused.TheVariants as refused

-- reading these bytes stops at the fault's place, unless there was no memory
abbrev pub Fails : {Y : Type 0} → List ℕ → Fault → Read ℕ Y → Type 0
Fails bytes fault.NoMemory read = ⊤
Fails bytes (fault.Bad place) read = (place ≤ length bytes) × (read ≡ Err (Bad (drop place bytes)))
Fails bytes (fault.Low place) read = (place ≤ length bytes) × (read ≡ Err (Low (drop place bytes)))

-- what is answered is what reading gives, with the place behind it, unless there was no memory
abbrev pub Gives : {X Y : Type 0} → (X → Y) → List ℕ → Result (X × ℕ) Fault → Read ℕ Y → Type 0
Gives view bytes (Ok x) read = (x.1 ≤ length bytes) × (read ≡ Ok (view x.0, drop x.1 bytes))
Gives view bytes (Err e) read = Fails bytes e read

-- a fault as it is told to callers
abbrev pub refusal : Fault → TextRefused
refusal fault.NoMemory = refused.NoMemory
refusal (fault.Bad place) = refused.Syntax place
refusal (fault.Low place) = refused.Syntax place

-- an answer as it is told to callers
abbrev pub told : {X : Type 0} → Result (X × ℕ) Fault → Result (X × ℕ) TextRefused
told (Ok x) = Ok x
told (Err e) = Err (refusal e)

-- what is answered stands at the place, and no text goes on with the byte behind it
abbrev pub IsFound : {X : Type 0} → (X → List ℕ) → (X → Type 0) → List ℕ → ℕ → X × ℕ → Type 0
IsFound spell Fits bytes at read = (read.1 ≤ length bytes)
    × Stands spell Fits (drop at bytes) read.0 (drop read.1 bytes)

-- the answer is this, and the place before these bytes, unless there was no memory
abbrev pub IsRead : {X : Type 0} → List ℕ → X → List ℕ → Result (X × ℕ) TextRefused → Type 0
IsRead bytes x rest (Ok read) = (read.0 ≡ x) × (drop read.1 bytes ≡ rest)
IsRead bytes x rest (Err e) = e ≡ refused.NoMemory

-- a refusal names the first bad byte
abbrev pub NamesBad : {X : Type 0} → (X → List ℕ) → (X → Type 0) → List ℕ → ℕ → TextRefused → Type 0
NamesBad spell Fits bytes at refused.NoMemory = ⊤
NamesBad spell Fits bytes at (refused.Syntax place) =
    (place ≤ length bytes) × FirstBad spell Fits (drop at bytes) (drop place bytes)
NamesBad spell Fits bytes at (refused.TooLarge place) = ⊥

-- a refusal names the first bad byte or a low place
abbrev pub NamesBadOrLow : {X : Type 0} → (List ℕ → List ℕ → Type 0) → (X → List ℕ) →
    (X → Type 0) → List ℕ → ℕ → TextRefused → Type 0
NamesBadOrLow IsLow spell Fits bytes at refused.NoMemory = ⊤
NamesBadOrLow IsLow spell Fits bytes at (refused.Syntax place) =
    (place ≤ length bytes) × (FirstBad spell Fits (drop at bytes) (drop place bytes)
    ⊎ FirstLow IsLow spell Fits (drop at bytes) (drop place bytes))
NamesBadOrLow IsLow spell Fits bytes at (refused.TooLarge place) = ⊥

-- no dot stands at the place, or the byte behind it is bad
abbrev pub EndsAt : List ℕ → ℕ → Result (Unit {0}) Fault → Type 0
EndsAt bytes place (Ok none) = (x : List ℕ) → ended (x, drop place bytes) ≡ Ok (x, drop place bytes)
EndsAt bytes place (Err fault.NoMemory) = ⊥
EndsAt bytes place (Err (fault.Bad k)) = (k ≤ length bytes)
    × ((x : List ℕ) → ended (x, drop place bytes) ≡ Err (Bad (drop k bytes)))
EndsAt bytes place (Err (fault.Low k)) = ⊥

-- the answer is Syntax at the place before these bytes, unless there was no memory
abbrev pub IsSyntaxAt : {X : Type 0} → List ℕ → List ℕ → Result (X × ℕ) TextRefused → Type 0
IsSyntaxAt bytes rest (Ok read) = ⊥
IsSyntaxAt bytes rest (Err refused.NoMemory) = ⊤
IsSyntaxAt bytes rest (Err (refused.Syntax place)) = drop place bytes ≡ rest
IsSyntaxAt bytes rest (Err (refused.TooLarge place)) = ⊥

-- what is told of a value: as the public reader says
pub record TellsValue (bytes : List ℕ) (at : ℕ) (result : Result (Plain × ℕ)
    TextRefused) : Type 0 where
  pub found : IfOk result (IsFound value_text IsValue bytes at)
  pub only : (value : Plain) (rest : List ℕ) →
      Stands value_text IsValue (drop at bytes) value rest → IsRead bytes value rest result
  pub syntax : IfErr result (NamesValueFault bytes at)
  pub order : (rest : List ℕ) → LowInValue (drop at bytes) rest →
      IsWithinBefore (drop at bytes) rest → IsSyntaxAt bytes rest result
  pub too_large : IfErr result (NamesTooLarge bytes at)
  pub over : (rest : List ℕ) → FirstTooLarge (drop at bytes) rest →
      NoLowBefore (drop at bytes) rest → IsTooLargeAt bytes rest result
