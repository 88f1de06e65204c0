-- Where a value is refused, and why.
use Rattle.std.specs.Prelude.{◌≡◌, ◌≤◌, ◌<◌, ℕ, List, [], ◌∷◌, ◌++◌, length, drop, nat_le, if◌then◌else◌, Result, Ok, Err, ⊤, ◌⊎◌}
use Rattle.df_format.specs.Grammar.{CanGoOn, FirstBad}
use Rattle.df_value_text.specs.Counting.{AreWithin, FirstOver, counts_of}
use Rattle.df_value_text.specs.Fits.{IsSpelled}
use Rattle.df_value_text.specs.OrderNames.{LowWithin}
use Rattle.df_value_text.specs.Value.{value_text}
use Rattle.df_value_text.specs.declared.refused.Fault.{Fault}
use Rattle.df_value_text.specs.declared.refused.Fault.TheVariants as fault
use Rattle.df_value_text.specs.declared.refused.TextRefused.{TextRefused}
use Rattle.df_value_text.specs.declared.refused.TextRefused.TheVariants as refused

-- the first bytes of these can go on, and what stands behind them is low
pub record FirstLow {X : Type 0} (IsLow : List ℕ → List ℕ → Type 0) (spell : X → List ℕ)
    (Fits : X → Type 0) (bytes rest : List ℕ) : Type 0 where
  pub front : List ℕ
  pub parts : bytes ≡ front ++ rest
  pub viable : CanGoOn spell Fits front
  pub low : IsLow front rest

-- rest begins with the first byte with which no value can go on
abbrev pub FirstBadValue : List ℕ → List ℕ → Type 0
FirstBadValue bytes rest = FirstBad value_text IsSpelled bytes rest

-- at rest stands a name that isn't above the one before it in its map
abbrev pub FirstLowName : List ℕ → List ℕ → Type 0
FirstLowName bytes rest = FirstLow LowWithin value_text IsSpelled bytes rest

-- in front of rest no count of freezing is passed
abbrev pub IsWithinBefore : List ℕ → List ℕ → Type 0
IsWithinBefore bytes rest = (front : List ℕ) → bytes ≡ front ++ rest → AreWithin (counts_of front)

-- rest begins with the first byte by which a count of freezing is passed, and with it a value can
-- go on
pub record FirstTooLarge (bytes rest : List ℕ) : Type 0 where
  pub over : FirstOver bytes rest
  pub viable : CanGoOn value_text IsSpelled (over.front ++ over.first ∷ [])

-- a Syntax names the first byte with which no value can go on, or a low name, and no count is
-- passed before it
abbrev pub NamesValueFault : List ℕ → ℕ → TextRefused → Type 0
NamesValueFault bytes at refused.NoMemory = ⊤
NamesValueFault bytes at (refused.Syntax place) =
    (place ≤ length bytes) × (FirstBadValue (drop at bytes) (drop place bytes)
    ⊎ FirstLowName (drop at bytes) (drop place bytes))
    × IsWithinBefore (drop at bytes) (drop place bytes)
NamesValueFault bytes at (refused.TooLarge place) = ⊤

-- a TooLarge names the first byte by which a count of freezing is passed, with which a value can go
-- on
abbrev pub NamesTooLarge : List ℕ → ℕ → TextRefused → Type 0
NamesTooLarge bytes at refused.NoMemory = ⊤
NamesTooLarge bytes at (refused.Syntax place) = ⊤
NamesTooLarge bytes at (refused.TooLarge place) =
    (place < length bytes) × FirstTooLarge (drop at bytes) (drop place bytes)

-- a fault where a count is passed at this place: behind it a fault isn't told
abbrev pub up_to : ℕ → Fault → TextRefused
up_to over fault.NoMemory = refused.NoMemory
up_to over (fault.Bad place) = if nat_le place over then refused.Syntax place
    else refused.TooLarge over
up_to over (fault.Low place) = if nat_le place over then refused.Syntax place
    else refused.TooLarge over

-- each low name stands behind the first byte of rest
abbrev pub NoLowBefore : List ℕ → List ℕ → Type 0
NoLowBefore bytes rest = (low : List ℕ) → FirstLowName bytes low → length low < length rest

-- the answer is TooLarge at the place before these bytes, unless there was no memory
abbrev pub IsTooLargeAt : {X : Type 0} → List ℕ → List ℕ → Result (X × ℕ) TextRefused → Type 0
IsTooLargeAt bytes rest (Ok read) = ⊥
IsTooLargeAt bytes rest (Err refused.NoMemory) = ⊤
IsTooLargeAt bytes rest (Err (refused.Syntax place)) = ⊥
IsTooLargeAt bytes rest (Err (refused.TooLarge place)) = drop place bytes ≡ rest

-- the refusal is Syntax at the place before these bytes, unless there was no memory
abbrev pub TellsSyntaxAt : List ℕ → List ℕ → TextRefused → Type 0
TellsSyntaxAt bytes rest refused.NoMemory = ⊤
TellsSyntaxAt bytes rest (refused.Syntax place) = drop place bytes ≡ rest
TellsSyntaxAt bytes rest (refused.TooLarge place) = ⊥
