-- What the reader of filters answers.
use Rattle.std.specs.Prelude.{◌≡◌, ℕ, ◌≤◌, List, [], ◌∷◌, ◌++◌, length, drop, Result, Ok, Err, ⊤}
use Rattle.df_filter.specs.Limits.{most_clauses}
use Rattle.df_filter.specs.declared.clause.Clause.{Clause}
use Rattle.df_format.specs.Grammar.{FirstBad}
use Rattle.df_filter_text.specs.Filter.{filter_text}
use Rattle.df_filter_text.specs.Fits.{AreClauses, IsFilter}
use Rattle.df_value_text.specs.declared.refused.Fault.{Fault}
use Rattle.df_value_text.specs.declared.refused.Fault.TheVariants as fault
use Rattle.df_filter_text.specs.declared.refused.FilterTextRefused.{FilterTextRefused}
use Rattle.df_filter_text.specs.declared.refused.FilterTextRefused.TheVariants as refused

-- the answer is this, unless there was no memory
abbrev pub IsReadWhole : {X : Type 0} → X → Result X FilterTextRefused → Type 0
IsReadWhole x (Ok read) = read ≡ x
IsReadWhole x (Err e) = e ≡ refused.NoMemory

-- a fault as it is told to callers
abbrev pub refusal : Fault → FilterTextRefused
refusal fault.NoMemory = refused.NoMemory
refusal (fault.Bad place) = refused.Syntax place
refusal (fault.Low place) = refused.Syntax place

-- as many clauses as a filter has stand in front, and another `&`
pub record HasFifth (bytes : List ℕ) : Type 0 where
  pub clauses : List Clause
  pub fits : AreClauses clauses
  pub four : length clauses ≡ most_clauses
  pub more : List ℕ
  pub is : bytes ≡ filter_text clauses ++ 38 ∷ more

-- what the refusal says of the bytes
abbrev pub IsRefusedBy : List ℕ → FilterTextRefused → Type 0
IsRefusedBy bytes refused.NoClause = bytes ≡ []
IsRefusedBy bytes refused.TooManyClauses = HasFifth bytes
IsRefusedBy bytes (refused.Syntax offset) = (offset ≤ length bytes)
    × FirstBad filter_text IsFilter bytes (drop offset bytes) × (bytes ≡ [] → ⊥)
    × (HasFifth bytes → ⊥)
IsRefusedBy bytes refused.NoMemory = ⊤

-- it is refused so, unless there was no memory
abbrev pub IsRefused : {X : Type 0} → FilterTextRefused → Result X FilterTextRefused → Type 0
IsRefused why (Ok read) = ⊥
IsRefused why (Err refused.NoMemory) = ⊤
IsRefused why (Err e) = e ≡ why
