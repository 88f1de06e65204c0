-- What a spelling and a reader owe each other.
use Rattle.std.specs.Prelude.{◌≡◌, Bool, true, false, List, [], ◌∷◌, ◌++◌, Ok, Err}
use Rattle.df_format.specs.Reading.{Stop, Bad, Low, Read}
use Rattle.df_format.specs.Grammar.{CanGoOn}

-- x doesn't go on with the first of these tokens
abbrev pub Ends : {T X : Type 0} → (X → T → Bool) → X → List T → Type 0
Ends goes x [] = Unit {0}
Ends goes x (t ∷ rest) = goes x t ≡ false

-- what is read stands in front, and ends there
pub record Found {T X : Type 0} (spell : X → List T) (Fits : X → Type 0) (goes : X → T →
    Bool) (tokens : List T) (x : X) (rest : List T) : Type 0 where
  pub parts : tokens ≡ spell x ++ rest
  pub fits : Fits x
  pub ends : Ends goes x rest

-- some text begins so; of no tokens nothing is said
abbrev pub IsViable : {T X : Type 0} → (X → List T) → (X → Type 0) → List T → Type 0
IsViable spell Fits [] = Unit {0}
IsViable spell Fits (t ∷ ts) = CanGoOn spell Fits (t ∷ ts)

-- the tokens from the place at which reading stopped
abbrev pub place : {T : Type 0} → Stop T → List T
place (Bad rest) = rest
place (Low rest) = rest

-- Why reading stopped behind front. Whatever stands behind a bad token, reading stops at it; what a
-- low place is, IsLow says of the tokens before it and from it on.
abbrev pub Cause : {T X : Type 0} → (List T → List T → Type 0) → (List T → Read T X) → List T →
    Stop T → Type 0
Cause {T} IsLow read front (Bad rest) = (t : T) (tail : List T) → rest ≡ t ∷ tail →
    (other : List T) → read (front ++ t ∷ other) ≡ Err (Bad (t ∷ other))
Cause IsLow read front (Low rest) = IsLow front rest

-- reading stopped where it had to
pub record Stuck {T X : Type 0} (IsLow : List T → List T → Type 0) (spell : X → List T) (Fits : X →
    Type 0) (read : List T → Read T X) (tokens : List T) (stop : Stop T) : Type 0 where
  pub front : List T
  pub parts : tokens ≡ front ++ place stop
  pub viable : IsViable spell Fits front
  pub cause : Cause IsLow read front stop

-- what stands before a low place doesn't matter to it
abbrev pub IsLocal : {T : Type 0} → (List T → List T → Type 0) → Type 0
IsLocal {T} IsLow = (before front rest : List T) → IsLow front rest → IsLow (before ++ front) rest

-- ties a parser to a printer: what is parsed prints the same; what is printed parses back, where it
-- ends; parsing stops only where no valid text goes on; and a longer text begins the same way
pub record Format {T X : Type 0} (IsLow : List T → List T → Type 0) (spell : X →
    List T) (Fits : X → Type 0) (goes : X → T → Bool) (read : List T → Read T X) : Type 0 where
  pub found : (tokens : List T) (x : X) (rest : List T) → read tokens ≡ Ok (x, rest) →
      Found spell Fits goes tokens x rest
  pub again : (x : X) (rest : List T) → Fits x → Ends goes x rest →
      read (spell x ++ rest) ≡ Ok (x, rest)
  pub stuck : (tokens : List T) (stop : Stop T) → read tokens ≡ Err stop →
      Stuck IsLow spell Fits read tokens stop
  pub on : (x : X) (t : T) → Fits x → goes x t ≡ true → CanGoOn spell Fits (spell x ++ t ∷ [])
