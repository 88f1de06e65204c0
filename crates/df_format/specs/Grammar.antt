-- A grammar is the image of a spelling: its texts are what is spelled of the things that fit.
use Rattle.std.specs.Prelude.{◌≡◌, ◌≤◌, length, List, [], ◌∷◌, ◌++◌}

-- some text begins so
pub record CanGoOn {T X : Type 0} (spell : X → List T) (Fits : X →
    Type 0) (front : List T) : Type 0 where
  pub some : X
  pub fits : Fits some
  pub more : List T
  pub is : spell some ≡ front ++ more

-- x stands in front, and with the token behind it no text goes on
pub record Stands {T X : Type 0} (spell : X → List T) (Fits : X →
    Type 0) (tokens : List T) (x : X) (rest : List T) : Type 0 where
  pub parts : tokens ≡ spell x ++ rest
  pub fits : Fits x
  pub ends : (t : T) (tail : List T) → rest ≡ t ∷ tail → CanGoOn spell Fits (spell x ++ t ∷ []) → ⊥

-- x is the longest of the things that stand in front
pub record IsLongest {T X : Type 0} (spell : X → List T) (Fits : X →
    Type 0) (tokens : List T) (x : X) (rest : List T) : Type 0 where
  pub parts : tokens ≡ spell x ++ rest
  pub fits : Fits x
  pub longest : (other : X) (tail : List T) → Fits other → tokens ≡ spell other ++ tail →
      length rest ≤ length tail

-- rest begins with the first token with which no text goes on, or a token is lacking
pub record FirstBad {T X : Type 0} (spell : X → List T) (Fits : X →
    Type 0) (tokens rest : List T) : Type 0 where
  pub front : List T
  pub parts : tokens ≡ front ++ rest
  pub viable : CanGoOn spell Fits front
  pub dead : (t : T) (tail : List T) → rest ≡ t ∷ tail → CanGoOn spell Fits (front ++ t ∷ []) → ⊥
