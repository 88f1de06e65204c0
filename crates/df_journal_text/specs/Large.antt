-- Values that are too large, in the words of a line.
use Rattle.std.specs.Prelude.{◌≡◌, ℕ, ◌<◌, ◌^◌, true, List, ◌∷◌, ◌++◌, codes, decimal}
use Rattle.df_frozen.specs.Name.{is_name}
use Rattle.df_label.specs.declared.label.Label.{Label}
use Rattle.df_value_text.specs.Fits.{IsLabel}
use Rattle.df_value_text.specs.Label.{label_text}
use Rattle.df_unit.specs.declared.name.UnitName.{UnitName}
use Rattle.df_value_text.specs.ValueFault.{FirstTooLarge, NoLowBefore}
use Rattle.df_journal_text.specs.Fits.{IsUnit}
use Rattle.df_journal_text.specs.Line.{word}
use Rattle.df_journal_text.specs.Name.{unit_text}

-- of these bytes the reader of values answers that they are too large, from this byte on
pub record IsTooLarge (bytes : List ℕ) : Type 0 where
  pub rest : List ℕ
  pub over : FirstTooLarge bytes rest
  pub ordered : NoLowBefore bytes rest

-- a space stands in front, and behind it what is too large
pub record IsLargeWord (bytes : List ℕ) : Type 0 where
  pub value : List ℕ
  pub parts : bytes ≡ 32 ∷ value
  pub large : IsTooLarge value

-- the words of a label and a name, and a value that is too large
pub record IsLargeNamed (bytes : List ℕ) : Type 0 where
  pub label : Label
  pub name : List ℕ
  pub rest : List ℕ
  pub parts : bytes ≡ word (label_text label) ++ (word name ++ rest)
  pub label_fits : IsLabel label
  pub name_fits : is_name name ≡ true
  pub large : IsLargeWord rest

-- the words of a call that adds a part whose value is too large
pub record IsLargeCall (bytes : List ℕ) : Type 0 where
  pub h : ℕ
  pub rest : List ℕ
  pub parts : bytes ≡ word (codes "add") ++ (word (decimal h) ++ rest)
  pub small : h < 2 ^ 32
  pub large : IsLargeNamed rest

-- the line of a unit that adds a part whose value is too large, whatever stands behind the value
abbrev pub IsLargeCalled : List ℕ → Type 0
IsLargeCalled line = (actor : UnitName) × (rest : List ℕ) × IsUnit actor
    × (line ≡ unit_text actor ++ rest) × IsLargeCall rest

-- behind the mark the line of a part whose value is too large
abbrev pub IsLargePart : List ℕ → List ℕ → Type 0
IsLargePart mark line = (n : Label × List ℕ) × (rest : List ℕ)
    × (IsLabel n.0 × (is_name n.1 ≡ true))
    × (line ≡ (mark ++ (word (label_text n.0) ++ word n.1)) ++ rest) × IsLargeWord rest

-- the line of what a read shows, where the value is too large
abbrev pub IsLargeShown : List ℕ → Type 0
IsLargeShown line = (label : Label) × (rest : List ℕ) × IsLabel label
    × (line ≡ (codes ":" ++ word (label_text label)) ++ rest) × IsLargeWord rest
