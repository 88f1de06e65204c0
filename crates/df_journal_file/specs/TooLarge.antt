-- Where a value that is too large stands in a journal. IsText tells the journals of a version.
use Rattle.std.specs.Prelude.{◌≡◌, ℕ, ◌<◌, ◌^◌, true, List, ◌++◌, codes, decimal, ◌⊎◌}
use Rattle.df_frozen.specs.Name.{is_name}
use Rattle.df_label.specs.declared.label.Label.{Label}
use Rattle.df_unit.specs.declared.name.UnitName.{UnitName}
use Rattle.df_value_text.specs.Fits.{IsLabel}
use Rattle.df_value_text.specs.Label.{label_text}
use Rattle.df_lines.specs.FirstBad.{Begins}
use Rattle.df_lines.specs.Lines.{lines_text}
use Rattle.df_journal_text.specs.Fits.{IsUnit}
use Rattle.df_journal_text.specs.Large.{IsLargeWord}
use Rattle.df_journal_text.specs.Line.{word}
use Rattle.df_journal_text.specs.Name.{unit_text}

-- a call that adds a part, up to its value
abbrev pub IsCallFront : List ℕ → Type 0
IsCallFront front = (actor : UnitName) × (h : ℕ) × (n : Label × List ℕ) × IsUnit actor
    × (h < 2 ^ 32) × (IsLabel n.0 × (is_name n.1 ≡ true))
    × (front ≡ unit_text actor ++ (word (codes "add") ++ (word (decimal h)
    ++ (word (label_text n.0) ++ word n.1))))

-- what a read shows, up to its value
abbrev pub IsShownFront : List ℕ → Type 0
IsShownFront front = (label : Label) × IsLabel label
    × (front ≡ codes ":" ++ word (label_text label))

-- a part behind a mark, up to its value
abbrev pub IsPartFront : List ℕ → List ℕ → Type 0
IsPartFront mark front = (n : Label × List ℕ) × (IsLabel n.0 × (is_name n.1 ≡ true))
    × (front ≡ mark ++ (word (label_text n.0) ++ word n.1))

-- one of these, behind which a value is to stand
abbrev pub IsValueFront : List ℕ → Type 0
IsValueFront front = IsCallFront front ⊎ (IsShownFront front
    ⊎ (IsPartFront (codes "+") front ⊎ IsPartFront (codes ".") front))

-- Behind these lines a line may begin like the bad one, up to a value, and the value that stands
-- there is too large.
pub record IsLargeIn (IsText : List ℕ → Type 0) (before : List (List ℕ)) (bad : List ℕ) : Type 0
  where
    pub front : List ℕ
    pub rest : List ℕ
    pub parts : bad ≡ front ++ rest
    pub viable : Begins IsText (lines_text before ++ front)
    pub wanting : IsValueFront front
    pub large : IsLargeWord rest
