-- The first bad line of a text that isn't one of a grammar. IsText tells the texts of the grammar.
use Rattle.std.specs.Prelude.{◌≡◌, ℕ, List, [], ◌∷◌, ◌++◌}
use Rattle.std.specs.List.{All}
use Rattle.df_lines.specs.Lines.{EndsLine, IsLine, lines_text}

-- some text of the grammar begins so
abbrev pub Begins : (List ℕ → Type 0) → List ℕ → Type 0
Begins IsText front = (more : List ℕ) × IsText (front ++ more)

-- The first bad line stands behind these lines. A text of the grammar begins with them, and none
-- with them and the bad line, where that has its line feed. Where it has none, it is the last line,
-- or the line that is lacking.
pub record IsFirstBad (IsText : List ℕ → Type 0) (text : List ℕ) (before : List (List ℕ))
    (bad : List ℕ) : Type 0 where
  pub behind : List ℕ
  pub parts : text ≡ lines_text before ++ (bad ++ behind)
  pub lines : All IsLine before
  pub line : IsLine bad
  pub end : EndsLine behind
  pub viable : Begins IsText (lines_text before)
  pub dead : (more : List ℕ) → behind ≡ 10 ∷ more → ¬ Begins IsText
      (lines_text (before ++ bad ∷ []))
  pub none : ¬ IsText text
