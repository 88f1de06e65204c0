-- How starts and whole journals are spelled.
use Rattle.std.specs.Prelude.{ℕ, ◌+◌, List, [], ◌∷◌, ◌++◌, map, codes, decimal}
use Rattle.std.specs.List.{flat_map}
use Rattle.df_start.specs.declared.start.RootStart.{RootStart}
use Rattle.df_value_text.specs.Label.{label_text, privilege_text}
use Rattle.df_unit.specs.declared.entry.Noted.{Noted}
use Rattle.df_journal_text.specs.Line.{line, spaced}
use Rattle.df_journal_text.specs.Entry.{noted_text}

-- the line of a root, without its line feed: its number, its label and its privileges
abbrev pub root_text : ℕ → RootStart → List ℕ
root_text number root =
    codes "unit" ++
    spaced (decimal number ∷ label_text root.label ∷ map privilege_text root.privileges)

-- the line of a root
abbrev pub root_line : ℕ → RootStart → List ℕ
root_line number root = root_text number root ++ 10 ∷ []

-- the lines of these roots, of which the first has this number
abbrev pub roots_text : ℕ → List RootStart → List ℕ
roots_text number [] = []
roots_text number (root ∷ roots) = root_line number root ++ roots_text (number + 1) roots

-- the lines of a start
abbrev pub start_text : List RootStart → List ℕ
start_text roots = roots_text 0 roots

-- what stands before a journal's entries: its first line, in its second version, its start, and a
-- line
abbrev pub head_text : List RootStart → List ℕ
head_text roots = line (codes "defcon-journal") (codes "2" ∷ []) ++ start_text roots
    ++ line (codes "run") []

-- a journal in its second version
abbrev pub journal_text : List RootStart → List Noted → List ℕ
journal_text roots noted = head_text roots ++ flat_map noted_text noted
