-- The lines of roots, as they are read.
use Rattle.df_script_text.proofs.Names.{◌≡◌, ℕ, List, [], ◌++◌, map, Ok, codes, decimal, refl, sym, ap, ◌∙◌, append-nil, recursion_from_All, Read, as_at, behind_at, then_at, RootStart, IsPrivilege, label_text, privilege_text, IsRoot, spaced, word, root_line, root_text, Finds, finds_as, finds_behind, finds_then, finds_word, label_finds, privileges_finds, label_word, privileges_back, word_back, root_line_at}
use Rattle.df_value_text.specs.ReadLabel.{label_at}
use Rattle.df_journal_text.specs.ReadStart.{root_of}
use Rattle.df_journal_text.proofs.Wholes.{WholeLine}
use Rattle.df_journal_text.specs.ReadWords.{privileges_at, word_at}
use Rattle.df_journal_text.proofs.StartBacks.{behind_back}

-- what stands behind a root's number
abbrev behind_number : RootStart → List ℕ
behind_number root = word (label_text root.label) ++ spaced (map privilege_text root.privileges)

abbrev behind_number_at : List ℕ → Read ℕ RootStart
behind_number_at bytes = as_at root_of (then_at (word_at label_at) privileges_at) bytes

behind_finds : Finds behind_number IsRoot behind_number_at
behind_finds = finds_as root_of (finds_then (finds_word label_finds) privileges_finds) (λ x f. (refl, f))

behind_read : (root : RootStart) → IsRoot root → behind_number_at (behind_number root) ≡ Ok (root, [])
behind_read root f =
    let words : List (List ℕ) = map privilege_text root.privileges in
    let e1 = word_back label_word root.label words [] f.0 tt in
    let e2 = privileges_back root.privileges [] (recursion_from_All IsPrivilege root.privileges f.1.0) f.1.1 tt refl in
    ap behind_number_at (sym (append-nil (behind_number root))) ∙ rw (e1, e2) refl

pub root_whole : (number : ℕ) → WholeLine (root_line number) (root_text number) IsRoot (root_line_at number)
root_whole number = record {
  found = (finds_behind (codes "unit ") (finds_behind (decimal number) behind_finds)).found;
  back = λ root f.
      behind_back (codes "unit ") (behind_at (decimal number) behind_number_at) (decimal number ++ behind_number root)
      ∙ behind_back (decimal number) behind_number_at (behind_number root) ∙ behind_read root f;
  same = λ root. refl;
}
