-- Starts that are spelled are read back.
use Rattle.df_journal_text.proofs.Names.{◌≡◌, ℕ, zero, suc, ◌+◌, ◌≤◌, false, List, [], ◌∷◌, ◌++◌, length, map, Ok, codes, decimal, refl, ap, ◌∙◌, append_assoc, arith, length-append, inr, AllByRecursion, recursion_from_All, Read, behind_at, text_again, RootStart, IsPrivilege, label_text, privilege_text, begins_with, IsRoot, spaced, root_line, roots_text, start_text}
use Rattle.df_journal_text.specs.ReadStart.{root_at, roots_within, start_at}
use Rattle.df_journal_text.proofs.WordBacks.{line-rest, word_back, label_word, privileges_back}

-- what stands behind fixed bytes
pub behind_back : {X : Type 0} (ws : List ℕ) (read : List ℕ → Read ℕ X) (rest : List ℕ) → behind_at ws read (ws ++ rest) ≡ read rest
behind_back ws read rest = rw (text_again ws rest) refl

-- what stands behind `unit` and the number
abbrev root_words : RootStart → List ℕ
root_words root = spaced (label_text root.label ∷ map privilege_text root.privileges)

root_split : (number : ℕ) (root : RootStart) (rest : List ℕ)
    → root_line number root ++ rest ≡ (codes "unit " ++ decimal number) ++ (root_words root ++ 10 ∷ rest)
root_split number root rest =
    let words : List (List ℕ) = label_text root.label ∷ map privilege_text root.privileges in
    line-rest (codes "unit") (decimal number ∷ words) rest ∙ ap (λ (u : List ℕ). codes "unit " ++ u) (append_assoc (decimal number) (spaced words) (10 ∷ rest))

root_back : (number : ℕ) (root : RootStart) (rest : List ℕ) → IsRoot root → root_at number (root_line number root ++ rest) ≡ Ok (root, rest)
root_back number root rest fits =
    let e1 = word_back label_word root.label (map privilege_text root.privileges) (10 ∷ rest) fits.0 (inr refl) in
    let e2 = privileges_back root.privileges (10 ∷ rest) (recursion_from_All IsPrivilege root.privileges fits.1.0) fits.1.1 (inr refl) refl in
    ap (root_at number) (root_split number root rest)
    ∙ behind_back (codes "unit " ++ decimal number) _ (root_words root ++ 10 ∷ rest)
    ∙ rw (e1, e2) refl

roots_back : (n number : ℕ) (roots : List RootStart) (rest : List ℕ) → length roots ≤ n → AllByRecursion IsRoot roots → begins_with 117 rest ≡ false
    → roots_within n number (roots_text number roots ++ rest) ≡ Ok (roots, rest)
roots_back zero number [] rest le fits end = refl
roots_back zero number (root ∷ roots) rest le fits end = absurd (omega arith)
roots_back (suc n) number [] rest le fits end = rw end refl
roots_back (suc n) number (root ∷ roots) rest le fits end =
    let one = root_back number root (roots_text (number + 1) roots ++ rest) fits.0 in
    let others = roots_back n (number + 1) roots rest (omega arith) fits.1 end in
    ap (roots_within (suc n) number) (append_assoc (root_line number root) (roots_text (number + 1) roots) rest) ∙ rw (one, others) refl

few : (number : ℕ) (roots : List RootStart) → length roots ≤ length (roots_text number roots)
few number [] = omega arith
few number (root ∷ roots) = omega (arith, few (number + 1) roots, length-append (root_line number root) (roots_text (number + 1) roots))

pub start_back : (roots : List RootStart) (rest : List ℕ) → AllByRecursion IsRoot roots → begins_with 117 rest ≡ false
    → start_at (start_text roots ++ rest) ≡ Ok (roots, rest)
start_back roots rest fits end = roots_back (length (start_text roots ++ rest)) 0 roots rest
    (omega (arith, few 0 roots, length-append (start_text roots) rest)) fits end
