-- Scripts that are spelled are read back, so a text is that of one script.
use Rattle.df_script_text.proofs.Names.{◌≡◌, ℕ, ◌<◌, true, false, List, [], ◌∷◌, ◌++◌, length, Ok, codes, refl, sym, ap, subst, ◌∙◌, append_assoc, inr, flat_map, recursion_from_All, ok_is, RootStart, call_words, IsRoot, spaced, unit_text, start_text, call_back, unit_word, ends_spaced, line-rest, IsScript, IsScriptLine, script_line, script_text, ScriptLine}
use Rattle.std.proofs.lemmas.List.{append-nil}
use Rattle.df_format.proofs.Backs.{Back, all_back}
use Rattle.df_journal_text.proofs.JournalBacks.{digit_some, more_first, unit_first}
use Rattle.df_script_text.specs.ReadScript.{script_at, script_line_at}
use Rattle.df_value_text.specs.ReadTag.{begins_digit}
use Rattle.df_journal_text.proofs.StartBacks.{start_back}

-- ---- lines

line_first : (l : ScriptLine) (rest : List ℕ) → IsScriptLine l → begins_digit (script_line l ++ rest) ≡ true
line_first l rest fits =
    let more : List ℕ = spaced (call_words l.call) ++ 10 ∷ rest in
    ap begins_digit (line-rest (unit_text l.actor) (call_words l.call) rest) ∙ more_first (unit_text l.actor) more (unit_first l.actor fits.0)

lines_are : Back begins_digit script_line IsScriptLine (λ rest. Unit {0}) script_line_at
lines_are = record {
  back = λ l rest fits next.
      let e1 = unit_word.back l.actor (spaced (call_words l.call) ++ 10 ∷ rest) fits.0 (ends_spaced (call_words l.call) (10 ∷ rest) (inr refl)) in
      let e2 = call_back l.call (10 ∷ rest) fits.1 (inr refl) refl in
      ap script_line_at (line-rest (unit_text l.actor) (call_words l.call) rest) ∙ rw (e1, e2) refl;
  stand = λ l rest fits. line_first l rest fits;
  some = λ l fits. subst (λ (u : List ℕ). 0 < length u) (append-nil (script_line l)) (digit_some (script_line l ++ []) (line_first l [] fits));
  next = λ l rest fits. tt;
}

-- ---- scripts

pub script_back : (roots : List RootStart) (lines : List ScriptLine) (rest : List ℕ) → IsScript roots lines → begins_digit rest ≡ false
    → script_at (script_text roots lines ++ rest) ≡ Ok ((roots, lines), rest)
script_back roots lines rest fits end =
    let calls : List ℕ = flat_map script_line lines ++ rest in
    let whole : script_text roots lines ++ rest ≡ codes "defcon-script 1\n" ++ (start_text roots ++ (codes "run\n" ++ calls)) =
    append_assoc ((codes "defcon-script 1\n" ++ start_text roots) ++ codes "run\n") (flat_map script_line lines) rest
    ∙ append_assoc (codes "defcon-script 1\n" ++ start_text roots) (codes "run\n") calls in
    let e1 = start_back roots (codes "run\n" ++ calls) (recursion_from_All IsRoot roots fits.0.1) refl in
    let e2 = all_back lines_are lines rest (recursion_from_All IsScriptLine lines fits.1) tt end in
    ap script_at whole ∙ rw (e1, e2) refl

-- ---- what is answered

pub only_script : (bytes : List ℕ) (read : List RootStart × List ScriptLine) → IsScript read.0 read.1 × (bytes ≡ script_text read.0 read.1)
    → (roots : List RootStart) (lines : List ScriptLine) → IsScript roots lines → bytes ≡ script_text roots lines → read ≡ (roots, lines)
only_script bytes read found roots lines fits is =
    let one : (List RootStart × List ScriptLine) × List ℕ = (read, []) in
    let same = ap (λ (u : List ℕ). script_at (u ++ [])) (sym found.1 ∙ is) in
    ap (λ (q : (List RootStart × List ScriptLine) × List ℕ). q.0) (ok_is one ((roots, lines), [])
    (sym (script_back read.0 read.1 [] found.0 refl) ∙ same ∙ script_back roots lines [] fits refl))

pub script_is_one : (roots others : List RootStart) (lines more : List ScriptLine) → IsScript roots lines → IsScript others more
    → script_text roots lines ≡ script_text others more → (roots ≡ others) × (lines ≡ more)
script_is_one roots others lines more fits fits' same =
    let both = only_script (script_text roots lines) (roots, lines) (fits, refl) others more fits' same in
    (ap (λ (q : List RootStart × List ScriptLine). q.0) both, ap (λ (q : List RootStart × List ScriptLine). q.1) both)
