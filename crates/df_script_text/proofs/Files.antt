-- Scripts and their lines.
use Rattle.df_script_text.proofs.Names.{◌≡◌, ℕ, ◌+◌, ◌<◌, ◌^◌, List, [], ◌∷◌, ◌++◌, length, drop, map, codes, decimal, refl, sym, ap, ◌∙◌, arith, append_assoc, All, flat_map, All-cons, All-append, All-head, All-nil, All-tail, All-weaker, flat_map-append, IsLine, ended, lines_text, RootStart, label_text, privilege_text, IsRoot, root_text, roots_text, start_text, IsScriptLine, script_line, script_text, call_line, head_lines, numbered, script_lines, AreRootsAt, ScriptLine}
use Rattle.df_script_text.proofs.Calls.{Avoids-call}
use Rattle.std.proofs.lemmas.List.Elements.{All-map}
use Rattle.df_script_text.proofs.Splits.{Avoids-text, Avoids-words, Avoids-line, AreWords-root, IsLine-word}

-- the line `run`, and the first
abbrev pub run : List ℕ
run = codes "run"

abbrev pub first : List ℕ
first = codes "defcon-script 1"

-- ---- a script is its lines

-- the lines of roots
pub roots_text-numbered : (n : ℕ) (roots : List RootStart) → roots_text n roots ≡ lines_text (numbered root_text n roots)
roots_text-numbered n [] = refl
roots_text-numbered n (root ∷ roots) = ap (λ (l : List ℕ). ended (root_text n root) ++ l) (roots_text-numbered (n + 1) roots)

-- the lines of calls
flat_map-script_line : (ls : List ScriptLine) → flat_map script_line ls ≡ lines_text (map call_line ls)
flat_map-script_line [] = refl
flat_map-script_line (l ∷ ls) = ap (λ (m : List ℕ). ended (call_line l) ++ m) (flat_map-script_line ls)

pub script_text-lines : (roots : List RootStart) (ls : List ScriptLine) → script_text roots ls ≡ lines_text (script_lines (roots, ls))
script_text-lines roots ls =
    let us : List (List ℕ) = numbered root_text 0 roots in
    append_assoc (ended first ++ start_text roots) (ended run) (flat_map script_line ls)
    ∙ append_assoc (ended first) (start_text roots) (ended run ++ flat_map script_line ls)
    ∙ ap (λ (l : List ℕ). ended first ++ l) (ap (λ (l : List ℕ). l ++ (ended run ++ flat_map script_line ls)) (roots_text-numbered 0 roots)
    ∙ ap (λ (l : List ℕ). lines_text us ++ (ended run ++ l)) (flat_map-script_line ls)
    ∙ sym (flat_map-append ended us (run ∷ map call_line ls)))

-- a root's line has no line feed
pub IsLine-root : (k : ℕ) (root : RootStart) → k < 2 ^ 32 → IsRoot root → IsLine (root_text k root)
IsLine-root k root small f =
    let words : List (List ℕ) = decimal k ∷ label_text root.label ∷ map privilege_text root.privileges in
    let w = AreWords-root k small root f in
    Avoids-line (codes "unit") words (IsLine-word (codes "unit") w.0) (Avoids-words words w.1)

-- lines of roots
AreLines-roots : (n : ℕ) (roots : List RootStart) → n + length roots < 2 ^ 32 → All IsRoot roots → All IsLine (numbered root_text n roots)
AreLines-roots n [] few fit = All-nil IsLine
AreLines-roots n (r ∷ rs) few fit =
    All-cons IsLine (root_text n r) (numbered root_text (n + 1) rs) (IsLine-root n r (omega (arith, few)) (All-head IsRoot r rs fit))
    (AreLines-roots (n + 1) rs (omega (arith, few)) (All-tail IsRoot r rs fit))

-- lines of calls
AreLines-calls : (ls : List ScriptLine) → All IsScriptLine ls → All IsLine (map call_line ls)
AreLines-calls ls fit = All-map IsLine call_line ls (All-weaker IsScriptLine (λ l. IsLine (call_line l)) Avoids-call ls fit)

pub IsLine-first : IsLine first
IsLine-first = Avoids-text first refl

pub AreLines-head : (roots : List RootStart) → length roots < 2 ^ 32 → All IsRoot roots → All IsLine (head_lines roots)
AreLines-head roots few fit = All-cons IsLine first (numbered root_text 0 roots) IsLine-first (AreLines-roots 0 roots (omega (arith, few)) fit)

pub AreLines-script : (roots : List RootStart) (ls : List ScriptLine) → length roots < 2 ^ 32 → All IsRoot roots → All IsScriptLine ls
    → All IsLine (script_lines (roots, ls))
AreLines-script roots ls few fit calls =
    All-append IsLine (head_lines roots) (run ∷ map call_line ls) (AreLines-head roots few fit)
    (All-cons IsLine run (map call_line ls) (Avoids-text run refl) (AreLines-calls ls calls))

-- ---- the text in other groups

pub regroup : (first start run entries end : List ℕ) → (((first ++ start) ++ run) ++ entries) ++ end ≡ first ++ (start ++ (run ++ (entries ++ end)))
regroup first start run entries end = simp append_assoc

-- roots and the line `run` at a place
pub roots_stand : (bytes : List ℕ) (at : ℕ) (rs : List RootStart) (mid : ℕ) → AreRootsAt bytes at rs mid
    → drop at bytes ≡ start_text rs ++ (ended run ++ drop mid bytes)
roots_stand bytes at rs mid r =
    r.passed.text ∙ ap (λ (u : List ℕ). u ++ drop r.place bytes) (sym (roots_text-numbered 0 rs)) ∙ ap (λ (u : List ℕ). start_text rs ++ u) r.run
