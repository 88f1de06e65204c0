-- The first bad line of what was left is that of the whole.
use Rattle.df_live.proofs.Names.{◌≡◌, ℕ, ◌+◌, ◌<◌, ◌≤◌, List, [], ◌∷◌, ◌++◌, length, take, drop, map, codes, Option, Some, None, IfSome, inl, inr, ◌^◌, refl, sym, ap, subst, ◌∙◌, arith, append_assoc, append-nil, length-append, Consumes, flat_map-append, All-nil, Rose, AreRoots, line, root_text, start_text, IsLine, ended, lines_text, BadKind, IsScript, IsScriptText, script_text, call_line, head_lines, numbered, script_lines, ArePassed, IsCallLine, IsFirstAt, IsHeadLine, StopsAt, ScriptLine, RootStart, HasLongLine, IsDue, IsTooLong, IsBadCall, IsBadHead, IsKind, IsLineDue, LiveStatus}
use Rattle.std.specs.List.{All}
use Rattle.std.proofs.Math.Seq.{take-append_seam}
use Rattle.std.proofs.lemmas.List.{drop_at, length-map}
use Rattle.df_lines.proofs.FirstBad.{names_line}
use Rattle.df_lines.proofs.Splits.{number-line}
use Rattle.df_lines.specs.Kinds.{refused_line}
use Rattle.df_lines.specs.Refused.{NamesBadLine}
use Rattle.df_lines.specs.code.Stops.{StopsBy}
use Rattle.df_lines.specs.declared.fault.FileFault.TheVariants as fault
use Rattle.df_lines.specs.declared.refused.BadKind.TheVariants.{Syntax, TooLarge}
use Rattle.df_lines.specs.declared.refused.FileRefused.TheVariants as refused
use Rattle.df_script_text.proofs.Files.{AreLines-head, AreLines-script, roots_text-numbered, script_text-lines}
use Rattle.df_script_text.proofs.Numbered.{length-numbered}
use Rattle.df_script_text.proofs.Stops.{calls_stop, first_stop, roots_stop}
use Rattle.df_script_text.specs.Reader.{HasReadUpTo}
use Rattle.df_script_text.specs.TooLarge.{IsTooLargeIn}
use Rattle.df_live.proofs.Parts.{consumes-none}
use Rattle.df_live.specs.declared.status.LiveStatus.TheVariants as status

-- the line `run`, and the first
abbrev pub run : List ℕ
run = codes "run"

abbrev pub first : List ℕ
first = codes "defcon-script 1"

-- a count that rose since a moment rose since an earlier one
pub rose_before : (before mid now : ℕ) → before ≤ mid → Rose mid now → Rose before now
rose_before before mid now up rose = omega (arith, up, rose)

-- the lines of a start
pub head_is : (roots : List RootStart) → lines_text (head_lines roots) ≡ line (codes "defcon-script") (codes "1" ∷ []) ++ start_text roots
head_is roots = ap (λ (u : List ℕ). ended first ++ u) (sym (roots_text-numbered 0 roots))

-- the lines of a start and the line `run` are a script without calls
pub start_lines : (roots : List RootStart) → script_text roots [] ≡ lines_text (head_lines roots) ++ ended run
start_lines roots =
    script_text-lines roots [] ∙ flat_map-append ended (head_lines roots) (run ∷ [])
    ∙ ap (λ (u : List ℕ). lines_text (head_lines roots) ++ u) (append-nil (ended run))

-- ---- places

-- what stands behind lines from their end on
rest_at : (bytes front rest : List ℕ) → bytes ≡ front ++ rest → drop (length front) bytes ≡ rest
rest_at bytes front rest whole = ap (λ (u : List ℕ). drop (length front) u) whole ∙ drop_at front rest (length front) refl

-- lines end inside
inside_at : (bytes front rest : List ℕ) → bytes ≡ front ++ rest → length front ≤ length bytes
inside_at bytes front rest whole = omega (arith, ap length whole, length-append front rest)

-- the bytes in front of the place where lines end
front_at : (bytes front rest : List ℕ) → bytes ≡ front ++ rest → take (length front) bytes ≡ front
front_at bytes front rest whole = ap (λ (u : List ℕ). take (length front) u) whole ∙ take-append_seam front rest

-- a place in the line behind these names it
named : (bytes : List ℕ) (place n : ℕ) (lines : List (List ℕ)) → take place bytes ≡ lines_text lines → All IsLine lines → n ≡ length lines + 1
    → StopsBy IsScriptText IsTooLargeIn bytes 0 (fault.Bad place) → NamesBadLine IsScriptText IsTooLargeIn bytes (refused.Syntax n)
named bytes place n lines front are is names =
    subst (λ (m : ℕ). NamesBadLine IsScriptText IsTooLargeIn bytes (refused.Syntax m))
    (number-line bytes place lines front are ∙ sym is)
    (names_line IsScriptText IsTooLargeIn bytes (fault.Bad place) names)

named_large : (bytes : List ℕ) (place n : ℕ) (lines : List (List ℕ)) → take place bytes ≡ lines_text lines → All IsLine lines → n ≡ length lines + 1
    → StopsBy IsScriptText IsTooLargeIn bytes 0 (fault.TooLarge place) → NamesBadLine IsScriptText IsTooLargeIn bytes (refused.TooLarge n)
named_large bytes place n lines front are is names =
    subst (λ (m : ℕ). NamesBadLine IsScriptText IsTooLargeIn bytes (refused.TooLarge m))
    (number-line bytes place lines front are ∙ sym is)
    (names_line IsScriptText IsTooLargeIn bytes (fault.TooLarge place) names)

-- ---- the first line

first_names : (bytes : List ℕ) (n : ℕ) (bad : List ℕ) → n ≡ 1 → StopsAt (λ l. l ≡ codes "defcon-script 1") bytes bad
    → NamesBadLine IsScriptText IsTooLargeIn bytes (refused.Syntax n)
first_names bytes n bad is stop = named bytes 0 n [] refl (All-nil IsLine) is (first_stop bytes (fault.Bad 0) (refl, (bad, stop)))

-- a long line of what is left is one of the whole
due_long : (left now : Option (List ℕ)) (front : List ℕ) → Consumes left now front → IfSome now HasLongLine → IfSome left IsTooLong
due_long None now front k long = tt
due_long (Some bytes) None front k long = absurd k
due_long (Some bytes) (Some rest) front k long =
    inl
    (record {
      before = front ++ long.before;
      line = long.line;
      behind = long.behind;
      parts = k ∙ ap (λ (u : List ℕ). front ++ u) long.parts ∙ sym (append_assoc front long.before (long.line ++ long.behind));
      is_line = long.is_line;
      long = long.long;
    })

pub due_first : (left : Option (List ℕ)) (f f' w w' : ℕ) (s : LiveStatus) → IsLineDue (IsBadHead (λ l. l ≡ codes "defcon-script 1")) 1 left f f' s
    → IsDue left f f' w w' s
due_first None f f' w w' (status.BadInput n kind) d = tt
due_first (Some bytes) f f' w w' (status.BadInput n Syntax) d = first_names bytes n d.1.1.0 d.0 d.1.1.1
due_first (Some bytes) f f' w w' (status.BadInput n TooLarge) d = absurd (let e : TooLarge ≡ Syntax = d.1.0 in cc)
due_first left f f' w w' status.ReadFault d = d
due_first left f f' w w' status.TooLong d = due_long left left [] (consumes-none left) d
due_first left f f' w w' status.NoMemory d = tt
due_first left f f' w w' status.Done d = absurd d
due_first left f f' w w' status.Usage d = absurd d
due_first left f f' w w' status.WriteFault d = absurd d

-- ---- roots

roots_names : (bytes rest : List ℕ) (roots : List RootStart) (n : ℕ) (bad : List ℕ) → AreRoots roots → bytes ≡ lines_text (head_lines roots) ++ rest
    → n ≡ length roots + 2 → StopsAt (IsHeadLine (length roots)) rest bad
    → NamesBadLine IsScriptText IsTooLargeIn bytes (refused.Syntax n)
roots_names bytes rest roots n bad fit whole is stop =
    let head : List ℕ = lines_text (numbered root_text 0 roots) in
    let front : List ℕ = lines_text (head_lines roots) in
    let from_first : bytes ≡ ended first ++ (head ++ rest) = whole ∙ append_assoc (ended first) head rest in
    let behind : drop (length (ended first)) bytes ≡ head ++ rest = rest_at bytes (ended first) (head ++ rest) from_first in
    let here : drop (length front) bytes ≡ rest = rest_at bytes front rest whole in
    let begins : IsFirstAt bytes
    (length (ended first)) = (inside_at bytes (ended first) (head ++ rest) from_first, from_first ∙ ap (λ (u : List ℕ). ended first ++ u) (sym behind)) in
    let passed : ArePassed bytes (length (ended first)) roots (length front) =
    record { inside = inside_at bytes front rest whole; few = fit.0; fit = fit.1; text = behind ∙ ap (λ (u : List ℕ). head ++ u) (sym here) } in
    named bytes (length front) n (head_lines roots) (front_at bytes front rest whole) (AreLines-head roots fit.0 fit.1)
    (omega (arith, is, length-numbered root_text 0 roots))
    (roots_stop bytes (length (ended first)) (fault.Bad (length front)) begins
    (roots, length front, passed, (refl, (bad, subst (λ (u : List ℕ). StopsAt (IsHeadLine (length roots)) u bad) (sym here) stop))))

pub due_root : (left now : Option (List ℕ)) (roots : List RootStart) (n f0 f f' w w' : ℕ) (s : LiveStatus) → AreRoots roots
    → Consumes left now (lines_text (head_lines roots)) → n ≡ length roots → f0 ≤ f
    → IsLineDue (IsBadHead (IsHeadLine n)) (n + 2) now f f' s → IsDue left f0 f' w w' s
due_root None now roots n f0 f f' w w' (status.BadInput m kind) fit k count up d = tt
due_root (Some bytes) None roots n f0 f f' w w' (status.BadInput m kind) fit k count up d = absurd k
due_root (Some bytes) (Some rest) roots n f0 f f' w w' (status.BadInput m Syntax) fit k count up d =
    roots_names bytes rest roots m d.1.1.0 fit k (d.0 ∙ ap (λ (j : ℕ). j + 2) count) (subst (λ (j : ℕ). StopsAt (IsHeadLine j) rest d.1.1.0) count d.1.1.1)
due_root (Some bytes) (Some rest) roots n f0 f f' w w' (status.BadInput m TooLarge) fit k count up d = absurd (let e : TooLarge ≡ Syntax = d.1.0 in cc)
due_root left now roots n f0 f f' w w' status.ReadFault fit k count up d = rose_before f0 f f' up d
due_root left now roots n f0 f f' w w' status.TooLong fit k count up d = due_long left now (lines_text (head_lines roots)) k d
due_root left now roots n f0 f f' w w' status.NoMemory fit k count up d = tt
due_root left now roots n f0 f f' w w' status.Done fit k count up d = absurd d
due_root left now roots n f0 f f' w w' status.Usage fit k count up d = absurd d
due_root left now roots n f0 f f' w w' status.WriteFault fit k count up d = absurd d

-- ---- calls

length-script_lines : (roots : List RootStart) (lines : List ScriptLine) → length (script_lines (roots, lines)) ≡ length roots + length lines + 2
length-script_lines roots lines =
    let all = length-append (head_lines roots) (run ∷ map call_line lines) in
    omega (arith, all, length-numbered root_text 0 roots, length-map lines call_line)

calls_name : (bytes rest : List ℕ) (roots : List RootStart) (lines : List ScriptLine) (n : ℕ) (kind : BadKind) → IsScript roots lines
    → bytes ≡ script_text roots lines ++ rest → n ≡ length roots + length lines + 3 → IsBadCall rest kind
    → IfSome (Some bytes) (λ bs. NamesBadLine IsScriptText IsTooLargeIn bs (refused_line n kind))
calls_name bytes rest roots lines n kind script whole is bad = by kind bad.1.2
  where
    front : List ℕ
    front = script_text roots lines

    here : drop (length front) bytes ≡ rest
    here = rest_at bytes front rest whole

    read : HasReadUpTo bytes roots lines (length front)
    read = record { inside = inside_at bytes front rest whole; script = script; text = whole ∙ ap (λ (u : List ℕ). front ++ u) (sym here) }

    some : length front < length bytes
    some = omega (arith, ap length whole, length-append front rest, bad.0)

    stop : StopsAt IsCallLine (drop (length front) bytes) bad.1.0
    stop = subst (λ (u : List ℕ). StopsAt IsCallLine u bad.1.0) (sym here) bad.1.1

    in_front : take (length front) bytes ≡ lines_text (script_lines (roots, lines))
    in_front = front_at bytes front rest whole ∙ script_text-lines roots lines

    are : All IsLine (script_lines (roots, lines))
    are = AreLines-script roots lines script.0.0 script.0.1 script.1

    count : n ≡ length (script_lines (roots, lines)) + 1
    count = omega (arith, is, length-script_lines roots lines)

    by : (k : BadKind) → IsKind bad.1.0 k → NamesBadLine IsScriptText IsTooLargeIn bytes (refused_line n k)
    by Syntax small = named bytes (length front) n (script_lines (roots, lines)) in_front are count
        (calls_stop bytes roots lines (length front) (fault.Bad (length front)) read (refl, some, (bad.1.0, stop, small)))
    by TooLarge large = named_large bytes (length front) n (script_lines (roots, lines)) in_front are count
        (calls_stop bytes roots lines (length front) (fault.TooLarge (length front)) read (refl, some, (bad.1.0, stop, large)))

pub due_call : (left now : Option (List ℕ)) (roots : List RootStart) (lines : List ScriptLine) (n f0 f f' w w' : ℕ) (s : LiveStatus) → IsScript roots lines
    → Consumes left now (script_text roots lines)
    → n ≡ length roots + length lines + 3 → f0 ≤ f → IsLineDue IsBadCall n now f f' s → IsDue left f0 f' w w' s
due_call None now roots lines n f0 f f' w w' (status.BadInput m kind) script k count up d = tt
due_call (Some bytes) None roots lines n f0 f f' w w' (status.BadInput m kind) script k count up d = absurd k
due_call (Some bytes) (Some rest) roots lines n f0 f f' w w' (status.BadInput m kind) script k count up d = calls_name bytes rest roots lines m kind script k
    (d.0 ∙ count) d.1
due_call left now roots lines n f0 f f' w w' status.ReadFault script k count up d = rose_before f0 f f' up d
due_call left now roots lines n f0 f f' w w' status.TooLong script k count up d = due_long left now (script_text roots lines) k d
due_call left now roots lines n f0 f f' w w' status.NoMemory script k count up d = tt
due_call left now roots lines n f0 f f' w w' status.Done script k count up d = absurd d
due_call left now roots lines n f0 f f' w w' status.Usage script k count up d = absurd d
due_call left now roots lines n f0 f f' w w' status.WriteFault script k count up d = absurd d

-- each line has a byte at least
few_lines : (lines : List (List ℕ)) → length lines ≤ length (lines_text lines)
few_lines [] = omega arith
few_lines (l ∷ ls) = omega (arith, few_lines ls, length-append (ended l) (lines_text ls), length-append l (10 ∷ []))

-- a script whose last line has the last number that a line can have
pub due_last : (left after : Option (List ℕ)) (roots : List RootStart) (lines : List ScriptLine) (n : ℕ) → Consumes left after (script_text roots lines)
    → n ≡ length roots + length lines + 2 → n + 1 ≡ 2 ^ 64 → IfSome left IsTooLong
due_last None after roots lines n k count last = tt
due_last (Some bytes) None roots lines n k count last = absurd k
due_last (Some bytes) (Some rest) roots lines n k count last =
    let all : length (script_text roots lines) ≡ length (lines_text (script_lines (roots, lines))) = ap length (script_text-lines roots lines) in
    let many = few_lines (script_lines (roots, lines)) in
    inr (omega (arith, last, count, length-script_lines roots lines, many, all, ap length k, length-append (script_text roots lines) rest))
