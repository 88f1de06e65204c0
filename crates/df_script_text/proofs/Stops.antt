-- Where reading a script stops, there is its first bad line.
use Rattle.df_script_text.proofs.Names.{◌≡◌, ℕ, ◌+◌, ◌<◌, ◌↔◌, ◌⊎◌, List, [], ◌∷◌, ◌++◌, length, length-drop, drop, None, Some, Err, Ok, refl, sym, ap, subst, ◌∙◌, inl, inr, arith, true, false, append-nil, append_assoc, append_cancel_left, length-append, zero-add, All, flat_map, flat_map_more, lit<, All-nil, All-cons, All-head, All-tail, All-push, begins_with, IsLine, ended, lines_text, names_line, IsRoot, IsLargeCalled, root_text, start_text, RootStart, HasReadUpTo, IsScriptLine, IsScriptText, script_line, script_text, call_line, numbered, ArePassed, AreRootsAt, CallsFrom, HeadFrom, IsCallLine, IsFirstAt, RootsStop, StopsAt, StopsBy, StopsCall, StopsFirst, TellsRoot, fault_of, ScriptLine, NamesBadLine, FileFault, IsTooLargeIn, IsNoLine, Root, Begins, IsFed, IsKind, IsRow, IsStop, Leads, Like, leads, leads_as, leads_on, row_leads, row_some, row_stop, stop_here, stops_as, unended}
use Rattle.df_lines.specs.code.Stops.{IsSpelled}
use Rattle.df_lines.specs.code.Faults.{TellsLine, refusal}
use Rattle.df_lines.specs.declared.refused.BadKind.{BadKind}
use Rattle.df_lines.specs.declared.refused.BadKind.TheVariants.{Syntax, TooLarge}
use Rattle.df_lines.specs.declared.refused.FileRefused.{FileRefused}
use Rattle.df_journal_text.specs.declared.line_fault.LineFault.{LineFault}
use Rattle.df_lines.specs.declared.refused.FileRefused.TheVariants as refused
use Rattle.df_lines.specs.declared.fault.FileFault.TheVariants as fault
use Rattle.df_journal_text.specs.code.Judging.{TellsLine as Told}
use Rattle.df_journal_text.specs.declared.line_fault.LineFault.TheVariants as line_fault
use Rattle.df_unit.specs.declared.call.Call.TheVariants.{Get}
use Rattle.df_script_text.proofs.Calls.{Avoids-call}
use Rattle.df_script_text.proofs.Files.{IsLine-first, run, first, regroup, roots_stand, roots_text-numbered}
use Rattle.df_script_text.proofs.Heads.{heads_lead, heads_stop}
use Rattle.df_script_text.proofs.Numbered.{numbered-push}
use Rattle.df_script_text.proofs.ScriptLines.{made_small}

-- ---- loops

pub roots_more : (bytes : List ℕ) (at place : ℕ) (rs ss : List RootStart) (r : RootStart) (next n : ℕ) → n ≡ length rs → ArePassed bytes at rs place
    → TellsRoot n bytes place (Some (r, next)) → ss ≡ rs ++ r ∷ [] → ArePassed bytes at ss next
roots_more bytes at place rs ss r next n is a t pushed =
    let lines : List (List ℕ) = numbered root_text 0 rs in
    let more = ap (λ (k : ℕ). lines ++ root_text k r ∷ []) (is ∙ sym (zero-add (length rs))) ∙ sym (numbered-push root_text 0 rs r) in
    subst (λ (ss : List RootStart). ArePassed bytes at ss next) (sym pushed) (record {
      inside = t.2;
      few = omega (arith, t.0, is, length-append rs (r ∷ []));
      fit = All-push IsRoot rs r a.fit t.3;
      text =
          a.text ∙ ap (λ (u : List ℕ). lines_text lines ++ u) t.4 ∙ sym (append_assoc (lines_text lines) (ended (root_text n r)) (drop next bytes))
          ∙ ap (λ (u : List ℕ). u ++ drop next bytes) (flat_map_more ended [] lines (root_text n r) ∙ ap lines_text more);
    })

-- ---- calls

-- whatever stands in front, a value in the line of a call is too large
abbrev IsLargeCall : List (List ℕ) → List ℕ → Type 0
IsLargeCall before bad = IsLargeCalled bad

-- none, or one in front of more
first_call : (u : List ℕ) (ls : List ScriptLine) → All IsScriptLine ls → u ≡ flat_map script_line ls
    → (u ≡ []) ⊎ ((l : ScriptLine) × (rest : List ℕ) × IsScriptLine l × CallsFrom rest × (u ≡ script_line l ++ rest))
first_call u [] f e = inl e
first_call u (l ∷ ls) f e = inr (l, _, All-head IsScriptLine l ls f, (ls, All-tail IsScriptLine l ls f, refl), e)

abbrev calls_row : IsRow script_line IsScriptLine CallsFrom (λ _. CallsFrom) (λ u. u ≡ [])
calls_row = record {
  feeds = λ l f. record { line = call_line l; free = Avoids-call l f; is = refl };
  from = λ u t. first_call u t.0 t.1 t.2;
  to = λ l u f t. (l ∷ t.0, All-cons IsScriptLine l t.0 f t.1, ap (λ (v : List ℕ). script_line l ++ v) t.2);
  apart = λ l u f e. omega (arith, ap length e, length-append (script_line l) u, length-append (call_line l) (10 ∷ []));
  same = λ l m f g e u t. t;
  some = λ l f. ([], ([], All-nil IsScriptLine, refl));
  one = (record { actor = Root (0 ∷ []); call = Get }, ((lit< tt, tt), tt));
}

calls_lead : (ls : List ScriptLine) (t : List ℕ) → All IsScriptLine ls
    → Leads CallsFrom IsLargeCall (flat_map script_line ls ++ t) CallsFrom IsLargeCall t
calls_lead [] t f left kind s = s
calls_lead (l ∷ ls) t f left kind s =
    leads_as (append_assoc (script_line l) (flat_map script_line ls) t)
    (row_leads calls_row l (All-head IsScriptLine l ls f) (λ before bad. (λ h. h, λ h. h)) _) left kind
    (calls_lead ls t (All-tail IsScriptLine l ls f) left kind s)

-- where bytes are left, a text that begins like them isn't empty
some_left : (here : List ℕ) → 0 < length here → (u : List ℕ) → Like (λ _. ⊥) u here → ¬ (u ≡ [])
some_left here some u (inl e) none = omega (arith, some, ap length (sym e ∙ none))
some_left here some u (inr (inl f)) none = omega (arith, ap length (sym f.4 ∙ none), length-append f.0 (10 ∷ f.1))
some_left here some u (inr (inr f)) none = f.3

-- a line that is none of a call is bad
call_bad : (bytes : List ℕ) (at place : ℕ) → place ≡ at → at < length bytes → (bad : List ℕ) → StopsAt IsCallLine (drop at bytes) bad
    → (kind : BadKind) → IsKind kind (IsLargeCalled bad) → IsStop CallsFrom IsLargeCall (drop at bytes) (drop place bytes) kind
call_bad bytes at place is some bad s kind told =
    subst (λ (p : ℕ). IsStop CallsFrom IsLargeCall (drop at bytes) (drop p bytes) kind) (sym is)
    (row_stop calls_row (λ _. ⊥) (drop at bytes) (some_left (drop at bytes) (omega (arith, some, length-drop at bytes))) bad
    (stops_as {Is = IsSpelled script_line IsScriptLine} (λ k. (k.0, k.1, unended bad (call_line k.0) k.2)) s) kind told)

call_stop : (bytes : List ℕ) (at : ℕ) (f : FileFault) → StopsCall bytes at f → StopsBy CallsFrom IsLargeCall bytes at f
call_stop bytes at fault.NoMemory s = tt
call_stop bytes at (fault.Bad place) s = (omega (arith, s.0, s.1), call_bad bytes at place s.0 s.1 s.2.0 s.2.1 Syntax s.2.2)
call_stop bytes at (fault.TooLarge place) s = (omega (arith, s.0, s.1), call_bad bytes at place s.0 s.1 s.2.0 s.2.1 TooLarge s.2.2)

-- ---- where a value is too large

-- not in the first line
large_first : (bad : List ℕ) → ¬ IsTooLargeIn [] bad
large_first bad l = let n = length-append l.0.0 (run ∷ l.0.1) in omega (arith, ap length l.0.2, n)

-- behind another line than `run` as behind those in front of it
large_past : (l : List ℕ) → begins_with 114 l ≡ false → (before : List (List ℕ)) (bad : List ℕ)
    → IsTooLargeIn before bad ↔ IsTooLargeIn (l ∷ before) bad
large_past l other before bad =
    (λ g. ((l ∷ g.0.0, g.0.1, ap (λ (m : List (List ℕ)). l ∷ m) g.0.2), g.1), λ g. (cut g.0.0 g.0.1 g.0.2, g.1))
  where
    cut : (head calls : List (List ℕ)) → l ∷ before ≡ head ++ run ∷ calls → (head calls : List (List ℕ)) × (before ≡ head ++ run ∷ calls)
    cut [] calls e = absurd (let same : l ≡ run = cc in let no : true ≡ false = ap (begins_with 114) (sym same) ∙ other in cc)
    cut (h ∷ head) calls e = (head, calls, cc)

-- behind `run` as in the line of a call
large_run : (before : List (List ℕ)) (bad : List ℕ) → IsLargeCalled bad ↔ IsTooLargeIn (run ∷ before) bad
large_run before bad = (λ l. (([], before, refl), l), λ l. l.1)

-- ---- the first line

-- a script in other groups
groups : (rs : List RootStart) (ls : List ScriptLine) → script_text rs ls ≡ ended first ++ (start_text rs ++ (ended run ++ flat_map script_line ls))
groups rs ls =
    append_assoc (ended first ++ start_text rs) (ended run) (flat_map script_line ls)
    ∙ append_assoc (ended first) (start_text rs) (ended run ++ flat_map script_line ls)

behind_first : (u : List ℕ) → IsScriptText (ended first ++ u) → HeadFrom CallsFrom 0 u
behind_first u (rs, ls, f, e) =
    (rs, _, omega (arith, f.0.0), f.0.1, (ls, f.1, refl), append_cancel_left (ended first) u _ (e ∙ groups rs ls))

with_first : (u : List ℕ) → HeadFrom CallsFrom 0 u → IsScriptText (ended first ++ u)
with_first u (rs, rest, few, fit, (ls, calls, is), e) =
    let text = e ∙ ap (λ (v : List ℕ). start_text rs ++ (ended run ++ v)) is in
    (rs, ls, ((omega (arith, few), fit), calls), ap (λ (v : List ℕ). ended first ++ v) text ∙ sym (groups rs ls))

first_leads : (t : List ℕ) → Leads IsScriptText IsTooLargeIn (ended first ++ t) (HeadFrom CallsFrom 0) IsTooLargeIn t
first_leads t =
    let l : IsFed (ended first) = record { line = first; free = IsLine-first; is = refl } in
    leads l behind_first with_first (large_past first refl) t

no_script : Begins IsScriptText []
no_script = (script_text [] [], ([], [], ((lit< tt, All-nil IsRoot), All-nil IsScriptLine), refl))

pub first_stop : (bytes : List ℕ) (f : FileFault) → StopsFirst bytes f → StopsBy IsScriptText IsTooLargeIn bytes 0 f
first_stop bytes fault.NoMemory s = tt
first_stop bytes (fault.Bad place) s =
    subst (λ (p : ℕ). StopsBy IsScriptText IsTooLargeIn bytes 0 (fault.Bad p)) (sym s.0) (
      omega arith,
      stop_here (λ _. ⊥) IsScriptText (λ line. line ≡ first) bytes
          (λ u like t. (first, _, IsLine-first, refl, t.3 ∙ groups t.0 t.1 ∙ append_assoc first (10 ∷ []) _)) no_script s.1.0 s.1.1 Syntax
          (large_first s.1.0),
    )
first_stop bytes (fault.TooLarge place) s = absurd s

-- ---- behind the first line

pub roots_stop : (bytes : List ℕ) (at : ℕ) (f : FileFault) → IsFirstAt bytes at → RootsStop bytes at f → StopsBy IsScriptText IsTooLargeIn bytes 0 f
roots_stop bytes at f i s =
    leads_on bytes 0 at (leads_as i.1 (first_leads (drop at bytes))) f
    (heads_stop CallsFrom (row_some calls_row) (λ _. IsTooLargeIn) IsLargeCall (λ n few r f. large_past (root_text n r) refl) (λ n few. large_run)
    (λ n few. large_first) bytes at f s)

pub calls_stop : (bytes : List ℕ) (rs : List RootStart) (ls : List ScriptLine) (place : ℕ) (f : FileFault) → HasReadUpTo bytes rs ls place
    → StopsCall bytes place f → StopsBy IsScriptText IsTooLargeIn bytes 0 f
calls_stop bytes rs ls place f h s =
    let t : List ℕ = drop place bytes in
    let calls : List ℕ = flat_map script_line ls ++ t in
    let text = h.text ∙ regroup (ended first) (start_text rs) (ended run) (flat_map script_line ls) t
    ∙ ap (λ (u : List ℕ). ended first ++ (u ++ (ended run ++ calls))) (roots_text-numbered 0 rs) in
    let heads = heads_lead CallsFrom (row_some calls_row) (λ _. IsTooLargeIn) IsLargeCall (λ n few r f. large_past (root_text n r) refl)
    (λ n few. large_run) (λ n few. large_first) rs calls h.script.0.0 h.script.0.1 in
    leads_on bytes 0 place
    (leads_as text (λ left kind k. first_leads _ left kind (heads left kind (calls_lead ls t h.script.1 left kind k)))) f (call_stop bytes place f s)

-- why the next call isn't read, as it is told to callers
pub calls_refused : (bytes : List ℕ) (rs : List RootStart) (ls : List ScriptLine) (place : ℕ) (f : FileFault) (r : FileRefused)
    → r ≡ refusal bytes f → HasReadUpTo bytes rs ls place → StopsCall bytes place f
    → NamesBadLine IsScriptText IsTooLargeIn bytes r
calls_refused bytes rs ls place f r is h s =
    subst (λ (r : FileRefused). NamesBadLine IsScriptText IsTooLargeIn bytes r) (sym is)
    (names_line IsScriptText IsTooLargeIn bytes f (calls_stop bytes rs ls place f h s))

-- ---- one line

-- a line without line feed is bad
pub open_stop : (Is : List ℕ → Type 0) (bytes : List ℕ) → IsLine bytes → StopsAt Is bytes bytes
open_stop Is bytes line = record { behind = []; parts = sym (append-nil bytes); line = line; end = tt; refused = λ more e. cc }

-- of a line no call is read
unread : (bytes : List ℕ) (at : ℕ) (line : List ℕ) → at < length bytes → (IsNoLine script_line IsScriptLine line → StopsAt IsCallLine (drop at bytes) line)
    → (f : LineFault) → Told script_line IsScriptLine IsLargeCalled line (Err f) → StopsCall bytes at (fault_of at f)
unread bytes at line some stop line_fault.NoMemory t = tt
unread bytes at line some stop line_fault.Syntax t = (refl, some, (line, stop t.0, t.1))
unread bytes at line some stop line_fault.TooLarge t = (refl, some, (line, stop t.0, t.1))

pub open_call : (bytes : List ℕ) (at : ℕ) → at < length bytes → IsLine (drop at bytes) → (l : ScriptLine)
    → Told script_line IsScriptLine IsLargeCalled (drop at bytes) (Ok l) → StopsCall bytes at (fault.Bad at)
open_call bytes at some line l t = (refl, some, (drop at bytes, open_stop IsCallLine (drop at bytes) line, made_small (drop at bytes) l t.0 t.1))

pub open_unread : (bytes : List ℕ) (at : ℕ) → at < length bytes → IsLine (drop at bytes) → (f : LineFault)
    → Told script_line IsScriptLine IsLargeCalled (drop at bytes) (Err f) → StopsCall bytes at (fault_of at f)
open_unread bytes at some line = unread bytes at (drop at bytes) some (λ _. open_stop IsCallLine (drop at bytes) line)

-- a line is bad where no call is spelled so
pub line_unread : (bytes : List ℕ) (at : ℕ) (line : List ℕ) (next : ℕ) → TellsLine bytes at (Some (line, next))
    → (f : LineFault) → Told script_line IsScriptLine IsLargeCalled line (Err f) → StopsCall bytes at (fault_of at f)
line_unread bytes at line next l = unread bytes at line (omega (arith, l.1, l.2)) (λ none.
    record { behind = 10 ∷ drop next bytes; parts = l.3; line = l.0; end = refl; refused = λ more e k. none k.0 k.1 (ap ended k.2) })

-- a line with its line feed, and what stands behind it
line_is : (bytes : List ℕ) (at : ℕ) (line : List ℕ) (next : ℕ) → TellsLine bytes at (Some (line, next)) → drop at bytes ≡ ended line ++ drop next bytes
line_is bytes at line next l = l.3 ∙ sym (append_assoc line (10 ∷ []) (drop next bytes))

-- the line `run`
pub run_at : (bytes : List ℕ) (at : ℕ) (line : List ℕ) (next : ℕ) → line ≡ run → TellsLine bytes at (Some (line, next)) → TellsRoot 0 bytes at None
run_at bytes at line next is l =
    let e : drop at bytes ≡ run ++ 10 ∷ drop next bytes = l.3 ∙ ap (λ (u : List ℕ). u ++ 10 ∷ drop next bytes) is in
    let n : next ≡ at + 4 = omega (arith, l.1, l.2, ap length e, length-drop at bytes, length-drop next bytes) in
    (omega (arith, n, l.2), e ∙ ap (λ (k : ℕ). run ++ 10 ∷ drop k bytes) n)

-- ---- scripts up to a place

pub start_read : (bytes : List ℕ) (at : ℕ) (rs : List RootStart) (mid : ℕ) → IsFirstAt bytes at → AreRootsAt bytes at rs mid
    → HasReadUpTo bytes rs [] mid
start_read bytes at rs mid i r = record {
  inside = r.inside;
  script = ((r.passed.few, r.passed.fit), All-nil IsScriptLine);
  text =
      i.1 ∙ ap (λ (u : List ℕ). ended first ++ u) (roots_stand bytes at rs mid r)
      ∙ sym (regroup (ended first) (start_text rs) (ended run) [] (drop mid bytes));
}

-- one more call
pub call_read : (bytes : List ℕ) (rs : List RootStart) (ls : List ScriptLine) (l : ScriptLine) (place : ℕ) (line : List ℕ) (next : ℕ)
    → HasReadUpTo bytes rs ls place → TellsLine bytes place (Some (line, next)) → Told script_line IsScriptLine IsLargeCalled line (Ok l)
    → HasReadUpTo bytes rs (ls ++ l ∷ []) next
call_read bytes rs ls l place line next h t read = record {
  inside = t.2;
  script = (h.script.0, All-push IsScriptLine ls l h.script.1 read.0);
  text =
      h.text ∙ ap (λ (u : List ℕ). script_text rs ls ++ u) (line_is bytes place line next t ∙ ap (λ (u : List ℕ). u ++ drop next bytes) read.1)
      ∙ sym (append_assoc (script_text rs ls) (script_line l) (drop next bytes))
      ∙ ap (λ (u : List ℕ). u ++ drop next bytes) (flat_map_more script_line (ended first ++ start_text rs ++ ended run) ls l);
}

-- what is a script is refused only for want of memory
pub only_refused : (bytes : List ℕ) (r : FileRefused) → NamesBadLine IsScriptText IsTooLargeIn bytes r → IsScriptText bytes → r ≡ refused.NoMemory
only_refused bytes refused.NoMemory names t = refl
only_refused bytes (refused.Syntax line) names t = absurd (names.2.first.none t)
only_refused bytes (refused.TooLarge line) names t = absurd (names.2.first.none t)
