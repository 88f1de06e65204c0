-- A line that was taken, and why a run stops at one.
use Rattle.df_live.proofs.Names.{◌≡◌, ℕ, ◌<◌, List, [], ◌∷◌, ◌++◌, length, codes, Option, Some, None, IfSome, OnOk, OnErr, Result, Ok, Err, is_err, is_ok, true, false, if◌then◌else◌, refl, sym, ap, subst, ◌∙◌, arith, append_assoc, append-nil, length-append, true≢false, Consumes, Rose, longest_file, IsLine, ended, BadKind, IsCallLine, StopsAt, ScriptLine, HasLongLine, IsPartOfLine, IsBadCall, IsBadHead, IsLineDue, IsNoCall, IsTakenAs, ReadsCall, ReadsRoot, RefusesCall, RefusesHead, StopsLine, StopsTaking, TakesCall, TakesRoot, not_taken, NotTaken, Taken, LiveStatus, RootStart}
use Rattle.df_live.specs.Lines.{TakesAs}
use Rattle.df_live.specs.declared.lines.NotTaken.TheVariants as why
use Rattle.df_live.specs.declared.lines.Taken.TheVariants as taken
use Rattle.df_live.specs.declared.status.LiveStatus.TheVariants as status

-- what holds where a call is done or fails
pub if_done : {A E : Type 0} {P : Type 0} (r : Result A E) → is_err r ≡ false → OnOk r P → P
if_done (Ok u) is p = p
if_done (Err e) is p = absurd (true≢false is)

pub if_pushed : {A E X : Type 0} (r : Result A E) (new more same : List X) → is_err r ≡ false → new ≡ (if is_ok r then more else same) → new ≡ more
if_pushed (Ok u) new more same is p = p
if_pushed (Err e) new more same is p = absurd (true≢false is)

pub if_failed : {A E : Type 0} {P : Type 0} (r : Result A E) → is_err r ≡ true → OnErr r P → P
if_failed (Ok u) is p = absurd (true≢false (sym is))
if_failed (Err e) is p = p

-- what holds where a value is told
if_some : {A : Type 0} (P : A → Type 0) (o : Option A) → ((x : A) → o ≡ Some x → P x) → IfSome o P
if_some P None f = tt
if_some P (Some x) f = f x refl

-- why nothing was taken
pub stops_taking : (before now : ℕ) (line : List ℕ) (e : NotTaken) → (e ≡ why.TooLong → longest_file < length line) → (e ≡ why.Fault → Rose before now)
    → StopsTaking before now line (not_taken e)
stops_taking before now line why.Fault long rose = rose refl
stops_taking before now line why.TooLong long rose = long refl
stops_taking before now line why.NoMemory long rose = tt

-- ---- parts of a line

-- a line without its line feed
open_part : (line : List ℕ) → IsLine line → IsPartOfLine line
open_part line l = record { line = line; rest = 10 ∷ []; is_line = l; parts = refl }

-- a line with its line feed
pub ended_part : (line : List ℕ) → IsLine line → IsPartOfLine (ended line)
ended_part line l = record { line = line; rest = []; is_line = l; parts = sym (append-nil (ended line)) }

-- what was taken of the source
abbrev pub part_of : Taken → List ℕ → List ℕ
part_of taken.Line line = ended line
part_of taken.End line = line

is_part : (t : Taken) (line : List ℕ) → IsLine line → IsPartOfLine (part_of t line)
is_part taken.Line line l = ended_part line l
is_part taken.End line l = open_part line l

takes_part_of : (left after : Option (List ℕ)) (t : Taken) (line : List ℕ) → TakesAs left after line t → Consumes left after (part_of t line)
takes_part_of left after taken.Line line k = k
takes_part_of left after taken.End line k = k.0

-- ---- a bad line

-- a line that isn't one of these stands at what was left
stops_at : (Is : List ℕ → Type 0) (bytes : List ℕ) (after : Option (List ℕ)) (t : Taken) (line : List ℕ) → IsLine line → TakesAs (Some bytes) after line t
    → (t ≡ taken.Line → ¬ Is line) → StopsAt Is bytes line
stops_at Is bytes None taken.Line line l k isnt = absurd k
stops_at Is bytes None taken.End line l k isnt = absurd k.0
stops_at Is bytes (Some ys) taken.Line line l k isnt =
    record { behind = 10 ∷ ys; parts = k ∙ append_assoc line (10 ∷ []) ys; line = l; end = refl; refused = λ more e. isnt refl }
stops_at Is bytes (Some ys) taken.End line l k isnt =
    record { behind = []; parts = k.0 ∙ ap (λ (u : List ℕ). line ++ u) k.1; line = l; end = tt; refused = λ more e. cc }

-- a run stops at a bad line
stops_bad : (IsBad : List ℕ → BadKind → Type 0) (number : ℕ) (left after : Option (List ℕ)) (f f' : ℕ) (kind : BadKind) (t : Taken) (line : List ℕ)
    → IsLine line → TakesAs left after line t
    → ((bytes : List ℕ) → left ≡ Some bytes → IsBad bytes kind) → StopsLine IsBad number left after f f' (status.BadInput number kind)
stops_bad IsBad number left after f f' kind t line l k bad = record {
  part = part_of t line;
  of_one = is_part t line l;
  taken = takes_part_of left after t line k;
  due = (refl, if_some (λ bytes. IsBad bytes kind) left bad);
}

-- or for want of memory
stops_memory : (IsBad : List ℕ → BadKind → Type 0) (number : ℕ) (left after : Option (List ℕ)) (f f' : ℕ) (t : Taken) (line : List ℕ) → IsLine line
    → TakesAs left after line t
    → StopsLine IsBad number left after f f' status.NoMemory
stops_memory IsBad number left after f f' t line l k = record
    { part = part_of t line; of_one = is_part t line l; taken = takes_part_of left after t line k; due = tt }

-- a line that is too long is one of what was left
long_line : (left after : Option (List ℕ)) (line : List ℕ) → IsLine line → longest_file < length line → Consumes left after line → IfSome left HasLongLine
long_line None after line l long k = tt
long_line (Some bytes) None line l long k = absurd k
long_line (Some bytes) (Some ys) line l long k = record { before = []; line = line; behind = ys; parts = k; is_line = l; long = long }

-- or since none was taken
pub stops_untaken : (IsBad : List ℕ → BadKind → Type 0) (number : ℕ) (left after : Option (List ℕ)) (f f' : ℕ) (line : List ℕ) (s : LiveStatus) → IsLine line
    → Consumes left after line → StopsTaking f f' line s
    → StopsLine IsBad number left after f f' s
stops_untaken IsBad number left after f f' line s l k stops = record { part = line; of_one = open_part line l; taken = k; due = due s stops }
  where
    due : (s : LiveStatus) → StopsTaking f f' line s → IsLineDue IsBad number left f f' s
    due status.ReadFault stops = stops
    due status.TooLong stops = long_line left after line l stops k
    due status.NoMemory stops = tt
    due status.Done stops = absurd stops
    due status.Usage stops = absurd stops
    due status.WriteFault stops = absurd stops
    due (status.BadInput n kind) stops = absurd stops

-- ---- the start

pub stops_head : (Is : List ℕ → Type 0) (number : ℕ) (left after : Option (List ℕ)) (f f' : ℕ) (t : Taken) (line : List ℕ) (s : LiveStatus) → IsLine line
    → TakesAs left after line t
    → RefusesHead Is number t line s → StopsLine (IsBadHead Is) number left after f f' s
stops_head Is number left after f f' t line (status.BadInput n kind) l k r =
    subst (λ (m : ℕ). StopsLine (IsBadHead Is) number left after f f' (status.BadInput m kind)) (sym r.0)
    (stops_bad (IsBadHead Is) number left after f f' kind t line l k
    (λ bytes is. (r.1, (line, stops_at Is bytes after t line l (subst (λ (o : Option (List ℕ)). TakesAs o after line t) is k) r.2))))
stops_head Is number left after f f' t line status.NoMemory l k r = stops_memory (IsBadHead Is) number left after f f' t line l k
stops_head Is number left after f f' t line status.ReadFault l k r = absurd r
stops_head Is number left after f f' t line status.TooLong l k r = absurd r
stops_head Is number left after f f' t line status.Done l k r = absurd r
stops_head Is number left after f f' t line status.Usage l k r = absurd r
stops_head Is number left after f f' t line status.WriteFault l k r = absurd r

-- a line that was taken as this one
pub taken_as : (left after : Option (List ℕ)) (t : Taken) (line is : List ℕ) → TakesAs left after line t → IsTakenAs t line is → Consumes left after (ended is)
taken_as left after taken.Line line is k e = subst (λ (l : List ℕ). Consumes left after (ended l)) e.1 k
taken_as left after taken.End line is k e = absurd (cc)

pub takes_root : (number : ℕ) (left after : Option (List ℕ)) (t : Taken) (line : List ℕ) (o : Option RootStart) → IsLine line → TakesAs left after line t
    → ReadsRoot number t line o → TakesRoot number left after o
takes_root number left after t line None l k r = taken_as left after t line (codes "run") k r
takes_root number left after t line (Some root) l k r = (r.0, r.1, subst IsLine r.2.1 l, taken_as left after t line _ k r.2)

-- ---- calls

-- what is left isn't nothing
some_left : (bytes : List ℕ) (after : Option (List ℕ)) (t : Taken) (line : List ℕ) → TakesAs (Some bytes) after line t → IsNoCall t line → 0 < length bytes
some_left bytes None taken.Line line k none = absurd k
some_left bytes None taken.End line k none = absurd k.0
some_left bytes (Some ys) taken.Line line k none = omega (arith, ap length k, length-append (ended line) ys, length-append line (10 ∷ []))
some_left bytes (Some ys) taken.End line k some = omega (arith, some, ap length k.0, length-append line ys)

no_call : (t : Taken) (line : List ℕ) → IsNoCall t line → t ≡ taken.Line → ¬ IsCallLine line
no_call taken.Line line isnt is = isnt
no_call taken.End line isnt is = absurd (cc)

pub stops_call : (number : ℕ) (left after : Option (List ℕ)) (f f' : ℕ) (t : Taken) (line : List ℕ) (s : LiveStatus) → IsLine line → TakesAs left after line t
    → RefusesCall number t line s → StopsLine IsBadCall number left after f f' s
stops_call number left after f f' t line (status.BadInput n kind) l k r =
    subst (λ (m : ℕ). StopsLine IsBadCall number left after f f' (status.BadInput m kind)) (sym r.0)
    (stops_bad IsBadCall number left after f f' kind t line l k
    (λ bytes is.
    let here = subst (λ (o : Option (List ℕ)). TakesAs o after line t) is k in
    (some_left bytes after t line here r.1, (line, stops_at IsCallLine bytes after t line l here (no_call t line r.1), r.2))))
stops_call number left after f f' t line status.NoMemory l k r = stops_memory IsBadCall number left after f f' t line l k
stops_call number left after f f' t line status.ReadFault l k r = absurd r
stops_call number left after f f' t line status.TooLong l k r = absurd r
stops_call number left after f f' t line status.Done l k r = absurd r
stops_call number left after f f' t line status.Usage l k r = absurd r
stops_call number left after f f' t line status.WriteFault l k r = absurd r

pub takes_call : (left after : Option (List ℕ)) (t : Taken) (line : List ℕ) (o : Option ScriptLine) → TakesAs left after line t → ReadsCall t line o
    → TakesCall left after line o
takes_call left after taken.Line line None k r = absurd (cc)
takes_call left after taken.End line None k r = (subst (λ (l : List ℕ). Consumes left after l) r.1 k.0, k.1)
takes_call left after taken.Line line (Some call) k r = (r.0, r.1.1, k)
takes_call left after taken.End line (Some call) k r = absurd (let e : taken.End ≡ taken.Line = r.1.0 in cc)
