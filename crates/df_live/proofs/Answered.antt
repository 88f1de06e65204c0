-- What was taken and written at each moment of a run.
use Rattle.df_live.proofs.Names.{◌≡◌, ℕ, ◌+◌, ◌^◌, ◌≤◌, List, [], ◌∷◌, ◌++◌, length, take, codes, Option, Some, None, option_map, refl, sym, ap, subst, ◌∙◌, append_assoc, append-nil, inl, inr, eqb, false, Consumes, flat_map-append, All-from_recursion, All-nil, All-push, Rose, line, head_text, start_text, IsLine, ended, lines_text, IsScript, IsScriptLine, script_line, script_text, call_line, head_lines, ScriptLine, RootStart, AppendsStep, Records, RecordsScript, journal_of, AnswersAll, AnswersScript, IsDue, IsPartOfLine, Leaves, AnswersCall, HasAnswered, IsBadCall, IsLineDue, IsReading, Stops, StopsAnswer, StopsHead, StopsLine, TakesCall, TakesStart, LiveStatus}
use Rattle.std.specs.List.{flat_map}
use Rattle.df_io.specs.Pieces.{HasAll, HasFront}
use Rattle.df_machine.specs.Journal.{State}
use Rattle.df_machine.specs.Tables.{AgreesWith}
use Rattle.df_machine.specs.declared.tables.Tables.{Tables}
use Rattle.df_steps.proofs.Journals.{written_more}
use Rattle.df_steps.specs.code.Written.{IsWritten}
use Rattle.df_steps.proofs.Sound.{journal_is_sound, journal_is_unaided}
use Rattle.df_live.proofs.Parts.{consumes-consumes, consumes-none}
use Rattle.df_live.proofs.Starts.{due_call, due_last, head_is, rose_before, start_lines}
use Rattle.df_live.proofs.Taking.{ended_part}
use Rattle.df_live.specs.declared.status.LiveStatus.TheVariants as status

-- ---- what was written

-- nothing more
pub has_nothing : (w : Option (List ℕ)) → HasAll w [] w
has_nothing None = refl
has_nothing (Some x) = ap Some (sym (append-nil x))

-- one text and then another
pub has_more : (a b c : Option (List ℕ)) (front more : List ℕ) → HasAll a front b → HasAll b more c → HasAll a (front ++ more) c
has_more None b c front more e f = f ∙ ap (option_map (λ w. w ++ more)) e
has_more (Some x) b c front more e f = f ∙ ap (option_map (λ w. w ++ more)) e ∙ ap Some (append_assoc x front more)

-- ---- journals

-- the journal of a script is what `steps` writes
records : (roots : List RootStart) (lines : List ScriptLine) (text : List ℕ) → IsScript roots lines → Records roots lines text
    → RecordsScript (script_text roots lines) text
records roots lines text script is = (roots, lines, script, refl, is, journal_is_unaided roots lines, journal_is_sound roots lines)

-- the text of a script of one more call
more_text : (roots : List RootStart) (lines : List ScriptLine) (l : ScriptLine)
    → script_text roots (lines ++ l ∷ []) ≡ script_text roots lines ++ ended (call_line l)
more_text roots lines l =
    let front : List ℕ = line (codes "defcon-script") (codes "1" ∷ []) ++ start_text roots ++ line (codes "run") [] in
    ap (λ (u : List ℕ). front ++ u)
    (flat_map-append script_line lines (l ∷ []) ∙ ap (λ (u : List ℕ). flat_map script_line lines ++ u) (append-nil (ended (call_line l))))
    ∙ sym (append_assoc front (flat_map script_line lines) (ended (call_line l)))

-- ---- the start

-- a run that stops before the start is whole
pub stops_head_stops : (left after old : Option (List ℕ)) (f f' w w' : ℕ) (s : LiveStatus) → StopsHead left after f f' s → Stops left after old old f f' w w' s
stops_head_stops left after old f f' w w' s h = by s h.reading (h.due w w')
  where
    all : AnswersAll left after old old
    all = record { lines = h.lines; part = h.part; text = []; taken = h.taken; of_one = h.of_one; answer = inl (h.begins, refl); written = has_nothing old }

    by : (s : LiveStatus) → IsReading s → IsDue left f f' w w' s → Stops left after old old f f' w w' s
    by (status.BadInput n kind) r d = (r, all, d)
    by status.ReadFault r d = (r, all, d)
    by status.TooLong r d = (r, all, d)
    by status.NoMemory r d = (r, all, d)
    by status.Done r d = absurd r
    by status.Usage r d = absurd r
    by status.WriteFault r d = absurd r

-- the line `run` has no line feed
IsLine-run : IsLine (codes "run")
IsLine-run = All-from_recursion (λ b. eqb b 10 ≡ false) (codes "run") (refl, (refl, (refl, tt)))

-- the lines of a start were taken, and the line `run`
taken_start : (left after : Option (List ℕ)) (roots : List RootStart) → TakesStart left after roots
    → Consumes left after (lines_text (head_lines roots) ++ ended (codes "run"))
taken_start left after roots t = subst (λ (u : List ℕ). Consumes left after u) (start_lines roots) t.1

-- there was no memory to answer a start
pub start_unanswered : (left after old : Option (List ℕ)) (f f' w w' : ℕ) (roots : List RootStart) → TakesStart left after roots
    → Stops left after old old f f' w w' status.NoMemory
start_unanswered left after old f f' w w' roots t = (
  tt,
  record {
    lines = lines_text (head_lines roots);
    part = ended (codes "run");
    text = [];
    taken = taken_start left after roots t;
    of_one = ended_part (codes "run") IsLine-run;
    answer = inl (inr (roots, t.0, head_is roots), refl);
    written = has_nothing old;
  },
  tt,
)

-- the head of a journal is the journal of no call
head_records : (roots : List RootStart) → Records roots [] (head_text roots)
head_records roots = sym (append-nil (head_text roots))

-- a front of the answer to a start was written
pub start_broken : (left after old new : Option (List ℕ)) (f f' w w' : ℕ) (roots : List RootStart) (text : List ℕ) → text ≡ head_text roots
    → TakesStart left after roots → HasFront old text new → Rose w w' → Stops left after old new f f' w w' status.WriteFault
start_broken left after old new f f' w w' roots text is t front rose = (
  record {
    lines = lines_text (head_lines roots);
    last = codes "run";
    text = [];
    more = text;
    count = front.0;
    taken = taken_start left after roots t;
    one = IsLine-run;
    answer = inl (inr (roots, t.0, head_is roots), refl);
    next = inr (subst (λ (u : List ℕ). RecordsScript u text) (start_lines roots) (records roots [] text (t.0, All-nil IsScriptLine) (is ∙ head_records roots)));
    within = front.1;
    written = front.2;
  },
  rose,
)

-- the answer to a start was written
pub start_answered : (left after old new : Option (List ℕ)) (roots : List RootStart) (tables : Tables) (text : List ℕ) → text ≡ head_text roots
    → AgreesWith (roots, []) tables → TakesStart left after roots → HasAll old text new → HasAnswered roots [] left after old new tables
start_answered left after old new roots tables text is made t all =
    record { text = text; script = (t.0, All-nil IsScriptLine); taken = t.1; made = made; records = is ∙ head_records roots; written = all }

-- ---- calls

-- the tables and their text after one more call
more_written : (roots : List RootStart) (lines : List ScriptLine) (l : ScriptLine) (old new : Tables) (text more : List ℕ)
    → AgreesWith (roots, journal_of roots lines) old → Records roots lines text → AppendsStep l (roots, journal_of roots lines) new [] more
    → IsWritten roots (lines ++ l ∷ []) new (text ++ more)
more_written roots lines l old new text more made is step =
    written_more roots lines l old new text (text ++ more) (record { made = made; text = is })
    (record { made = step.made; text = ap (λ (u : List ℕ). text ++ u) step.text })

-- what a step appended to no text is what is written
pub step_written : (l : ScriptLine) (core : State) (tables : Tables) (before now bytes : List ℕ) → before ≡ [] → bytes ≡ now
    → AppendsStep l core tables before now → AppendsStep l core tables [] bytes
step_written l core tables before now bytes none same step =
    subst (λ (more : List ℕ). AppendsStep l core tables [] more) (sym same) (subst (λ (front : List ℕ). AppendsStep l core tables front now) none step)

-- a call was taken behind those that are answered
more_taken : (left mid after : Option (List ℕ)) (roots : List RootStart) (lines : List ScriptLine) (l : ScriptLine) (words : List ℕ)
    → Consumes left mid (script_text roots lines) → words ≡ call_line l → Consumes mid after (ended words)
    → Consumes left after (script_text roots lines ++ ended (call_line l))
more_taken left mid after roots lines l words k is taken = consumes-consumes left mid after (script_text roots lines) (ended (call_line l)) k
    (subst (λ (u : List ℕ). Consumes mid after (ended u)) is taken)

-- one more call is answered
pub call_answered : (roots : List RootStart) (lines : List ScriptLine) (left mid after old part new : Option (List ℕ)) (tables tables' : Tables) (l : ScriptLine) (words : List ℕ)
    → HasAnswered roots lines left mid old part tables → TakesCall mid after words (Some l)
    → AnswersCall l (roots, journal_of roots lines) tables' part new → HasAnswered roots (lines ++ l ∷ []) left after old new tables'
call_answered roots lines left mid after old part new tables tables' l words h t a =
    let made = more_written roots lines l tables tables' h.text a.0 h.made h.records a.1 in
    record {
      text = h.text ++ a.0;
      script = (h.script.0, All-push IsScriptLine lines l h.script.1 t.0);
      taken = subst (λ (u : List ℕ). Consumes left after u) (sym (more_text roots lines l)) (more_taken left mid after roots lines l words h.taken t.1 t.2);
      made = made.made;
      records = made.text;
      written = has_more old part new h.text a.0 h.written a.2;
    }

-- all that was taken is answered, but for a part of a line
all_but : (roots : List RootStart) (lines : List ScriptLine) (left mid after old new : Option (List ℕ)) (tables : Tables) (part : List ℕ)
    → HasAnswered roots lines left mid old new tables → IsPartOfLine part → Consumes mid after part → AnswersAll left after old new
all_but roots lines left mid after old new tables part h of_one k = record {
  lines = script_text roots lines;
  part = part;
  text = h.text;
  taken = consumes-consumes left mid after (script_text roots lines) part h.taken k;
  of_one = of_one;
  answer = inr (records roots lines h.text h.script h.records);
  written = h.written;
}

-- a run that stops where it takes a call
pub stops_line_stops : (roots : List RootStart) (lines : List ScriptLine) (left mid after old new : Option (List ℕ)) (tables : Tables) (f0 f f' w w' n : ℕ) (s : LiveStatus)
    → HasAnswered roots lines left mid old new tables → n ≡ length roots + length lines + 3 → f0 ≤ f → StopsLine IsBadCall n mid after f f' s
    → Stops left after old new f0 f' w w' s
stops_line_stops roots lines left mid after old new tables f0 f f' w w' n s h count up stop =
    by s stop.due (due_call left mid roots lines n f0 f f' w w' s h.script h.taken count up stop.due)
  where
    all : AnswersAll left after old new
    all = all_but roots lines left mid after old new tables stop.part h stop.of_one stop.taken

    by : (s : LiveStatus) → IsLineDue IsBadCall n mid f f' s → IsDue left f0 f' w w' s → Stops left after old new f0 f' w w' s
    by (status.BadInput m kind) d due = (tt, all, due)
    by status.ReadFault d due = (tt, all, due)
    by status.TooLong d due = (tt, all, due)
    by status.NoMemory d due = (tt, all, due)
    by status.Done d due = absurd d
    by status.Usage d due = absurd d
    by status.WriteFault d due = absurd d

-- a run that stops where it answers a call
pub stops_answer_stops : (roots : List RootStart) (lines : List ScriptLine) (left mid after old part new : Option (List ℕ)) (tables tables' : Tables) (l : ScriptLine) (words : List ℕ) (f f' w0 w w' : ℕ) (s : LiveStatus)
    → HasAnswered roots lines left mid old part tables
    → IsLine words → TakesCall mid after words (Some l) → w0 ≤ w → StopsAnswer l (roots, journal_of roots lines) tables' part new w w' s → Stops left after old new f f' w0 w' s
stops_answer_stops roots lines left mid after old part new tables tables' l words f f' w0 w w' status.NoMemory h line t up stop = (
  tt,
  subst (λ (o : Option (List ℕ)). AnswersAll left after old o) (sym stop)
      (all_but roots lines left mid after old part tables (ended words) h (ended_part words line) t.2),
  tt,
)
stops_answer_stops roots lines left mid after old part new tables tables' l words f f' w0 w w' status.WriteFault h line t up stop =
    let made = more_written roots lines l tables tables' h.text stop.1.0 h.made h.records stop.1.1 in
    let front = stop.1.2 in (
      record {
        lines = script_text roots lines;
        last = call_line l;
        text = h.text;
        more = stop.1.0;
        count = front.0;
        taken = more_taken left mid after roots lines l words h.taken t.1 t.2;
        one = subst IsLine t.1 line;
        answer = inr (records roots lines h.text h.script h.records);
        next = inr (subst (λ (u : List ℕ). RecordsScript u (h.text ++ stop.1.0)) (more_text roots lines l)
            (records roots (lines ++ l ∷ []) (h.text ++ stop.1.0) (h.script.0, All-push IsScriptLine lines l h.script.1 t.0) made.text));
        within = front.1;
        written = has_more old part new h.text (take front.0 stop.1.0) h.written front.2;
      },
      rose_before w0 w w' up stop.0,
    )
stops_answer_stops roots lines left mid after old part new tables tables' l words f f' w0 w w' (status.BadInput m kind) h line t up stop = absurd stop
stops_answer_stops roots lines left mid after old part new tables tables' l words f f' w0 w w' status.ReadFault h line t up stop = absurd stop
stops_answer_stops roots lines left mid after old part new tables tables' l words f f' w0 w w' status.TooLong h line t up stop = absurd stop
stops_answer_stops roots lines left mid after old part new tables tables' l words f f' w0 w w' status.Done h line t up stop = absurd stop
stops_answer_stops roots lines left mid after old part new tables tables' l words f f' w0 w w' status.Usage h line t up stop = absurd stop

-- a script whose last line has the last number that a line can have
pub stops_last : (roots : List RootStart) (lines : List ScriptLine) (left after old new : Option (List ℕ)) (tables : Tables) (f f' w w' n : ℕ)
    → HasAnswered roots lines left after old new tables → n ≡ length roots + length lines + 2 → n + 1 ≡ 2 ^ 64 → Stops left after old new f f' w w' status.TooLong
stops_last roots lines left after old new tables f f' w w' n h count last = (
  tt,
  all_but roots lines left after after old new tables [] h (record { line = []; rest = 10 ∷ []; is_line = All-nil (λ b. eqb b 10 ≡ false); parts = refl })
      (consumes-none after),
  due_last left after roots lines n h.taken count last,
)

-- all was taken and answered
pub all_answered : (roots : List RootStart) (lines : List ScriptLine) (left mid after old new : Option (List ℕ)) (tables : Tables) (words : List ℕ)
    → HasAnswered roots lines left mid old new tables → TakesCall mid after words None → AnswersScript left after old new
all_answered roots lines left mid after old new tables words h t = record {
  script = script_text roots lines;
  text = h.text;
  taken = subst (λ (u : List ℕ). Consumes left after u) (append-nil (script_text roots lines))
      (consumes-consumes left mid after (script_text roots lines) [] h.taken t.0);
  end = t.1;
  records = records roots lines h.text h.script h.records;
  written = h.written;
}

-- ---- the end

-- a run that stops leaves what it has to, and is due
pub stops_ends : (left after old new : Option (List ℕ)) (f f' w w' : ℕ) (s : LiveStatus) → Stops left after old new f f' w w' s
    → Leaves left after old new s × IsDue left f f' w w' s
stops_ends left after old new f f' w w' status.WriteFault stop = stop
stops_ends left after old new f f' w w' (status.BadInput m kind) stop = (stop.1, stop.2)
stops_ends left after old new f f' w w' status.ReadFault stop = (stop.1, stop.2)
stops_ends left after old new f f' w w' status.TooLong stop = (stop.1, stop.2)
stops_ends left after old new f f' w w' status.NoMemory stop = (stop.1, stop.2)
stops_ends left after old new f f' w w' status.Done stop = absurd stop.0
stops_ends left after old new f f' w w' status.Usage stop = absurd stop.0
