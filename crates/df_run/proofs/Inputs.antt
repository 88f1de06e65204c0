-- How what was read ends, and what is written of it tells.
use Rattle.df_run.proofs.Names.{⊤, ◌≡◌, ◌≤◌, ℕ, suc, List, [], ◌∷◌, refl, ap, subst, sym, ◌∙◌, arith, HasPlace, IsCheckOf, IsPurgeOf, IsRightJournal, IsUpgradeOf, IsWhyOf, IsWrongAt, LacksPlace, OfJournal, TellsCount, TellsPlace, Config, First, IsEitherText, Journal, Second, IsScriptText, settling_bound, Tick, Command, Steps, Check, Purge, Upgrade, Why, Auction, Lint, Gen, Floor, FloorWorkers, Load, IsCutAt, MayBeCutAt, OfFloor, RunsFloor, Settles, SettlesAnyhow, WorksFloor, IsCutInput, IsInput, IsNoPlaceInput, IsOrders, IsRightInput, IsText, IsUnsettledInput, IsWrongInput, OfOne, OfTwo, End}
use Rattle.df_audit.proofs.Exact.{one_count, one_place, right_is_not_wrong}
use Rattle.df_audit.specs.declared.audit.Finding.TheVariants as finding
use Rattle.df_auction.specs.AuctionText.{IsTextOfFile}
use Rattle.df_floor_run.specs.declared.run.FloorEnd.TheVariants as floor
use Rattle.df_journal_file.proofs.Eithers.{either_text}
use Rattle.df_run.proofs.OneRun.{one_cut, one_floor, quiet_settles, settles_or_cut}
use Rattle.df_run.proofs.Reaching.{AreInputs}
use Rattle.df_run.specs.Lint.{LintsScript}
use Rattle.df_steps.specs.Steps.{RecordsScript}
use Rattle.df_run.specs.declared.tasks.End.TheVariants as end

-- ---- what is said of one file's bytes, and of two files'

of_one-map : (read : List (List ℕ)) (P Q : List ℕ → Type 0) → ((bytes : List ℕ) → P bytes → Q bytes) → OfOne read P → OfOne read Q
of_one-map [] P Q f h = h
of_one-map (bytes ∷ []) P Q f h = f bytes h
of_one-map (bytes ∷ other ∷ read) P Q f h = h

of_one-both : {R : Type 0} (read : List (List ℕ)) (P Q : List ℕ → Type 0) → ((bytes : List ℕ) → P bytes → Q bytes → R) → OfOne read P → OfOne read Q → R
of_one-both [] P Q f p q = absurd p
of_one-both (bytes ∷ []) P Q f p q = f bytes p q
of_one-both (bytes ∷ other ∷ read) P Q f p q = absurd p

of_two-map : (read : List (List ℕ)) (P Q : List ℕ → List ℕ → Type 0) → ((one other : List ℕ) → P one other → Q one other) → OfTwo read P → OfTwo read Q
of_two-map [] P Q f h = h
of_two-map (bytes ∷ []) P Q f h = h
of_two-map (one ∷ other ∷ []) P Q f h = f one other h
of_two-map (one ∷ other ∷ more ∷ read) P Q f h = h

of_two-both : {R : Type 0} (read : List (List ℕ)) (P Q : List ℕ → List ℕ → Type 0) → ((one other : List ℕ) → P one other → Q one other → R) → OfTwo read P
    → OfTwo read Q → R
of_two-both [] P Q f p q = absurd p
of_two-both (bytes ∷ []) P Q f p q = absurd p
of_two-both (one ∷ other ∷ []) P Q f p q = f one other p q
of_two-both (one ∷ other ∷ more ∷ read) P Q f p q = absurd p

-- ---- what was read is what the command reads

-- what was read may be done: it is right, or a floor of which workers may take any turns
abbrev pub IsDoneInput : Command → List (List ℕ) → Type 0
IsDoneInput (FloorWorkers config ticks workers) read = OfTwo read (λ one other. OfFloor one other (λ c t. ⊤))
IsDoneInput c read = IsRightInput c read

-- what was read may end so
abbrev pub EndsSo : Command → List (List ℕ) → End → Type 0
EndsSo c read end.Done = IsDoneInput c read
EndsSo c read (end.Wrong place) = IsWrongInput c read place
EndsSo c read (end.Unsettled steps) = IsUnsettledInput c read steps
EndsSo c read (end.NoPlace count) = IsNoPlaceInput c read count

-- what was read ends so in any run
abbrev pub MustEnd : Command → List (List ℕ) → End → Type 0
MustEnd c read end.Done = IsRightInput c read
MustEnd c read (end.Wrong place) = IsWrongInput c read place
MustEnd c read (end.Unsettled steps) = IsCutInput c read steps
MustEnd c read (end.NoPlace count) = IsNoPlaceInput c read count

one_input : (c : Command) (read : List (List ℕ)) (P : List ℕ → Type 0) → ((bytes : List ℕ) → P bytes → IsInput c 1 bytes) → OfOne read P → AreInputs c 1 read
one_input c [] P f h = absurd h
one_input c (bytes ∷ []) P f h = (f bytes h, tt)
one_input c (bytes ∷ other ∷ read) P f h = absurd h

two_inputs : (config ticks : ℕ) (read : List (List ℕ)) (P : Config → List Tick → Type 0) → OfTwo read (λ one other. OfFloor one other P)
    → AreInputs (Floor config ticks) 1 read
two_inputs config ticks [] P h = absurd h
two_inputs config ticks (bytes ∷ []) P h = absurd h
two_inputs config ticks (one ∷ other ∷ []) P h = ((h.0, h.2), ((h.1, h.3), tt))
two_inputs config ticks (one ∷ other ∷ more ∷ read) P h = absurd h

work_inputs : (config ticks workers : ℕ) (read : List (List ℕ)) (P : Config → List Tick → Type 0) → OfTwo read (λ one other. OfFloor one other P)
    → AreInputs (FloorWorkers config ticks workers) 1 read
work_inputs config ticks workers [] P h = absurd h
work_inputs config ticks workers (bytes ∷ []) P h = absurd h
work_inputs config ticks workers (one ∷ other ∷ []) P h = ((h.0, h.2), ((h.1, h.3), tt))
work_inputs config ticks workers (one ∷ other ∷ more ∷ read) P h = absurd h

-- a command without a file reads anything
any_ticks : (key m n : ℕ) (read : List (List ℕ)) → AreInputs (Gen key m) n read
any_ticks key m n [] = tt
any_ticks key m n (bytes ∷ read) = (tt, any_ticks key m (suc n) read)

any_load : (key m n : ℕ) (read : List (List ℕ)) → AreInputs (Load key m) n read
any_load key m n [] = tt
any_load key m n (bytes ∷ read) = (tt, any_load key m (suc n) read)

-- bytes of which something is said as of a journal are one
journal_input : (c : Command) (read : List (List ℕ)) → ((bytes : List ℕ) → IsEitherText bytes → IsInput c 1 bytes) → (P : Journal → Type 0)
    → OfOne read (λ bytes. OfJournal bytes P) → AreInputs c 1 read
journal_input c read reads P h = one_input c read (λ bytes. OfJournal bytes P) (λ bytes j. reads bytes (either_text bytes j.0 j.1)) h

-- ---- what is said of the journal of one file

abbrev IsRight : List (List ℕ) → Type 0
IsRight read = OfOne read (λ bytes. OfJournal bytes IsRightJournal)

abbrev IsWrong : List (List ℕ) → ℕ → Type 0
IsWrong read place = OfOne read (λ bytes. OfJournal bytes (λ j. IsWrongAt j place))

abbrev Has : List (List ℕ) → ℕ → Type 0
Has read place = OfOne read (λ bytes. OfJournal bytes (HasPlace place))

abbrev Lacks : List (List ℕ) → ℕ → ℕ → Type 0
Lacks read place count = OfOne read (λ bytes. OfJournal bytes (LacksPlace place count))

-- what holds of the journal that was read, where something else does
of_journal : (read : List (List ℕ)) (P Q : Journal → Type 0) → ((j : Journal) → P j → Q j) → OfOne read (λ bytes. OfJournal bytes P)
    → OfOne read (λ bytes. OfJournal bytes Q)
of_journal read P Q f h = of_one-map read (λ bytes. OfJournal bytes P) (λ bytes. OfJournal bytes Q) (λ bytes p. (p.0, p.1, f p.0 p.2)) h

has_right : (read : List (List ℕ)) (place : ℕ) → Has read place → IsRight read
has_right read place h = of_journal read (HasPlace place) IsRightJournal (λ j p. p.0) h

lacks_right : (read : List (List ℕ)) (place count : ℕ) → Lacks read place count → IsRight read
lacks_right read place count h = of_journal read (LacksPlace place count) IsRightJournal (λ j p. p.0) h

-- no bytes are right and wrong
not_both : (read : List (List ℕ)) (place : ℕ) → IsRight read → IsWrong read place → ⊥
not_both read place p q = of_one-both read (λ bytes. OfJournal bytes IsRightJournal) (λ bytes. OfJournal bytes (λ j. IsWrongAt j place))
    (λ bytes right wrong. right_is_not_wrong bytes place right.0 wrong.0 right.1 wrong.1 right.2 wrong.2) p q

-- a journal is wrong first at one place
the_place : (read : List (List ℕ)) (p q : ℕ) → IsWrong read p → IsWrong read q → p ≡ q
the_place read p q v w = of_one-both read (λ bytes. OfJournal bytes (λ j. IsWrongAt j p)) (λ bytes. OfJournal bytes (λ j. IsWrongAt j q))
    (λ bytes one other. one_place bytes p q one.0 other.0 one.1 other.1 one.2 other.2) v w

-- a journal has a place or lacks it, and has one number of entries
has_or_lacks : (read : List (List ℕ)) (place count : ℕ) → Has read place → Lacks read place count → ⊥
has_or_lacks read place count v w = of_one-both read (λ bytes. OfJournal bytes (HasPlace place)) (λ bytes. OfJournal bytes (LacksPlace place count))
    (λ bytes has lacks.
    let n = one_count bytes has.0 lacks.0 has.1 lacks.1 in
    let within = has.2.1 in
    let counted = lacks.2.1 in
    let behind = lacks.2.2 in
    omega (arith, n, within, counted, behind)) v w

the_count : (read : List (List ℕ)) (place m n : ℕ) → Lacks read place m → Lacks read place n → m ≡ n
the_count read place m n v w = of_one-both read (λ bytes. OfJournal bytes (LacksPlace place m)) (λ bytes. OfJournal bytes (LacksPlace place n))
    (λ bytes one other. one.2.1 ∙ one_count bytes one.0 other.0 one.1 other.1 ∙ sym other.2.1) v w

-- ---- a command whose run ends in one way alone

none : (p : ℕ) → ⊥ → ⊥
none p h = h

nothing : (p : ℕ) (text : List ℕ) → ⊥ → ⊥
nothing p text h = h

module _ (c : Command) (read : List (List ℕ)) (no_wrong : (p : ℕ) → IsWrongInput c read p → ⊥) (no_cut : (p : ℕ) → IsUnsettledInput c read p → ⊥)
    (no_lack : (p : ℕ) → IsNoPlaceInput c read p → ⊥) where
  done_inputs : (IsDoneInput c read → AreInputs c 1 read) → (e : End) → EndsSo c read e → AreInputs c 1 read
  done_inputs f end.Done h = f h
  done_inputs f (end.Wrong place) h = absurd (no_wrong place h)
  done_inputs f (end.Unsettled steps) h = absurd (no_cut steps h)
  done_inputs f (end.NoPlace count) h = absurd (no_lack count h)

  done_only : (e : End) → EndsSo c read e → e ≡ end.Done
  done_only end.Done h = refl
  done_only (end.Wrong place) h = absurd (no_wrong place h)
  done_only (end.Unsettled steps) h = absurd (no_cut steps h)
  done_only (end.NoPlace count) h = absurd (no_lack count h)

  done_once : (d e : End) → EndsSo c read d → EndsSo c read e → d ≡ e
  done_once d e v w = done_only d v ∙ sym (done_only e w)

module _ (c : Command) (read : List (List ℕ)) (no_report : (p : ℕ) (text : List ℕ) → IsText c read (end.Wrong p) text → ⊥)
    (no_cut : (p : ℕ) (text : List ℕ) → IsText c read (end.Unsettled p) text → ⊥)
    (no_count : (p : ℕ) (text : List ℕ) → IsText c read (end.NoPlace p) text → ⊥) where
  done_text : (text : List ℕ) → (IsText c read end.Done text → IsDoneInput c read) → (e : End) → IsText c read e text → EndsSo c read e
  done_text text f end.Done h = f h
  done_text text f (end.Wrong place) h = absurd (no_report place text h)
  done_text text f (end.Unsettled steps) h = absurd (no_cut steps text h)
  done_text text f (end.NoPlace count) h = absurd (no_count count text h)

-- ---- a command that asks whether a journal is right

module _ (c : Command) (read : List (List ℕ)) (right : IsDoneInput c read → IsRight read) (wrong : (p : ℕ) → IsWrongInput c read p → IsWrong read p)
    (no_cut : (p : ℕ) → IsUnsettledInput c read p → ⊥) (no_lack : (p : ℕ) → IsNoPlaceInput c read p → ⊥) where
  audit_inputs : ((bytes : List ℕ) → IsEitherText bytes → IsInput c 1 bytes) → (e : End) → EndsSo c read e → AreInputs c 1 read
  audit_inputs reads end.Done h = journal_input c read reads IsRightJournal (right h)
  audit_inputs reads (end.Wrong place) h = journal_input c read reads (λ j. IsWrongAt j place) (wrong place h)
  audit_inputs reads (end.Unsettled steps) h = absurd (no_cut steps h)
  audit_inputs reads (end.NoPlace count) h = absurd (no_lack count h)

  audit_once : (d e : End) → EndsSo c read d → EndsSo c read e → d ≡ e
  audit_once end.Done end.Done v w = refl
  audit_once end.Done (end.Wrong q) v w = absurd (not_both read q (right v) (wrong q w))
  audit_once end.Done (end.Unsettled q) v w = absurd (no_cut q w)
  audit_once end.Done (end.NoPlace q) v w = absurd (no_lack q w)
  audit_once (end.Wrong p) end.Done v w = absurd (not_both read p (right w) (wrong p v))
  audit_once (end.Wrong p) (end.Wrong q) v w = ap end.Wrong (the_place read p q (wrong p v) (wrong q w))
  audit_once (end.Wrong p) (end.Unsettled q) v w = absurd (no_cut q w)
  audit_once (end.Wrong p) (end.NoPlace q) v w = absurd (no_lack q w)
  audit_once (end.Unsettled p) e v w = absurd (no_cut p v)
  audit_once (end.NoPlace p) e v w = absurd (no_lack p v)

module _ (c : Command) (read : List (List ℕ)) (text : List ℕ) (right : IsText c read end.Done text → IsDoneInput c read)
    (wrong : (p : ℕ) → IsText c read (end.Wrong p) text → IsWrongInput c read p) (no_cut : (p : ℕ) (text : List ℕ) → IsText c read (end.Unsettled p) text → ⊥)
    (no_count : (p : ℕ) (text : List ℕ) → IsText c read (end.NoPlace p) text → ⊥) where
  audit_text : (e : End) → IsText c read e text → EndsSo c read e
  audit_text end.Done h = right h
  audit_text (end.Wrong place) h = wrong place h
  audit_text (end.Unsettled steps) h = absurd (no_cut steps text h)
  audit_text (end.NoPlace count) h = absurd (no_count count text h)

check_right : (journal : Journal) (text : List ℕ) → IsCheckOf journal finding.Right text → IsRightJournal journal
check_right (First start entries) text h = h.0
check_right (Second start notes) text h = h.0

check_wrong : (journal : Journal) (place : ℕ) (text : List ℕ) → IsCheckOf journal (finding.Wrong place) text → IsWrongAt journal place
check_wrong (First start entries) place text h = (h.0, h.1)
check_wrong (Second start notes) place text h = (h.0, h.1)

-- ---- why an entry of a journal stands

module _ (journal place : ℕ) (read : List (List ℕ)) where
  why_inputs : (e : End) → EndsSo (Why journal place) read e → AreInputs (Why journal place) 1 read
  why_inputs end.Done h = journal_input (Why journal place) read (λ bytes t. t) (HasPlace place) h
  why_inputs (end.Wrong first) h = journal_input (Why journal place) read (λ bytes t. t) (λ j. IsWrongAt j first) h
  why_inputs (end.Unsettled steps) h = absurd h
  why_inputs (end.NoPlace count) h = journal_input (Why journal place) read (λ bytes t. t) (LacksPlace place count) h

  why_once : (d e : End) → EndsSo (Why journal place) read d → EndsSo (Why journal place) read e → d ≡ e
  why_once end.Done end.Done v w = refl
  why_once end.Done (end.Wrong q) v w = absurd (not_both read q (has_right read place v) w)
  why_once end.Done (end.Unsettled q) v w = absurd w
  why_once end.Done (end.NoPlace q) v w = absurd (has_or_lacks read place q v w)
  why_once (end.Wrong p) end.Done v w = absurd (not_both read p (has_right read place w) v)
  why_once (end.Wrong p) (end.Wrong q) v w = ap end.Wrong (the_place read p q v w)
  why_once (end.Wrong p) (end.Unsettled q) v w = absurd w
  why_once (end.Wrong p) (end.NoPlace q) v w = absurd (not_both read p (lacks_right read place q w) v)
  why_once (end.Unsettled p) e v w = absurd v
  why_once (end.NoPlace p) end.Done v w = absurd (has_or_lacks read place p w v)
  why_once (end.NoPlace p) (end.Wrong q) v w = absurd (not_both read q (lacks_right read place p v) w)
  why_once (end.NoPlace p) (end.Unsettled q) v w = absurd w
  why_once (end.NoPlace p) (end.NoPlace q) v w = ap end.NoPlace (the_count read place p q v w)

  why_text : (e : End) (text : List ℕ) → IsText (Why journal place) read e text → EndsSo (Why journal place) read e
  why_text end.Done text h = of_journal read (λ j. IsWhyOf place j text) (HasPlace place) (λ j p. p.has) h
  why_text (end.Wrong first) text h = of_journal read (λ j. TellsPlace j first text) (λ j. IsWrongAt j first) (λ j p. p.wrong) h
  why_text (end.Unsettled steps) text h = absurd h
  why_text (end.NoPlace count) text h = of_journal read (λ j. TellsCount place j count text) (LacksPlace place count) (λ j p. p.lacks) h

-- ---- a floor

abbrev Settled : List (List ℕ) → Type 0
Settled read = OfTwo read (λ one other. OfFloor one other Settles)

abbrev IsCut : List (List ℕ) → ℕ → Type 0
IsCut read steps = OfTwo read (λ one other. OfFloor one other (IsCutAt steps))

-- a run that was cut off has so many entries as its journal, which is bounded
cut_of : (config : Config) (ticks : List Tick) (steps : ℕ) (text : List ℕ) → RunsFloor config ticks (floor.Unsettled steps) text → IsCutAt steps config ticks
cut_of config ticks steps text h =
    (text, h.run, subst (λ n. n ≤ settling_bound config ticks) (sym h.run.ends.counted) h.past.bounded)

-- what holds of the floor that was read, where something else does
of_floor : (read : List (List ℕ)) (P Q : Config → List Tick → Type 0) → ((c : Config) (t : List Tick) → P c t → Q c t)
    → OfTwo read (λ one other. OfFloor one other P) → OfTwo read (λ one other. OfFloor one other Q)
of_floor read P Q f h = of_two-map read (λ one other. OfFloor one other P) (λ one other. OfFloor one other Q)
    (λ one other p. (p.0, p.1, p.2, p.3, f p.0 p.1 p.4)) h

-- a floor that settles isn't cut off, and is cut off in one way
not_cut : (read : List (List ℕ)) (steps : ℕ) → Settled read → IsCut read steps → ⊥
not_cut read steps v w = of_two-both read (λ one other. OfFloor one other Settles) (λ one other. OfFloor one other (IsCutAt steps))
    (λ one other p q. settles_or_cut one other steps p q) v w

the_steps : (read : List (List ℕ)) (p q : ℕ) → IsCut read p → IsCut read q → p ≡ q
the_steps read p q v w = of_two-both read (λ one other. OfFloor one other (IsCutAt p)) (λ one other. OfFloor one other (IsCutAt q))
    (λ one other a b. one_cut one other p q a b) v w

module _ (config ticks : ℕ) (read : List (List ℕ)) where
  floor_inputs : (e : End) → EndsSo (Floor config ticks) read e → AreInputs (Floor config ticks) 1 read
  floor_inputs end.Done h = two_inputs config ticks read Settles h
  floor_inputs (end.Wrong place) h = absurd h
  floor_inputs (end.Unsettled steps) h = two_inputs config ticks read (IsCutAt steps) h
  floor_inputs (end.NoPlace count) h = absurd h

  floor_once : (d e : End) → EndsSo (Floor config ticks) read d → EndsSo (Floor config ticks) read e → d ≡ e
  floor_once end.Done end.Done v w = refl
  floor_once end.Done (end.Wrong q) v w = absurd w
  floor_once end.Done (end.Unsettled q) v w = absurd (not_cut read q v w)
  floor_once end.Done (end.NoPlace q) v w = absurd w
  floor_once (end.Wrong p) e v w = absurd v
  floor_once (end.Unsettled p) end.Done v w = absurd (not_cut read p w v)
  floor_once (end.Unsettled p) (end.Wrong q) v w = absurd w
  floor_once (end.Unsettled p) (end.Unsettled q) v w = ap end.Unsettled (the_steps read p q v w)
  floor_once (end.Unsettled p) (end.NoPlace q) v w = absurd w
  floor_once (end.NoPlace p) e v w = absurd v

  floor_text : (e : End) (text : List ℕ) → IsText (Floor config ticks) read e text → EndsSo (Floor config ticks) read e
  floor_text end.Done text h = of_floor read (λ c t. RunsFloor c t floor.Quiet text) Settles (λ c t p. quiet_settles c t text p) h
  floor_text (end.Wrong place) text h = absurd h
  floor_text (end.Unsettled steps) text h = of_floor read (λ c t. RunsFloor c t (floor.Unsettled steps) text) (IsCutAt steps)
      (λ c t p. cut_of c t steps text p) h
  floor_text (end.NoPlace count) text h = absurd h

-- a floor with workers

work_cut : (config : Config) (ticks : List Tick) (steps : ℕ) (text : List ℕ) → WorksFloor config ticks (floor.Unsettled steps) text
    → MayBeCutAt steps config ticks
work_cut config ticks steps text h = record {
  text = text;
  run = h.run;
  bounded = subst (λ n. n ≤ settling_bound config ticks) (sym h.run.ends.counted) h.past.bounded;
}

-- a floor whose bound is below its limit isn't cut off
never_cut : (read : List (List ℕ)) (steps : ℕ) → OfTwo read (λ one other. OfFloor one other SettlesAnyhow)
    → OfTwo read (λ one other. OfFloor one other (MayBeCutAt steps)) → ⊥
never_cut read steps v w = of_two-both read (λ one other. OfFloor one other SettlesAnyhow) (λ one other. OfFloor one other (MayBeCutAt steps))
    (λ one other p q. one_floor one other SettlesAnyhow (MayBeCutAt steps)
    (λ c t settles cut. let full = cut.run.ends.full in let bounded = cut.bounded in omega (arith, settles, full, bounded)) p q) v w

module _ (config ticks workers : ℕ) (read : List (List ℕ)) where
  workers_inputs : (e : End) → EndsSo (FloorWorkers config ticks workers) read e → AreInputs (FloorWorkers config ticks workers) 1 read
  workers_inputs end.Done h = work_inputs config ticks workers read (λ c t. ⊤) h
  workers_inputs (end.Wrong place) h = absurd h
  workers_inputs (end.Unsettled steps) h = work_inputs config ticks workers read (MayBeCutAt steps) h
  workers_inputs (end.NoPlace count) h = absurd h

  workers_once : (d e : End) → EndsSo (FloorWorkers config ticks workers) read d → MustEnd (FloorWorkers config ticks workers) read e → d ≡ e
  workers_once end.Done end.Done v w = refl
  workers_once (end.Wrong p) end.Done v w = absurd v
  workers_once (end.Unsettled p) end.Done v w = absurd (never_cut read p w v)
  workers_once (end.NoPlace p) end.Done v w = absurd v
  workers_once d (end.Wrong q) v w = absurd w
  workers_once d (end.Unsettled q) v w = absurd w
  workers_once d (end.NoPlace q) v w = absurd w

  workers_text : (e : End) (text : List ℕ) → IsText (FloorWorkers config ticks workers) read e text → EndsSo (FloorWorkers config ticks workers) read e
  workers_text end.Done text h = of_floor read (λ c t. WorksFloor c t floor.Quiet text) (λ c t. ⊤) (λ c t p. tt) h
  workers_text (end.Wrong place) text h = absurd h
  workers_text (end.Unsettled steps) text h = of_floor read (λ c t. WorksFloor c t (floor.Unsettled steps) text) (MayBeCutAt steps)
      (λ c t p. work_cut c t steps text p) h
  workers_text (end.NoPlace count) text h = absurd h

-- what ends so in any run may end so

right_done : (c : Command) (read : List (List ℕ)) → IsRightInput c read → IsDoneInput c read
right_done (FloorWorkers config ticks workers) read h = of_floor read SettlesAnyhow (λ c t. ⊤) (λ c t p. tt) h
right_done (Steps file) read h = h
right_done (Check journal) read h = h
right_done (Purge label journal) read h = h
right_done (Upgrade journal) read h = h
right_done (Why journal place) read h = h
right_done (Auction orders) read h = h
right_done (Lint script) read h = h
right_done (Gen key n) read h = h
right_done (Floor config ticks) read h = h
right_done (Load key n) read h = h

cut_unsettled : (c : Command) (read : List (List ℕ)) (steps : ℕ) → IsCutInput c read steps → IsUnsettledInput c read steps
cut_unsettled (FloorWorkers config ticks workers) read steps h = absurd h
cut_unsettled (Steps file) read steps h = h
cut_unsettled (Check journal) read steps h = h
cut_unsettled (Purge label journal) read steps h = h
cut_unsettled (Upgrade journal) read steps h = h
cut_unsettled (Why journal place) read steps h = h
cut_unsettled (Auction orders) read steps h = h
cut_unsettled (Lint script) read steps h = h
cut_unsettled (Gen key n) read steps h = h
cut_unsettled (Floor config ticks) read steps h = h
cut_unsettled (Load key n) read steps h = h

pub must_may : (c : Command) (read : List (List ℕ)) (e : End) → MustEnd c read e → EndsSo c read e
must_may c read end.Done h = right_done c read h
must_may c read (end.Wrong place) h = h
must_may c read (end.Unsettled steps) h = cut_unsettled c read steps h
must_may c read (end.NoPlace count) h = h

-- ---- each command

-- what was read, whichever way it ends, is what the command reads
pub ends_inputs : (c : Command) (read : List (List ℕ)) (e : End) → EndsSo c read e → AreInputs c 1 read
ends_inputs (Steps file) read e h = done_inputs (Steps file) read none none none (one_input (Steps file) read IsScriptText (λ bytes p. p)) e h
ends_inputs (Check journal) read e h = audit_inputs (Check journal) read (λ p. p) (λ p q. q) none none (λ bytes t. t) e h
ends_inputs (Purge label journal) read e h = audit_inputs (Purge label journal) read (λ p. p) (λ p q. q) none none (λ bytes t. t) e h
ends_inputs (Upgrade journal) read e h = audit_inputs (Upgrade journal) read (λ p. p) (λ p q. q) none none (λ bytes t. t) e h
ends_inputs (Why journal place) read e h = why_inputs journal place read e h
ends_inputs (Auction orders) read e h = done_inputs (Auction orders) read none none none (one_input (Auction orders) read IsOrders (λ bytes p. p)) e h
ends_inputs (Lint script) read e h = done_inputs (Lint script) read none none none (one_input (Lint script) read IsScriptText (λ bytes p. p)) e h
ends_inputs (Gen key n) read e h = any_ticks key n 1 read
ends_inputs (Floor config ticks) read e h = floor_inputs config ticks read e h
ends_inputs (FloorWorkers config ticks workers) read e h = workers_inputs config ticks workers read e h
ends_inputs (Load key n) read e h = any_load key n 1 read

-- what ends so in any run ends in no other way
pub ends_once : (c : Command) (read : List (List ℕ)) (d e : End) → EndsSo c read d → MustEnd c read e → d ≡ e
ends_once (Steps file) read d e v w = done_once (Steps file) read none none none d e v (must_may (Steps file) read e w)
ends_once (Check journal) read d e v w = audit_once (Check journal) read (λ p. p) (λ p q. q) none none d e v (must_may (Check journal) read e w)
ends_once (Purge label journal) read d e v w = audit_once (Purge label journal) read (λ p. p) (λ p q. q) none none d e v
    (must_may (Purge label journal) read e w)
ends_once (Upgrade journal) read d e v w = audit_once (Upgrade journal) read (λ p. p) (λ p q. q) none none d e v (must_may (Upgrade journal) read e w)
ends_once (Why journal place) read d e v w = why_once journal place read d e v (must_may (Why journal place) read e w)
ends_once (Auction orders) read d e v w = done_once (Auction orders) read none none none d e v (must_may (Auction orders) read e w)
ends_once (Lint script) read d e v w = done_once (Lint script) read none none none d e v (must_may (Lint script) read e w)
ends_once (Gen key n) read d e v w = done_once (Gen key n) read none none none d e v (must_may (Gen key n) read e w)
ends_once (Floor config ticks) read d e v w = floor_once config ticks read d e v (must_may (Floor config ticks) read e w)
ends_once (FloorWorkers config ticks workers) read d e v w = workers_once config ticks workers read d e v w
ends_once (Load key n) read d e v w = done_once (Load key n) read none none none d e v (must_may (Load key n) read e w)

-- what is written of what was read tells how it ends
pub text_ends : (c : Command) (read : List (List ℕ)) (e : End) (text : List ℕ) → IsText c read e text → EndsSo c read e
text_ends (Steps file) read e text h = done_text (Steps file) read nothing nothing nothing text
    (of_one-map read (λ bytes. RecordsScript bytes text) IsScriptText (λ bytes p. (p.0, p.1, p.2, p.3))) e h
text_ends (Check journal) read e text h = audit_text (Check journal) read text
    (of_journal read (λ j. IsCheckOf j finding.Right text) IsRightJournal (λ j p. check_right j text p))
    (λ place. of_journal read (λ j. IsCheckOf j (finding.Wrong place) text) (λ j. IsWrongAt j place) (λ j p. check_wrong j place text p)) nothing nothing e h
text_ends (Purge label journal) read e text h = audit_text (Purge label journal) read text
    (of_journal read (λ j. IsPurgeOf label j text) IsRightJournal (λ j p. p.right))
    (λ place. of_journal read (λ j. TellsPlace j place text) (λ j. IsWrongAt j place) (λ j p. p.wrong)) nothing nothing e h
text_ends (Upgrade journal) read e text h = audit_text (Upgrade journal) read text (of_journal read (λ j. IsUpgradeOf j text) IsRightJournal (λ j p. p.right))
    (λ place. of_journal read (λ j. TellsPlace j place text) (λ j. IsWrongAt j place) (λ j p. p.wrong)) nothing nothing e h
text_ends (Why journal place) read e text h = why_text journal place read e text h
text_ends (Auction orders) read e text h = done_text (Auction orders) read nothing nothing nothing text
    (of_one-map read (λ bytes. IsTextOfFile bytes text) IsOrders (λ bytes p. (p.0, p.1))) e h
text_ends (Lint script) read e text h = done_text (Lint script) read nothing nothing nothing text
    (of_one-map read (λ bytes. LintsScript bytes text) IsScriptText (λ bytes p. (p.0, p.1, p.2, p.3))) e h
text_ends (Gen key n) read e text h = done_text (Gen key n) read nothing nothing nothing text (λ p. tt) e h
text_ends (Floor config ticks) read e text h = floor_text config ticks read e text h
text_ends (FloorWorkers config ticks workers) read e text h = workers_text config ticks workers read e text h
text_ends (Load key n) read e text h = done_text (Load key n) read nothing nothing nothing text (λ p. tt) e h
