-- A run of one file, and of a floor's two files.
use Rattle.df_run.proofs.Names.{◌≡◌, ◌≤◌, ℕ, List, [], ◌∷◌, Option, None, Some, refl, sym, subst, inl, inr, map, slice_get, arith, IsConfigFile, Config, IsFloorRun, IsWorkedRun, FloorEnd, Label, IsFloorJournal, first_states, floor_brain, IsTickFile, Tick, Command, Auction, Check, Floor, FloorWorkers, Gen, Lint, Load, Purge, Steps, Upgrade, Why, FollowsPurged, IsFloorPast, RunsFloor, WorksFloor, IsOfFloor, Stops, StopsAt, TellsFloor, TellsWork, end_of_floor, IsTextOfSome, OfRead, told_at, BlamesBytes, IsInput, IsText, Status, End}
use Rattle.std.specs.Option.{option_and_then}
use Rattle.df_audit.proofs.Sound.{legal_is_sound}
use Rattle.df_config.specs.ConfigForm.{IsConfig}
use Rattle.df_floor.specs.Brains.{floor_brains}
use Rattle.df_floor.specs.Starting.{floor_start}
use Rattle.df_floor_run.specs.declared.run.FloorEnd.TheVariants as floor
use Rattle.df_io.specs.Faults.{Rose}
use Rattle.df_rules.proofs.FollowsAgain.{purge_follows}
use Rattle.df_rules.proofs.RowLaws.{row_laws}
use Rattle.df_rules.specs.Start.{rows}
use Rattle.df_settling.proofs.Bound.{settles}
use Rattle.df_start.specs.Begun.{begun}
use Rattle.df_unit.specs.declared.entry.Entry.{Entry}
use Rattle.df_run.specs.declared.status.Status.TheVariants as status
use Rattle.df_run.specs.declared.tasks.End.TheVariants as end

-- the first file stops a run
pub first_stops : (c : Command) (told : Option (List ℕ)) (files : List (Option (List ℕ))) (before now : ℕ) (s : Status) → StopsAt c 1 told before now s
    → Stops c (told ∷ files) before now s
first_stops c told files before now status.ReadFault h = record { stop = tt; bad_input = tt; too_long = tt; read_fault = λ e. h }
first_stops c told files before now status.NoMemory h = record { stop = tt; bad_input = tt; too_long = tt; read_fault = λ e. absurd (let no : ⊥ = cc in no) }
first_stops c told files before now (status.TooLong i) h = record
    { stop = tt; bad_input = tt; too_long = inl h; read_fault = λ e. absurd (let no : ⊥ = cc in no) }
first_stops c told files before now (status.BadInput i line kind) h = record {
  stop = tt;
  bad_input = inl (h.0, subst (λ (k : ℕ). OfRead told (λ bytes. BlamesBytes c k bytes line kind)) (sym h.0) h.1);
  too_long = tt;
  read_fault = λ e. absurd (let no : ⊥ = cc in no);
}
first_stops c told files before now status.Done h = absurd h
first_stops c told files before now status.Usage h = absurd h
first_stops c told files before now (status.Wrong place) h = absurd h
first_stops c told files before now status.WriteFault h = absurd h
first_stops c told files before now (status.Unsettled steps) h = absurd h
first_stops c told files before now (status.NoPlace count) h = absurd h

-- a count that rose later rose
rose_later : (before mid now : ℕ) → before ≤ mid → Rose mid now → Rose before now
rose_later before mid now le rose = omega (arith, le, rose)

-- the second file stops a run
pub second_stops : (c : Command) (one other : Option (List ℕ)) (before mid now : ℕ) (s : Status) → OfRead one (IsInput c 1) → before ≤ mid
    → StopsAt c 2 other mid now s → Stops c (one ∷ other ∷ []) before now s
second_stops c one other before mid now status.ReadFault good le h = record
    { stop = tt; bad_input = tt; too_long = tt; read_fault = λ e. rose_later before mid now le h }
second_stops c one other before mid now status.NoMemory good le h = record
    { stop = tt; bad_input = tt; too_long = tt; read_fault = λ e. absurd (let no : ⊥ = cc in no) }
second_stops c one other before mid now (status.TooLong i) good le h = record
    { stop = tt; bad_input = tt; too_long = inr (good, inl h); read_fault = λ e. absurd (let no : ⊥ = cc in no) }
second_stops c one other before mid now (status.BadInput i line kind) good le h = record {
  stop = tt;
  bad_input = inr (good, inl (h.0, subst (λ (k : ℕ). OfRead other (λ bytes. BlamesBytes c k bytes line kind)) (sym h.0) h.1));
  too_long = tt;
  read_fault = λ e. absurd (let no : ⊥ = cc in no);
}
second_stops c one other before mid now status.Done good le h = absurd h
second_stops c one other before mid now status.Usage good le h = absurd h
second_stops c one other before mid now (status.Wrong place) good le h = absurd h
second_stops c one other before mid now status.WriteFault good le h = absurd h
second_stops c one other before mid now (status.Unsettled steps) good le h = absurd h
second_stops c one other before mid now (status.NoPlace count) good le h = absurd h

-- a shelf that tells the same tells the same of a file
same_told : (f g : List ℕ → Option (List ℕ)) (name : Option (List ℕ)) → ((n : List ℕ) → f n ≡ g n) → option_and_then f name ≡ option_and_then g name
same_told f g None same = refl
same_told f g (Some name) same = same name

pub told_again : (f g : List ℕ → Option (List ℕ)) (words : List (List ℕ)) (place : ℕ) → ((n : List ℕ) → f n ≡ g n)
    → told_at f words place ≡ told_at g words place
told_again f g words place same = same_told f g (slice_get words place) same

-- ---- the text of a floor

module _ (config : Config) (ticks : List Tick) where
  -- a purge of a journal of the floor follows its units
  purge_of_floor : (past : List Entry) → IsFloorJournal config ticks past → (l : Label) → FollowsPurged config ticks past l
  purge_of_floor past j l =
      purge_follows floor_brain rows (first_states config) (floor_brains config ticks) (row_laws (map begun (floor_start config))) l past j.follows

  floor_past : (past : List Entry) → IsConfig config → IsFloorJournal config ticks past → IsFloorPast config ticks past
  floor_past past form j = record {
    sound = legal_is_sound (floor_start config) past j.legal;
    purged = purge_of_floor past j;
    bounded = settles config ticks past form j;
  }

  runs_floor : (text : List ℕ) (e : FloorEnd) → IsConfig config → IsFloorRun config ticks text e → RunsFloor config ticks e text
  runs_floor text e form h = record { run = h; past = floor_past h.after.core.1 form h.runs.crew.journal }

  works_floor : (text : List ℕ) (e : FloorEnd) → IsConfig config → IsWorkedRun config ticks text e → WorksFloor config ticks e text
  works_floor text e form h = record { run = h; past = floor_past h.after.core.1 form h.crew.journal }

  run_tells : (text : List ℕ) (e : FloorEnd) → IsConfig config → IsFloorRun config ticks text e → TellsFloor config ticks (end_of_floor e) text
  run_tells text floor.Quiet form h = runs_floor text floor.Quiet form h
  run_tells text (floor.Unsettled steps) form h = runs_floor text (floor.Unsettled steps) form h

  pub run_told : (text out : List ℕ) (e : FloorEnd) (d : End) → IsConfig config → IsFloorRun config ticks text e → d ≡ end_of_floor e → out ≡ text
      → TellsFloor config ticks d out
  run_told text out e d form h ends same =
      subst (λ (x : End). TellsFloor config ticks x out) (sym ends) (subst (TellsFloor config ticks (end_of_floor e)) (sym same) (run_tells text e form h))

  work_tells : (text : List ℕ) (e : FloorEnd) → IsConfig config → IsWorkedRun config ticks text e → TellsWork config ticks (end_of_floor e) text
  work_tells text floor.Quiet form h = works_floor text floor.Quiet form h
  work_tells text (floor.Unsettled steps) form h = works_floor text (floor.Unsettled steps) form h

  pub work_told : (text out : List ℕ) (e : FloorEnd) (d : End) → IsConfig config → IsWorkedRun config ticks text e → d ≡ end_of_floor e → out ≡ text
      → TellsWork config ticks d out
  work_told text out e d form h ends same =
      subst (λ (x : End). TellsWork config ticks x out) (sym ends) (subst (TellsWork config ticks (end_of_floor e)) (sym same) (work_tells text e form h))

  module _ (first second : ℕ) where
    floor_text : (one other : List ℕ) (e : End) (text : List ℕ) → IsConfigFile one config → IsTickFile other ticks → TellsFloor config ticks e text
        → IsText (Floor first second) (one ∷ other ∷ []) e text
    floor_text one other end.Done text c t h = (config, ticks, c, t, h)
    floor_text one other (end.Wrong place) text c t h = absurd h
    floor_text one other (end.Unsettled steps) text c t h = (config, ticks, c, t, h)
    floor_text one other (end.NoPlace count) text c t h = absurd h

    pub floor_told : (one other : Option (List ℕ)) (e : End) (text : List ℕ) → OfRead one (λ bytes. IsConfigFile bytes config)
        → OfRead other (λ bytes. IsTickFile bytes ticks) → TellsFloor config ticks e text → IsTextOfSome (Floor first second) (one ∷ other ∷ []) e text
    floor_told one other e text p q h = (p.0 ∷ q.0 ∷ [], (p.1, (q.1, tt)), floor_text p.0 q.0 e text p.2 q.2 h)

    module _ (workers : ℕ) where
      work_text : (one other : List ℕ) (e : End) (text : List ℕ) → IsConfigFile one config → IsTickFile other ticks → TellsWork config ticks e text
          → IsText (FloorWorkers first second workers) (one ∷ other ∷ []) e text
      work_text one other end.Done text c t h = (config, ticks, c, t, h)
      work_text one other (end.Wrong place) text c t h = absurd h
      work_text one other (end.Unsettled steps) text c t h = (config, ticks, c, t, h)
      work_text one other (end.NoPlace count) text c t h = absurd h

      pub works_told : (one other : Option (List ℕ)) (e : End) (text : List ℕ) → OfRead one (λ bytes. IsConfigFile bytes config)
          → OfRead other (λ bytes. IsTickFile bytes ticks) → TellsWork config ticks e text
          → IsTextOfSome (FloorWorkers first second workers) (one ∷ other ∷ []) e text
      works_told one other e text p q h = (p.0 ∷ q.0 ∷ [], (p.1, (q.1, tt)), work_text p.0 q.0 e text p.2 q.2 h)

-- ---- a command that reads a configuration and ticks

-- what holds of a floor, and of one with workers, holds of each such command
pub of_each : (P : Command → Type 0) → ((a b : ℕ) → P (Floor a b)) → ((a b w : ℕ) → P (FloorWorkers a b w)) → (c : Command) → IsOfFloor c → P c
of_each P plain works (Floor a b) h = plain a b
of_each P plain works (FloorWorkers a b w) h = works a b w
of_each P plain works (Steps file) h = absurd h
of_each P plain works (Check journal) h = absurd h
of_each P plain works (Purge label journal) h = absurd h
of_each P plain works (Upgrade journal) h = absurd h
of_each P plain works (Why journal place) h = absurd h
of_each P plain works (Auction orders) h = absurd h
of_each P plain works (Lint script) h = absurd h
of_each P plain works (Gen key n) h = absurd h
of_each P plain works (Load key n) h = absurd h

pub config_good : (c : Command) → IsOfFloor c → (one : Option (List ℕ)) (config : Config) → OfRead one (λ bytes. IsConfigFile bytes config)
    → OfRead one (IsInput c 1)
config_good c h one config p = of_each (λ (k : Command). OfRead one (IsInput k 1)) (λ a b. (p.0, p.1, (config, p.2))) (λ a b w. (p.0, p.1, (config, p.2))) c h
