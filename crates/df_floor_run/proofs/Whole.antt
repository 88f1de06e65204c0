-- What the run of a crew tells of the floor whose crew it is.
use Rattle.df_floor_run.proofs.Names.{◌≡◌, ℕ, ◌≤◌, List, refl, sym, ◌∙◌, ap, subst, length, arith, ◌↔◌, IsConfig, Config, CrewState, Mind, IsFollowed, State, IsMore, IsAtLimit, IsPlainRun, IsQuiet, Ended, IsFloorJournal, floor_brain, most_entries, RootStart, Tick, EndsWith, IsFloorRun, RunsTo, fresh_crew, run_text, IsLoadText, load_config, Ran, TellsReport, TellsRun, end_of, FloorEnd}
use Rattle.df_gen.specs.Generated.{generated}
use Rattle.df_plain_floor.specs.declared.run.Ended.TheVariants as ended
use Rattle.df_settling.proofs.Bound.{settles}
use Rattle.df_floor_run.specs.declared.run.FloorEnd.TheVariants.{Quiet, Unsettled}
use Rattle.df_floor_run.proofs.LoadForm.{load_form}
use Rattle.df_floor_run.proofs.Opens.{floor_opens}

-- a run ends as it is told
pub ends : (max : ℕ) (after : CrewState Mind) (e : Ended) → ((e ≡ ended.Quiet) ↔ IsQuiet floor_brain after) →
    ((e ≡ ended.Limit) ↔ IsAtLimit floor_brain max after) →
    EndsWith max after (end_of e (length after.core.1))
ends max after ended.Quiet quiet limit = quiet.0 refl
ends max after ended.Limit quiet limit =
    let stopped = limit.0 refl in
    record { restless = stopped.1; full = stopped.0; counted = refl }

pub ran : (max : ℕ) (before after : CrewState Mind) (e : Ended) (end : FloorEnd) → IsPlainRun floor_brain max before after →
    ((e ≡ ended.Quiet) ↔ IsQuiet floor_brain after) →
    ((e ≡ ended.Limit) ↔ IsAtLimit floor_brain max after) → IsMore before after → end ≡ end_of e (length after.core.1) →
    IsFollowed floor_brain after.brains after.core → Ran max before after end
ran max before after e end run quiet limit more is followed = record {
  run = run;
  start = more.start;
  brains = more.brains;
  followed = followed;
  ends = subst (λ (x : FloorEnd). EndsWith max after x) (sym is) (ends max after e quiet limit);
}

-- the journal is one of the floor
of_floor : (c : Config) (ticks : List Tick) (after : CrewState Mind) (end : FloorEnd) → Ran c.max_steps (fresh_crew c ticks) after end →
    IsFloorJournal c ticks after.core.1
of_floor c ticks after end r =
    let followed : IsFollowed floor_brain (fresh_crew c ticks).brains ((fresh_crew c ticks).core.0, after.core.1) =
    subst (λ (bs : List Mind). IsFollowed floor_brain bs ((fresh_crew c ticks).core.0, after.core.1)) r.brains
    (subst (λ (roots : List RootStart). let s : State = (roots, after.core.1) in IsFollowed floor_brain after.brains s) r.start r.followed) in
    record { legal = followed.legal; unaided = followed.unaided; follows = followed.follows }

runs_to : (c : Config) (ticks : List Tick) → IsConfig c → (after : CrewState Mind) (end : FloorEnd) → Ran c.max_steps (fresh_crew c ticks) after end →
    RunsTo c ticks after
runs_to c ticks in_form after end r =
    let journal = of_floor c ticks after end r in
    record {
      run = r.run;
      crew = record { start = r.start; brains = r.brains; journal = journal; opens = floor_opens c ticks after in_form r.run journal };
    }

pub floor_run : (c : Config) (ticks : List Tick) → IsConfig c → (before : CrewState Mind) → before ≡ fresh_crew c ticks → (text : List ℕ) (end : FloorEnd) →
    TellsRun c.max_steps before text end → IsFloorRun c ticks text end
floor_run c ticks in_form before is text end tells =
    let t = subst (λ (crew : CrewState Mind). TellsRun c.max_steps crew text end) is tells in
    record {
      after = t.after;
      runs = runs_to c ticks in_form t.after end t.ran;
      told = t.told ∙ ap (λ (roots : List RootStart). run_text roots t.after.core.1) t.ran.start;
      ends = t.ran.ends;
    }

few : (n : ℕ) → n ≤ 4_000 → most_entries 3 4 n ≤ 956_021
few n h = omega arith

-- the load comes to rest
settled : (key n : ℕ) → n ≤ 4_000 → length (generated key n) ≡ n → (after : CrewState Mind) → RunsTo load_config (generated key n) after → (end : FloorEnd) →
    EndsWith load_config.max_steps after end → IsQuiet floor_brain after
settled key n h count after runs Quiet quiet = quiet
settled key n h count after runs (Unsettled steps) stops =
    let most : length after.core.1 ≤ most_entries 3 4 (length (generated key n)) =
    settles load_config (generated key n) after.core.1 load_form runs.crew.journal in
    let least = few (length (generated key n)) (omega (arith, h, count)) in
    absurd (let full : 1_000_000 ≤ steps = stops.full in let counted = stops.counted in let z : ⊥ = omega (arith, most, least, full, counted) in z)

pub load_text : (key n : ℕ) → n ≤ 4_000 → (ticks : List Tick) → ticks ≡ generated key n → length ticks ≡ n → (c : Config) → c ≡ load_config →
    (before : CrewState Mind) → before ≡ fresh_crew c ticks →
    (text : List ℕ) → TellsReport c.max_steps before text → IsLoadText key n text
load_text key n h ticks are count c is before fresh text tells =
    let crew : before ≡ fresh_crew load_config (generated key n) =
    fresh ∙ ap (λ (d : Config). fresh_crew d ticks) is ∙ ap (λ (ts : List Tick). fresh_crew load_config ts) are in
    let t = subst (λ (b : CrewState Mind). TellsReport load_config.max_steps b text) crew
    (subst (λ (d : Config). TellsReport d.max_steps before text) is tells) in
    let runs = runs_to load_config (generated key n) load_form t.after t.end t.ran in
    record {
      after = t.after;
      runs = runs;
      quiet = settled key n h (ap (λ (ts : List Tick). length ts) (sym are) ∙ count) t.after runs t.end t.ran.ends;
      told = t.told;
    }
