-- What workers make of a crew, and what that tells of the floor whose crew it is.
use Rattle.df_floor_run.proofs.Names.{◌≡◌, ℕ, List, ◌++◌, Bool, true, false, refl, sym, ◌∙◌, ap, subst, length, ◌↔◌, IsPrefix, CrewState, IsFollowed, IsConfig, Config, more_trans, IsMore, origin_of, seen_of, floor_brains, Mind, State, IsAtLimit, IsOpening, IsQuiet, is_full, Ended, Opens, IsFloorJournal, floor_brain, RootStart, Tick, Entry, EndsWith, IsFloorCrew, IsWorkedRun, fresh_crew, run_text, TellsWorked, Worked, end_of, FloorEnd}
use Rattle.std.specs.Prelude.{reverse}
use Rattle.std.proofs.lemmas.List.{reverse-append, reverse-reverse}
use Rattle.df_crew.specs.declared.origin.Origin.{Origin}
use Rattle.df_plain_floor.specs.declared.run.Ended.TheVariants as ended
use Rattle.df_floor_run.proofs.Opens as opens
use Rattle.df_floor_run.proofs.Whole.{ends}
use Rattle.df_floor_run.proofs.Worked.{worked_opens}

-- a crew of the same origin whose journal begins with another's has more entries, and no other change
pub more_of : {B : Type 0} (a b : CrewState B) → origin_of b ≡ origin_of a → IsPrefix (seen_of a) (seen_of b) → IsMore a b
more_of {B} a b origin begins = record {
  start = ap (λ (o : Origin B). o.start) origin;
  brains = ap (λ (o : Origin B). o.brains) origin;
  more = reverse begins.0;
  journal =
      sym (reverse-reverse b.core.1)
      ∙ ap (λ (es : List Entry). reverse es) (sym begins.1)
      ∙ reverse-append (reverse a.core.1) begins.0
      ∙ ap (λ (es : List Entry). reverse begins.0 ++ es) (reverse-reverse a.core.1);
}

-- the opening, what workers made of it, and the plain passes behind that
pub worked : (max : ℕ) (before opened served after : CrewState Mind) (e : Ended) (end : FloorEnd) → IsOpening floor_brain max before opened →
    IsMore opened served → (is_full max opened ≡ true → served ≡ opened) → IsMore served after → (is_full max served ≡ true → after ≡ served) →
    ((e ≡ ended.Quiet) ↔ IsQuiet floor_brain after) → ((e ≡ ended.Limit) ↔ IsAtLimit floor_brain max after) →
    end ≡ end_of e (length after.core.1) → IsFollowed floor_brain after.brains after.core → Worked max before after end
worked max before opened served after e end opening more stopped passed full quiet limit is followed = record {
  goes = record {
    opened = opened;
    opening = opening;
    more = more_trans opened served after more passed;
    stopped = λ h. full (ap (is_full max) (stopped h) ∙ h) ∙ stopped h;
  };
  followed = followed;
  ends = subst (λ (x : FloorEnd). EndsWith max after x) (sym is) (ends max after e quiet limit);
}

module _ (c : Config) (ticks : List Tick) (form : IsConfig c) (after : CrewState Mind) (end : FloorEnd)
    (h : Worked c.max_steps (fresh_crew c ticks) after end) where
  grown : IsMore (fresh_crew c ticks) after
  grown = more_trans (fresh_crew c ticks) h.goes.opened after (opens.grown c ticks form h.goes.opened h.goes.opening) h.goes.more

  journal : IsFloorJournal c ticks after.core.1
  journal =
      let followed : IsFollowed floor_brain (fresh_crew c ticks).brains ((fresh_crew c ticks).core.0, after.core.1) =
      subst (λ (bs : List Mind). IsFollowed floor_brain bs ((fresh_crew c ticks).core.0, after.core.1)) grown.brains
      (subst (λ (roots : List RootStart). let s : State = (roots, after.core.1) in IsFollowed floor_brain after.brains s) grown.start h.followed) in
      record { legal = followed.legal; unaided = followed.unaided; follows = followed.follows }

  all_open : Opens floor_brain (floor_brains c ticks) after.core.1
  all_open = by (is_full c.max_steps h.goes.opened) refl
    where
      by : (b : Bool) → is_full c.max_steps h.goes.opened ≡ b → Opens floor_brain (floor_brains c ticks) after.core.1
      by true full = subst (λ (k : CrewState Mind). Opens floor_brain (floor_brains c ticks) k.core.1) (sym (h.goes.stopped full))
          (subst (λ (bs : List Mind). Opens floor_brain bs h.goes.opened.core.1) (opens.grown c ticks form h.goes.opened h.goes.opening).brains
          (opens.opened_opens c ticks form h.goes.opened h.goes.opening))
      by false below = worked_opens c ticks form h.goes.opened after h.goes.opening below h.goes.more journal

  pub floor_crew : IsFloorCrew c ticks after
  floor_crew = record { start = grown.start; brains = grown.brains; journal = journal; opens = all_open }

pub worked_run : (c : Config) (ticks : List Tick) → IsConfig c → (before : CrewState Mind) → before ≡ fresh_crew c ticks → (text : List ℕ) (end : FloorEnd) →
    TellsWorked c.max_steps before text end → IsWorkedRun c ticks text end
worked_run c ticks form before is text end tells =
    let t = subst (λ (crew : CrewState Mind). TellsWorked c.max_steps crew text end) is tells in
    let crew = floor_crew c ticks form t.after end t.worked in
    record {
      after = t.after;
      crew = crew;
      told = t.told ∙ ap (λ (roots : List RootStart). run_text roots t.after.core.1) crew.start;
      ends = t.worked.ends;
    }
