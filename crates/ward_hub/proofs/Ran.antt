-- A run of workers between two journals is one between longer ones.
use Rattle.std.proofs.Common.{inl, inr, ℕ, List, arith, subst, IfOk, Result, Ok, Err}
use mathlib.Core.List.{IsPrefix}
use Rattle.df_booking.specs.CrewState.{CrewState}
use Rattle.df_crew.proofs.Seen.{more_origin, more_seen}
use Rattle.df_crew.specs.Growing.{IsMore}
use Rattle.df_crew.specs.Seen.{origin_of, seen_of}
use Rattle.df_crew.specs.declared.origin.Origin.{Origin}
use Rattle.df_rules.specs.Follows.{Brain}
use Rattle.df_unit.specs.declared.entry.Entry.{Entry}
use Rattle.df_workers.proofs.Gathered.{run_before}
use Rattle.df_workers.proofs.Prefixed.{prefix_length, served_behind}
use Rattle.df_workers.specs.Serving.{HaveRun}

module _ {B : Type 0} (brain : Brain B) where
  pub run_behind : (o : Origin B) (max : ℕ) (a b c : List Entry) → HaveRun brain o max a b → IsPrefix b c → HaveRun brain o max a c
  run_behind o max a b c (inl full) p = let longer = prefix_length b c p in inl (omega (arith, longer))
  run_behind o max a b c (inr served) p = inr (λ u there. served_behind brain o u a b c (served u there) p)

  -- a run of an opened crew is one of the crew before
  run_opened : (max : ℕ) (crew opened : CrewState B) (seen : List Entry) → IsMore crew opened →
      HaveRun brain (origin_of opened) max (seen_of opened) seen → HaveRun brain (origin_of crew) max (seen_of crew) seen
  run_opened max crew opened seen m ran =
      run_before brain (origin_of crew) max (seen_of crew) (seen_of opened) seen (more_seen crew opened m)
      (let P : Origin B → Type 0 = λ o. HaveRun brain o max (seen_of opened) seen in subst P (more_origin crew opened m) ran)

  -- the same of a run that may have failed
  pub ran_opened : {E : Type 0} (max : ℕ) (crew opened : CrewState B) → IsMore crew opened → (r : Result (CrewState B) E) →
      IfOk r (λ after. HaveRun brain (origin_of opened) max (seen_of opened) (seen_of after)) →
      IfOk r (λ after. HaveRun brain (origin_of crew) max (seen_of crew) (seen_of after))
  ran_opened max crew opened m (Ok after) ran = run_opened max crew opened (seen_of after) m ran
  ran_opened max crew opened m (Err e) ran = ran
