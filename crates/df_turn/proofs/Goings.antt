-- A turn under way goes on, and how it ends.
use Rattle.std.proofs.Common.{◌≡◌, ℕ, ◌+◌, ◌-◌, ◌*◌, ◌<◌, ◌≤◌, suc, [], ◌∷◌, ◌++◌, Bool, true, false, refl, sym, ◌∙◌, ap, subst, cond, Result, Ok, Err, length, arith, length-append}
use Rattle.std.specs.Prelude.{List, OnErr, OnOk, Some, slice_get}
use Rattle.df_brain.specs.Brain.{last_of, want_of}
use Rattle.df_brain.specs.declared.last.Last.{Last as Tell}
use Rattle.df_brain.specs.declared.want.Want.{Want as Wish}
use Rattle.df_brain.specs.declared.want.Want.TheVariants as wish
use Rattle.df_local.specs.Locally.{row_answer}
use Rattle.df_local.specs.code.LocalState.{LocalState}
use Rattle.df_local_run.specs.Runs.{called, is_local, local_entry, moved_by}
use Rattle.df_local_run.specs.RunState.{RunState}
use Rattle.df_rules.specs.Follows.{Brain, Calls, Last, Replied, Want}
use Rattle.df_unit.specs.declared.call.Call.{Call}
use Rattle.df_unit.specs.declared.entry.Entry.{Entry}
use Rattle.df_unit.specs.declared.entry.Entry.TheVariants.{Done}
use Rattle.df_turn.specs.code.Going.{IsAt, IsEnded, IsGoing, IsSettled, IsTaken, goes_on, led, now_of, steps_left, steps_made, told_behind, told_by_entry}
use Rattle.df_turn.specs.Locally.{RunsTo, moved_want, most_local, ready_by, ready_from, told_want, wants_local}
use Rattle.df_turn.specs.declared.ready.Ready.{Ready}
use Rattle.df_turn.specs.declared.ready.Ready.TheVariants.{Long}
use Rattle.df_turn.specs.declared.going.Going.{Going}
use Rattle.df_turn.specs.declared.stage.Stage.{Stage}
use Rattle.df_turn.specs.declared.stage.Stage.TheVariants.{Answered, Told, Wants}
use Rattle.df_unit.specs.declared.entry.Effect.{Effect}
use Rattle.df_unit.specs.declared.name.UnitName.{UnitName}
use Rattle.df_unit.specs.declared.reply.Reply.{Reply}
use Rattle.df_turn.proofs.Runs.{led_more, run_more, run_ready}

-- how a turn ends at a stage
abbrev pub by : Stage → Ready
by (Told l) = Long
by Answered = Long
by (Wants w) = ready_by (want_of w)

pub most_is : most_local ≡ 1_024
unfolding most_local
most_is = refl

pub told_pair : {B : Type 0} (x y : B) (l k : Tell) → x ≡ y → l ≡ k → (let p : B × Last = (y, last_of k) in p) ≡ (x, last_of l)
told_pair x y l k e f = ap (λ v. let p : _ × Last = (v, last_of k) in p) (sym e) ∙ ap (λ (t : Tell). let p : _ × Last = (x, last_of t) in p) (sym f)

-- the brain is told the reply of the newest entry
newest_told : (es : List Entry) (a : UnitName) (c : Call) (r : Reply) (f : Effect) → told_behind (es ++ Done a c r f ∷ []) ≡ Replied r
newest_told es a c r f = ap told_by_entry (at_end es (Done a c r f))
  where
    at_end : (xs : List Entry) (e : Entry) → slice_get (xs ++ e ∷ []) (length (xs ++ e ∷ []) - 1) ≡ Some e
    at_end [] e = refl
    at_end (x ∷ xs) e =
        let k : length (x ∷ (xs ++ e ∷ [])) - 1 ≡ suc (length (xs ++ e ∷ []) - 1) = omega (arith, length-append xs (e ∷ [])) in
        ap (slice_get (x ∷ (xs ++ e ∷ []))) k ∙ at_end xs e

-- a turn that is settled once no local call is left has ended
pub settled_ends : {B T E : Type 0} (G : B × Last → Type 0) (old new : Going B) (r : Result T E) → new.run ≡ old.run → goes_on new.stage ≡ goes_on old.stage → OnOk r (IsSettled new.stage) →
    ((k : B × Last) → G k → goes_on old.stage ≡ true → length old.run.entries ≡ most_local) → OnOk r ((k : B × Last) → G k → IsEnded new)
settled_ends G old new (Ok x) run same settled full =
    λ k h. record { full = λ goes. ap (λ (s : RunState). length s.entries) run ∙ full k h (sym same ∙ goes); settled = settled }
settled_ends G old new (Err e) run same settled full = tt

module _ {B : Type 0} (brain : Brain B) (m : B × Last) where
  -- a turn without calls
  pub begins : (unit : LocalState) (run : RunState) → run ≡ record { base = unit; present = unit; entries = [] } → (x : B) (l : Tell) → m ≡ (x, last_of l) →
      IsGoing brain m (record { run = run; state = x; stage = Told l })
  begins unit run is x l at = subst (λ (r : RunState). IsGoing brain m (record { run = r; state = x; stage = Told l })) (sym is)
      (record { run = (refl, refl); few = (let z : 0 ≤ most_local = omega arith in z); at = at })

  -- the brain was asked
  pub asked_goes : (old : Going B) (x : B) (l : Tell) (w : Wish) → old.stage ≡ Told l → (want_of w, x) ≡ brain.next old.state (last_of l) → length old.run.entries < most_local →
      IsGoing brain m old → IsGoing brain m (record { run = old.run; state = x; stage = Wants w })
  asked_goes old x l w stage wants few h =
      let at : now_of brain m old ≡ (old.state, last_of l) = subst (λ (s : Stage). IsAt brain (now_of brain m old) old.run.entries old.state s) stage h.at in
      record {
        run = h.run;
        few = h.few;
        at = (wants ∙ ap (λ (p : B × Last). brain.next p.0 p.1) (sym at), few);
      }

  -- the call that was wanted is made
  made_goes : (old : Going B) (run : RunState) (c : Call) → old.stage ≡ Wants (wish.Call c) → is_local c ≡ true → run ≡ called old.run c → IsGoing brain m old →
      IsGoing brain m (record { run = run; state = old.state; stage = Answered })
  made_goes old run c wants local is h = subst (λ (r : RunState). IsGoing brain m (record { run = r; state = old.state; stage = Answered })) (sym is) here
    where
      now : B × Last
      now = now_of brain m old

      at : ((Calls c, old.state) ≡ brain.next now.0 now.1) × (length old.run.entries < most_local)
      at = subst (λ (s : Stage). IsAt brain now old.run.entries old.state s) wants h.at

      e : Entry
      e = local_entry old.run.present c

      lead : led brain (old.run.entries ++ e ∷ []) m ≡ ((brain.next now.0 now.1).1, Replied (row_answer old.run.present [] c).0)
      lead = led_more brain old.run.entries m old.run.present.unit c (row_answer old.run.present [] c).0 (row_answer old.run.present [] c).1

      here : IsGoing brain m (record { run = called old.run c; state = old.state; stage = Answered })
      here = record {
        run = subst (λ (p : B × Last). RunsTo brain (old.run.entries ++ e ∷ []) old.run.base m (moved_by old.run.present e) p) (sym lead)
            (run_more brain old.run.entries old.run.base old.run.present m now old.run.present.unit c (row_answer old.run.present [] c).0 (row_answer old.run.present [] c).1
            h.run (sym (ap (λ (p : Want × B). p.0) at.0)) (refl, local, refl));
        few = (let k : length (old.run.entries ++ e ∷ []) ≤ most_local = (let few = at.1 in omega (arith, length-append old.run.entries (e ∷ []))) in k);
        at = lead ∙ ap (λ (p : Want × B). let q : B × Last = (p.1, Replied (row_answer old.run.present [] c).0) in q) (sym at.0)
            ∙ ap (λ (l : Last). let q : B × Last = (old.state, l) in q)
            (sym (newest_told old.run.entries old.run.present.unit c (row_answer old.run.present [] c).0 (row_answer old.run.present [] c).1));
      }

  makes : (old : Going B) (run : RunState) → goes_on old.stage ≡ true → IsTaken old.run run old.stage → IsGoing brain m old → IsGoing brain m (record { run = run; state = old.state; stage = Answered })
  makes old run goes taken h = go old.stage refl goes taken
    where
      go : (x : Stage) → old.stage ≡ x → goes_on x ≡ true → IsTaken old.run run x → IsGoing brain m (record { run = run; state = old.state; stage = Answered })
      go (Told l) e goes taken = absurd taken
      go Answered e goes taken = absurd taken
      go (Wants wish.Wait) e goes taken = absurd taken
      go (Wants (wish.Call c)) e goes taken = made_goes old run c e goes taken h

  -- fewer steps are left
  fewer_made : (old run : RunState) (x : Stage) → IsTaken old run x → length old.entries < most_local → 2 * (most_local - length run.entries) < 2 * (most_local - length old.entries) - steps_made x
  fewer_made old run (Told l) taken few = absurd taken
  fewer_made old run Answered taken few = absurd taken
  fewer_made old run (Wants wish.Wait) taken few = absurd taken
  fewer_made old run (Wants (wish.Call c)) taken few =
      let e : Entry = local_entry old.present c in
      let longer : length run.entries ≡ length (old.entries ++ e ∷ []) = ap (λ (r : RunState). length r.entries) taken in
      omega (arith, length-append old.entries (e ∷ []))

  based : (old run : RunState) (x : Stage) → IsTaken old run x → run.base ≡ old.base
  based old run (Told l) taken = absurd taken
  based old run Answered taken = absurd taken
  based old run (Wants wish.Wait) taken = absurd taken
  based old run (Wants (wish.Call c)) taken = ap (λ (r : RunState). r.base) taken

  -- a step that makes a call, or has no memory for it
  pub step_goes : {T E : Type 0} (old new : Going B) (r : Result T E) → OnOk r (IsTaken old.run new.run old.stage) → OnOk r (new.stage ≡ Answered) → new.state ≡ old.state → OnErr r (new ≡ old) →
      goes_on old.stage ≡ true → IsGoing brain m old → IsGoing brain m new
  step_goes old new (Ok x) ok stage state err goes h = subst (λ (y : B). IsGoing brain m (record { run = new.run; state = y; stage = new.stage })) (sym state)
      (subst (λ (s : Stage). IsGoing brain m (record { run = new.run; state = old.state; stage = s })) (sym stage) (makes old new.run goes ok h))
  step_goes old new (Err e) ok stage state err goes h = subst (λ (k : Going B). IsGoing brain m k) (sym err) h

  pub step_based : {T E : Type 0} (old new : Going B) (r : Result T E) → OnOk r (IsTaken old.run new.run old.stage) → OnErr r (new ≡ old) → new.run.base ≡ old.run.base
  step_based old new (Ok x) ok err = based old.run new.run old.stage ok
  step_based old new (Err e) ok err = ap (λ (k : Going B). k.run.base) err

  pub step_fewer : {T E : Type 0} (old new : Going B) (r : Result T E) → OnOk r (IsTaken old.run new.run old.stage) → OnOk r (new.stage ≡ Answered) → length old.run.entries < most_local →
      OnOk r (steps_left new < steps_left old)
  step_fewer old new (Ok x) ok stage few =
      let none : steps_made new.stage ≡ 0 = ap steps_made stage in
      let less = fewer_made old.run new.run old.stage ok few in omega (arith, none, less)
  step_fewer old new (Err e) ok stage few = tt

  spare : (n k : ℕ) → n < k → (d : ℕ) × (k ≡ n + suc d)
  spare n k h = (k - n - 1, omega arith)

  -- how the turn ends
  pub is_ready : (old : Going B) (s : Stage) → old.stage ≡ s → IsGoing brain m old → IsEnded old → ready_from brain most_local old.run.base m.0 m.1 ≡ by s
  is_ready old (Told l) e h ended =
      let full = ended.full (ap goes_on e) in
      run_ready brain old.run.entries old.run.base old.run.present m (now_of brain m old) h.run most_local 0 (omega arith)
  is_ready old Answered e h ended = absurd (subst (λ (x : Stage). IsSettled x) e ended.settled)
  is_ready old (Wants w) e h ended =
      let now = now_of brain m old in
      let at : ((want_of w, old.state) ≡ brain.next now.0 now.1) × (length old.run.entries < most_local) = subst (λ (x : Stage). IsAt brain now old.run.entries old.state x) e h.at in
      let d = spare (length old.run.entries) most_local at.1 in
      let next = brain.next now.0 now.1 in
      let want : next.0 ≡ want_of w = sym (ap (λ (p : Want × B). p.0) at.0) in
      run_ready brain old.run.entries old.run.base old.run.present m now h.run most_local (suc d.0) d.1
      ∙ ap (λ (v : Want). cond (wants_local v) (ready_from brain d.0 (moved_want old.run.present v) next.1 (told_want old.run.present v)) (ready_by v)) want
      ∙ ap (λ (b : Bool). cond b (ready_from brain d.0 (moved_want old.run.present (want_of w)) next.1 (told_want old.run.present (want_of w))) (ready_by (want_of w)))
      (shared (wants_local (want_of w)) refl (ap goes_on e) at.1)
    where
      shared : (b : Bool) → wants_local (want_of w) ≡ b → goes_on old.stage ≡ wants_local (want_of w) → length old.run.entries < most_local → wants_local (want_of w) ≡ false
      shared true k same few = absurd (let full = ended.full (same ∙ k) in let z : ⊥ = omega arith in z)
      shared false k same few = k
