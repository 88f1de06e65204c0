-- The plain run of a floor opens: each root but the first waits before the first root's first entry.
use Rattle.df_floor_run.proofs.Names.{◌≡◌, ℕ, zero, suc, ◌<◌, List, [], ◌∷◌, ◌++◌, Bool, true, false, ◌||◌, refl, ◌∙◌, ap, subst, cond, Option, Some, length, map, arith, is_some, pred, slice_get, IsConfig, Config, CrewState, mind_in, want_by, want_in, floor_brains, paired, Mind, begins, State, firsts, IsMore, ArePasses, IsOpening, IsPlainRun, is_full, root_name, Calls, Opens, OthersWait, Start, has_entry, is_of, last_of, state_after, own, root_of, rows, grown_after, own_grows, IsFloorJournal, first_states, floor_brain, RootStart, Tick, OwnState, Call, Entry, UnitName, Reply, fresh_crew}
use Rattle.std.proofs.lemmas.List.{length-map}
use Rattle.std.proofs.lemmas.Option.{slice_get_within}
use Rattle.df_floor.specs.Starting.{floor_start}
use Rattle.df_floor_units.specs.declared.kind.Kind.TheVariants as kind
use Rattle.df_settling.proofs.Counts.{keep_counts}
use Rattle.df_settling.specs.Counts.{entries_of}
use Rattle.df_start.specs.Begun.{begun}
use Rattle.df_floor_run.proofs.Opening.{first, none_none, opened_more, opened_none, opened_waits, opens_none}
use Rattle.df_floor_run.proofs.Passing.{passes_open}

-- who has no entries has none
none_of : (u : UnitName) (past : List Entry) → entries_of u past ≡ 0 → has_entry u past ≡ false
none_of u [] h = refl
none_of u (e ∷ past) h = by (is_of u e) h (none_of u past)
  where
    by : (b : Bool) → cond b (suc (entries_of u past)) (entries_of u past) ≡ 0 → (entries_of u past ≡ 0 → has_entry u past ≡ false) →
        (b || has_entry u past) ≡ false
    by true k ih = absurd (let z : ⊥ = omega arith in z)
    by false k ih = ih k

some_within : {A : Type 0} (xs : List A) (k : ℕ) → k < length xs → (x : A) × (slice_get xs k ≡ Some x)
some_within [] k h = absurd (let z : ⊥ = omega arith in z)
some_within (x ∷ xs) zero h = (x, refl)
some_within (x ∷ xs) (suc k) h = some_within xs k (omega arith)

module _ (c : Config) (ticks : List Tick) (in_form : IsConfig c) where
  abbrev fresh : CrewState Mind
  fresh = fresh_crew c ticks

  -- a root with a brain exists from the start
  rooted : (k : ℕ) (x : Mind) → slice_get (floor_brains c ticks) k ≡ Some x → (st : OwnState) × (own rows (first_states c) [] (root_name k) ≡ Some st)
  rooted k x e =
      let inside = slice_get_within (floor_brains c ticks) k x e in
      let same = paired c ticks in_form in
      let states = lengths in
      some_within (first_states c) k (omega (arith, inside, same, states))
    where
      lengths : length (first_states c) ≡ length (floor_start c)
      lengths = length-map (map begun (floor_start c)) root_of ∙ length-map (floor_start c) begun

  module _ (opened : CrewState Mind) (run : IsOpening floor_brain c.max_steps fresh opened) where
    pub grown : IsMore fresh opened
    grown = opened_more floor_brain c.max_steps (pred (length (floor_start c))) fresh opened run

    pub silent : has_entry first opened.core.1 ≡ false
    silent = opened_none floor_brain c.max_steps (pred (length (floor_start c))) fresh opened run refl

    pub opened_opens : Opens floor_brain opened.brains opened.core.1
    opened_opens = opens_none floor_brain opened.brains opened.core.1 silent

    pub waits : is_full c.max_steps opened ≡ false → OthersWait floor_brain opened.brains opened.core.1
    waits below = λ k x e.
        let inside = slice_get_within (floor_brains c ticks) (suc k) x (subst (λ (bs : List Mind). slice_get bs (suc k) ≡ Some x) grown.brains e) in
        let same = paired c ticks in_form in
        opened_waits floor_brain c.max_steps (pred (length (floor_start c))) fresh opened run below rooted k (omega (arith, inside, same)) x e

    module _ (t : Tick) (ts : List Tick) (some : ticks ≡ t ∷ ts) where
      abbrev new_event : Call
      new_event = Call.CreateEvent

      -- the exchange exists, and wants to tell its first tick
      there : (st : OwnState) × (own rows (firsts opened.core.0) opened.core.1 first ≡ Some st)
      there =
          let start = rooted 0 (begins (kind.Exchange ticks 0)) refl in
          let later = own_grows rows (first_states c) grown_after grown.more [] first start.0 start.1 in
          (later.0, ap (λ (core : State). own rows (firsts core.0) core.1 first) cores ∙ later.1)
        where
          cores : opened.core ≡ (floor_start c, grown.more ++ [])
          cores = ap (λ (roots : List RootStart). let s : State = (roots, opened.core.1) in s) grown.start
              ∙ ap (λ (es : List Entry). let s : State = (floor_start c, es) in s) grown.journal

      wants : want_in floor_brain opened.brains opened.core first ≡ Some (Calls new_event)
      wants =
          ap (λ (bs : List Mind). want_in floor_brain bs opened.core first) grown.brains
          ∙ ap (λ (o : Option OwnState). want_by floor_brain o (mind_in floor_brain (floor_brains c ticks) opened.core first)) there.1
          ∙ ap (λ (rs : List Reply). want_by floor_brain (Some there.0)
          (Some (state_after floor_brain (begins (kind.Exchange ticks 0)) rs, last_of rs))) (none_none first opened.core.1 silent)
          ∙ ap (λ (l : List Tick). want_by floor_brain (Some there.0)
          (Some (begins (kind.Exchange l 0), Start))) some

      pub ticks_open : (after : CrewState Mind) → ArePasses floor_brain c.max_steps opened after → Opens floor_brain (floor_brains c ticks) after.core.1
      ticks_open after passes =
          subst (λ (bs : List Mind). Opens floor_brain bs after.core.1) grown.brains
          (passes_open floor_brain c.max_steps opened (ap is_some there.1) new_event wants opened_opens waits passes.count after passes.steps)

-- the plain run of a floor opens
pub floor_opens : (c : Config) (ticks : List Tick) (after : CrewState Mind) → IsConfig c → IsPlainRun floor_brain c.max_steps (fresh_crew c ticks) after →
    IsFloorJournal c ticks after.core.1 →
    Opens floor_brain (floor_brains c ticks) after.core.1
floor_opens c [] after in_form run journal =
    opens_none floor_brain (floor_brains c []) after.core.1
    (none_of first after.core.1 (let k = (keep_counts c [] after.core.1 in_form journal).exchange in omega (arith, k)))
floor_opens c (t ∷ ts) after in_form run journal = ticks_open c (t ∷ ts) in_form run.opened run.opening t ts refl after run.passes
