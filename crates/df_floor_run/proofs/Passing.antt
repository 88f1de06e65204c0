-- The plain passes begin with the first root, which wants a call where there is a tick.
use Rattle.df_floor_run.proofs.Names.{◌≡◌, ◌⊎◌, inl, inr, ℕ, zero, suc, List, [], ◌∷◌, Bool, true, false, ◌||◌, refl, sym, ◌∙◌, ap, subst, cond, Option, Some, CrewState, want_in, asked, is_local_want, turn_of, turned, State, appended, firsts, IsPass, Repeated, is_full, take_turn, take_turns, Brain, Calls, Opens, OthersWait, Want, has_entry, is_of, answered, exists, rows, Call, UnitName}
use Rattle.df_turn.specs.Locally.{most_local}
use Rattle.df_floor_run.proofs.Keeping.{all_keep, run_keeps}
use Rattle.df_floor_run.proofs.Opening.{first, takes_all}
use Rattle.df_floor_run.proofs.Roll.{headed}

-- a turn has room for a local call
most_some : (n : ℕ) × (most_local ≡ suc n)
unfolding most_local
most_some = (1_023, refl)

or_true : (b : Bool) → (b || true) ≡ true
or_true true = refl
or_true false = refl

module _ {B : Type 0} (brain : Brain B) (bs : List B) where
  -- the journal opens, and the first root's first entry is there
  abbrev pub HasOpened : State → Type 0
  HasOpened core = Opens brain bs core.1 × (has_entry first core.1 ≡ true)

  -- so it stays, whoever acts
  opened_more : (u : UnitName) (c : Call) (core : State) → HasOpened core → HasOpened (appended u c core)
  opened_more u c core (opens, has) =
      let e = answered rows (firsts core.0) core.1 u c in
      ((opens, λ is none. absurd (let z : ⊥ = (let k = sym has ∙ none in cc) in z)), ap (λ (b : Bool). is_of first e || b) has ∙ or_true (is_of first e))

  -- the first root's first entry, once the others wait
  opens_now : (c : Call) (core : State) → Opens brain bs core.1 → OthersWait brain bs core.1 → HasOpened (appended first c core)
  opens_now c core opens wait = ((opens, λ is none. wait), refl)

  -- its first turn
  opening_turn : (n : ℕ) (c : Call) (core : State) → want_in brain bs core first ≡ Some (Calls c) → Opens brain bs core.1 → OthersWait brain bs core.1 →
      HasOpened (turn_of brain bs (suc n) first core)
  opening_turn n c core wants opens wait = by (is_local_want (want_in brain bs core first))
    where
      is : asked brain bs first core ≡ appended first c core
      is = ap (λ (w : Option Want). Rattle.df_booking.specs.Turns.asked_by core first w) wants

      once : HasOpened (asked brain bs first core)
      once = subst HasOpened (sym is) (opens_now c core opens wait)

      by : (b : Bool) → HasOpened (cond b (turn_of brain bs n first (asked brain bs first core)) (asked brain bs first core))
      by true = run_keeps brain HasOpened first (opened_more first) bs n (asked brain bs first core) once
      by false = once

module _ {B : Type 0} (brain : Brain B) (max : ℕ) (opened : CrewState B) where
  full_stays : (us : List UnitName) → is_full max opened ≡ true → take_turns brain max us opened ≡ opened
  full_stays [] full = refl
  full_stays (u ∷ us) full =
      ap (λ (c : CrewState B). take_turns brain max us c) (ap (λ (b : Bool). cond b opened (turned brain u opened)) full) ∙ full_stays us full

  module _ (there : exists rows (firsts opened.core.0) opened.core.1 first ≡ true) (c : Call)
      (wants : want_in brain opened.brains opened.core first ≡ Some (Calls c))
      (opens : Opens brain opened.brains opened.core.1) (wait : is_full max opened ≡ false → OthersWait brain opened.brains opened.core.1) where
    abbrev Goes : CrewState B → Type 0
    Goes crew = (crew ≡ opened) ⊎ HasOpened brain opened.brains crew.core

    first_pass : (names : List UnitName) → (rest : List UnitName) × (names ≡ first ∷ rest) → is_full max opened ≡ false →
        HasOpened brain opened.brains (take_turns brain max names opened).core
    first_pass names (rest, is) below =
        let turn = opening_turn brain opened.brains most_some.0 c opened.core wants opens (wait below) in
        let now = subst (λ (n : ℕ). HasOpened brain opened.brains (turn_of brain opened.brains n first opened.core)) (sym most_some.1) turn in
        let taken = subst (λ (crew : CrewState B). HasOpened brain opened.brains crew.core) (sym (takes_all brain max first opened below)) now in
        subst (λ (us : List UnitName). HasOpened brain opened.brains (take_turns brain max us opened).core) (sym is)
        (all_keep brain (HasOpened brain opened.brains) (opened_more brain opened.brains) max rest (take_turn brain max first opened) taken)

    pass_goes : (old new : CrewState B) → Goes old → IsPass brain max old new → Goes new
    pass_goes old new (inl is) pass = by (is_full max opened) refl
      where
        turns : new ≡ take_turns brain max pass.names opened
        turns = pass.turns ∙ ap (λ (crew : CrewState B). take_turns brain max pass.names crew) is

        roll : Rattle.df_machine.specs.Journal.IsRoll opened.core pass.names
        roll = subst (λ (crew : CrewState B). Rattle.df_machine.specs.Journal.IsRoll crew.core pass.names) is pass.roll

        by : (b : Bool) → is_full max opened ≡ b → Goes new
        by true full = inl (turns ∙ full_stays pass.names full)
        by false below = inr (subst (λ (crew : CrewState B). HasOpened brain opened.brains crew.core) (sym turns)
            (first_pass pass.names (headed opened.core pass.names roll there) below))
    pass_goes old new (inr has) pass =
        inr (subst (λ (crew : CrewState B). HasOpened brain opened.brains crew.core) (sym pass.turns)
        (all_keep brain (HasOpened brain opened.brains) (opened_more brain opened.brains) max pass.names old has))

    passes_go : (n : ℕ) (new : CrewState B) → Repeated (IsPass brain max) n opened new → Goes new
    passes_go zero new same = inl same
    passes_go (suc n) new (mid, before, step) = pass_goes mid new (passes_go n mid before) step

    -- after any passes the journal opens
    pub passes_open : (n : ℕ) (new : CrewState B) → Repeated (IsPass brain max) n opened new → Opens brain opened.brains new.core.1
    passes_open n new steps = elim (passes_go n new steps) [
      | inl is ↦ subst (λ (crew : CrewState B). Opens brain opened.brains crew.core.1) (sym is) opens
      | inr has ↦ has.0
    ]
