-- What follows a step.
use Rattle.df_workers.proofs.Names.{◌≡◌, inl, inr, ℕ, ◌<◌, ◌≤◌, List, Bool, true, false, refl, sym, ◌∙◌, ap, subst, cond, Some, None, Result, Ok, Err, length, arith, ◌==◌, IfOk, nat_le, nat_tests, IsPrefix, IsCurrent, IsBegun, IsResting, core_at, crew_at, Origin, IsBooked, IsCounted, Brain, TurnState, Entry, UnitName, HasMoved, IsServed, IsFirst, IsNext, next_by, next_of, next_turn, Came, Still, Moved, Full, NoMemory, Goes, Ends, begun_current, local_named}
use Rattle.df_crew.specs.Booking.{IsRefused}
use Rattle.df_crew.specs.declared.crew.BookCause.{BookCause}
use Rattle.df_crew.specs.declared.crew.BookCause.TheVariants.{Stale}
use Rattle.df_crew.specs.declared.crew.BookCause.TheVariants as why
use Rattle.df_hub.specs.declared.hub.Stepped.{Stepped}
use Rattle.df_memory.specs.declared.NoMemory as label
use Rattle.df_workers.specs.declared.step.Next.{Next}
use Rattle.df_workers.proofs.Others.{stale_moved}
use Rattle.df_workers.proofs.Prefixed.{moved_before, moved_behind, prefix_length}
use Rattle.df_workers.proofs.Turned.{booked_behind, booked_moved, booked_rests}

module _ {B : Type 0} (brain : Brain B) (o : Origin B) (max : ℕ) (u : UnitName) where
  -- behind a booking
  pub next_booked : (t : TurnState B) (before found after : List Entry) → IsPrefix before found → (named : t.unit.unit ≡ u) → t.is_ready ≡ true
      → IsBooked brain o t found after →
      (s : Stepped B) → IsCounted found after s.appended s.entries → IfOk s.turn (λ (next : TurnState B). IsBegun brain o.brains (core_at o after) u next) →
      IsNext brain o max u before after (next_of max s)
  next_booked t before found after p named ready b s k anew = by (nat_le max s.entries) refl (s.appended == 0) refl
    where
      goes : (r : Result (TurnState B) label.NoMemory) → IfOk r (λ (next : TurnState B). IsBegun brain o.brains (core_at o after) u next) → s.entries < max
          → 0 < s.appended →
          IsNext brain o max u before after (next_turn r)
      goes (Err e) begun few some = (tt, tt)
      goes (Ok next) begun few some =
          let longer : length found < length after = (let a = k.grown in omega (arith, a, some)) in
          let moved = subst (λ (v : UnitName). HasMoved v found after) named (booked_moved brain o t found after b ready longer) in
          let first = prefix_length before found p in (
            begun,
            moved_before u before found after p moved,
            (
              (let e = k.all in let z : length before < max = omega (arith, e, first, few, longer) in z),
              (let z : length before < length after = omega (arith, first, longer) in z),
            ),
            refl,
          )

      still : s.appended ≡ 0 → IsServed brain o u before after
      still none = inr (record {
        journal = found;
        from = p;
        to = booked_behind brain o t found after b;
        resting = subst (λ (v : UnitName). IsResting brain (crew_at o found) v) named
            (booked_rests brain o t found after b ready (let a = k.grown in omega (arith, a, none)));
      })

      by : (full : Bool) → nat_le max s.entries ≡ full → (none : Bool) → (s.appended == 0) ≡ none →
          IsNext brain o max u before after (next_by (cond full (Some Full) (cond none (Some Still) None)) s.turn)
      by true e none d = (tt, (let n = k.all in let z : max ≤ length after = grind (arith, nat_tests) in z))
      by false e true d = (still (grind (arith, nat_tests)), tt)
      by false e false d = goes s.turn anew (grind (arith, nat_tests)) (grind (arith, nat_tests))

  -- behind a turn that was stale and begun again
  pub next_again : (t : TurnState B) (before found after : List Entry) → IsPrefix before found → IsPrefix found after
      → IsBegun brain o.brains (core_at o before) u t →
      ¬ IsCurrent brain t (crew_at o found) → (next : Next B) → IsFirst brain o u after next → IsNext brain o max u before after next
  next_again t before found after p q begun stale (Goes again came) (first, is) =
      let moved = moved_behind u before found after (stale_moved brain o t before found p u begun stale) q in
      subst (λ (c : Came). IsNext brain o max u before after (Goes again c)) (sym is) (first, moved, tt, refl)
  next_again t before found after p q begun stale (Ends came) first =
      let moved = moved_behind u before found after (stale_moved brain o t before found p u begun stale) q in by came first moved
    where
      by : (came : Came) → IsFirst brain o u after (Ends came) → HasMoved u before after → IsNext brain o max u before after (Ends came)
      by Still h moved = (inl moved, tt)
      by Moved h moved = absurd h
      by Full h moved = absurd h
      by NoMemory h moved = (tt, tt)

  -- a turn that began in what was seen, was advanced, and stepped
  module _ (first t : TurnState B) (before : List Entry) (begun : IsBegun brain o.brains (core_at o before) u first)
      (advanced : t ≡ record first { is_ready = true }) where
    of_unit : t.unit.unit ≡ u
    of_unit = ap (λ (x : TurnState B). x.unit.unit) advanced ∙ (local_named (core_at o before) u first.unit begun.unit).0

    still_current : (found : List Entry) → IsCurrent brain first (crew_at o found) → IsCurrent brain t (crew_at o found)
    still_current found c = subst (λ (x : TurnState B). IsCurrent brain x (crew_at o found)) (sym advanced) (record { unit = c.unit; mind = c.mind })

    -- it is current in what was seen
    pub seen_current : IsCurrent brain t (crew_at o before)
    seen_current = still_current before (begun_current brain o first before u begun)

    -- it was booked
    pub step_booked : (found after : List Entry) → IsPrefix before found → IsBooked brain o t found after → (s : Stepped B)
        → IsCounted found after s.appended s.entries →
        IfOk s.turn (λ (next : TurnState B). IsBegun brain o.brains (core_at o after) t.unit.unit next) → (next : Next B) → next ≡ next_of max s → IsNext
        brain o max u before after next
    step_booked found after p b s k anew next is =
        subst (λ (n : Next B). IsNext brain o max u before after n) (sym is)
        (next_booked t before found after p of_unit (ap (λ (x : TurnState B). x.is_ready) advanced) b s k
        (subst (λ (v : UnitName). IfOk s.turn (λ (next : TurnState B). IsBegun brain o.brains (core_at o after) v next)) of_unit anew))

    -- it was refused, and begun again where it was stale
    pub step_refused : (found after : List Entry) → IsPrefix before found → IsPrefix found after → (cause : BookCause)
        → IsRefused cause brain t (crew_at o found) → (next : Next B) →
        (cause ≡ Stale → IsFirst brain o u after next) → (cause ≡ why.NoMemory → next ≡ Ends NoMemory) → IsNext brain o max u before after next
    step_refused found after p q Stale stale next again short =
        next_again first before found after p q begun (λ c. stale (still_current found c)) next (again refl)
    step_refused found after p q why.NoMemory refused next again short =
        subst (λ (n : Next B). IsNext brain o max u before after n) (sym (short refl)) (tt, tt)
