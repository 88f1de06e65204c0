-- What is found for entries, as far as a machine has gone over a journal.
use Rattle.std.proofs.Common.{◌≡◌, ◌⊎◌, inl, inr, ℕ, zero, suc, ◌+◌, ◌<◌, ◌≤◌, List, [], ◌∷◌, ◌++◌, Bool, true, false, length, get_or, take, drop, replicate, reverse, refl, sym, ◌∙◌, ap, subst, cond, Option, Some, None, arith}
use Rattle.std.specs.Prelude.{◌||◌, IfSome, map, slice_get}
use Rattle.std.specs.BTreeMap.{btree_map_len}
use Rattle.std.specs.List.{list_any}
use Rattle.std.proofs.Math.Seq.{get_or-append_seam}
use Rattle.std.proofs.lemmas.Bool.{cases_lt, lt-ltb}
use Rattle.std.proofs.lemmas.List.{append-nil, append_assoc, get_or_append_left, length-append, length-reverse, length-take-le, reverse-append, take-append-drop, take_all}
use Rattle.df_machine.specs.Journal.{State, firsts, left_in, number_left}
use Rattle.df_replay.proofs.Replayed.{core_more, reversed_more}
use Rattle.df_replay.proofs.Right.{right_is}
use Rattle.df_replay.specs.Replay.{replayed}
use Rattle.df_rules.proofs.Taking.{absent_receives_nothing, gets_give_deliveries}
use Rattle.df_rules.proofs.TakingRows.{row_taking_laws}
use Rattle.df_rules.specs.Commits.{commit_of, given_in}
use Rattle.df_rules.specs.Deliveries.{deliveries}
use Rattle.df_rules.specs.Legal.{IsRight, Legal, left}
use Rattle.df_rules.specs.Own.{own}
use Rattle.df_rules.specs.Received.{received}
use Rattle.df_rules.specs.Start.{rows}
use Rattle.df_start.specs.Begun.{begun}
use Rattle.df_start.specs.declared.start.RootStart.{RootStart}
use Rattle.df_unit.proofs.SameFacts.{same_name-exact, same_name_decides}
use Rattle.df_unit.specs.Name.{same}
use Rattle.df_unit.specs.OwnState.{OwnState}
use Rattle.df_unit.specs.UnitOrder.{unit_cmp}
use Rattle.df_unit.specs.declared.call.Call.{Call}
use Rattle.df_unit.specs.declared.commit.Given.{Given}
use Rattle.df_unit.specs.declared.entry.Effect.{Effect}
use Rattle.df_unit.specs.declared.entry.Entry.{Entry}
use Rattle.df_unit.specs.declared.entry.Entry.TheVariants.{Done, Emitted}
use Rattle.df_unit.specs.declared.name.UnitName.{UnitName}
use Rattle.df_unit.specs.declared.name.UnitName.TheVariants.{Managed, Root}
use Rattle.df_unit.specs.declared.reply.Reply.{Reply}
use Rattle.df_why.specs.code.Arising.{IsAnswer, IsQueue, IsWhole, QueueState}
use Rattle.df_why.specs.code.Links.{AreFound, IsFound, found_at, nothing_found}
use Rattle.df_why.specs.code.Names.{actor_of}
use Rattle.df_why.specs.code.Numbers.{Finds}
use Rattle.df_why.specs.code.Queues.{AreBrought, IsStepped, IsTakenBelow, all_grown, found_for, found_in, grown, taken_at, taken_by, taken_more}
use Rattle.df_why.specs.code.Tracks.{AreNumbered, AreTracked, IsTrack, hands, is_given, track_at}
use Rattle.df_why.specs.declared.found.Found.{Found}
use Rattle.df_why.specs.declared.tracks.Tables.{Tables}
use Rattle.df_why.specs.declared.tracks.Track.{Track}
use Rattle.df_why.proofs.Arising.{count_grows, queue_filled, queue_later, quiet_count, whole_answers}
use Rattle.df_why.proofs.Existing.{absent_nothing}
use Rattle.df_why.proofs.Origins.{legal_before, right_at}
use Rattle.df_why.proofs.Queueing.{OfQueues, all_come, changed, same_each}

-- the first entries are gone over
pub record IsFindSoFar (start : List RootStart) (tables : Tables) (j : List Entry) (i : ℕ) (core : State) (queues : List QueueState)
    (finds : List Found) : Type 0 where
  pub core_is : core ≡ (start, reverse (take i j))
  pub queues_are : OfQueues tables.units queues (IsWhole rows (firsts start) (reverse (take i j)))
  pub count_is : length finds ≡ i
  pub found : AreFound rows (firsts start) (reverse (take i j)) finds

-- an entry of a list that has one
pub any_entry : (j : List Entry) (p : ℕ) → p < length j → Entry
any_entry [] p lt = absurd (omega (arith, lt))
any_entry (e ∷ j) p lt = e

module _ (start : List RootStart) where
  -- what is taken and what is left are all deliveries
  pub counted : (past : List Entry) → Legal rows (firsts start) past → (u : UnitName)
      → length (received u past) + left_in (start, past) u ≡ length (deliveries rows (firsts start) past u)
  counted past legal u = go (own rows (firsts start) past u) refl
    where
      go : (o : Option OwnState) → own rows (firsts start) past u ≡ o
          → length (received u past) + number_left o (deliveries rows (firsts start) past u) ≡ length (deliveries rows (firsts start) past u)
      go None is =
          let none = ap (λ (ds : List Given). length ds) (absent_receives_nothing rows (firsts start) (row_taking_laws (map begun start)) past legal u is) in
          let no = ap (λ (ds : List Given). length ds) (absent_nothing rows (firsts start) past u is) in
          omega (arith, none, no)
      go (Some st) is =
          let all = (gets_give_deliveries rows (firsts start) (row_taking_laws (map begun start)) past legal u st is).all in
          let size = length-append (received u past) (left st (deliveries rows (firsts start) past u)) in
          sym size ∙ ap (λ (ds : List Given). length ds) all

  module _ (tables : Tables) (numbered : AreNumbered tables) (j : List Entry) (tracks : List Track) (tracked : AreTracked tables tracks j) where
    -- one more entry
    module _ (past : List Entry) (legal : Legal rows (firsts start) past) (queues : List QueueState)
        (all : OfQueues tables.units queues (IsWhole rows (firsts start) past)) (e : Entry) (t : Track) (is : IsTrack tables e t)
        (right : IsRight rows (firsts start) past e) where
      abbrev count : List Entry → UnitName → ℕ
      count past u = length (deliveries rows (firsts start) past u)

      -- no more is taken than there was
      few : (u : UnitName) → length (received u (e ∷ past)) ≤ count past u
      few u = by e refl
        where
          before : length (received u past) ≤ count past u
          before = let all = counted past legal u in omega (arith, all)

          after : commit_of e ≡ None → length (received u (e ∷ past)) ≤ count past u
          after none =
              let all = counted (e ∷ past) (legal, right) u in
              let same = quiet_count rows (firsts start) u past e none in
              omega (arith, all, same)

          by : (x : Entry) → e ≡ x → length (received u (e ∷ past)) ≤ count past u
          by (Emitted k) ex = subst (λ (x : Entry). length (received u (x ∷ past)) ≤ count past u) (sym ex) before
          by (Done a c r (Effect.Given d)) ex = after (ap commit_of ex)
          by (Done a c r Effect.Nothing) ex = after (ap commit_of ex)
          by (Done a c r (Effect.Commit k)) ex = subst (λ (x : Entry). length (received u (x ∷ past)) ≤ count past u) (sym ex) (go (same a u))
            where
              go : (b : Bool) → length (cond b (received u past ++ []) (received u past)) ≤ count past u
              go true = subst (λ (l : List Given). length l ≤ count past u) (sym (append-nil (received u past))) before
              go false = before

      -- what it is handed is taken
      abbrev Taken : UnitName → QueueState → Type 0
      Taken u q = IsQueue rows (firsts start) (e ∷ past) u q × (count past u ≤ length q.places)

      later : (u : UnitName) (q q' : QueueState) → IsWhole rows (firsts start) past u q → q'.taken ≡ length (received u (e ∷ past)) → q'.places ≡ q.places
          → Taken u q'
      later u q q' whole taken places = (
        queue_later rows (firsts start) u past e q q' whole.queue taken places,
        (let size = ap (λ (l : List ℕ). length l) places in let n = whole.count in omega (arith, size, n)),
      )

      same_later : (u : UnitName) (q : QueueState) → received u (e ∷ past) ≡ received u past → IsWhole rows (firsts start) past u q → Taken u q
      same_later u q same whole = later u q q whole (whole.queue.taken ∙ ap (λ (ds : List Given). length ds) (sym same)) refl

      pub taken_kept : OfQueues tables.units (taken_at t queues) Taken
      taken_kept = by e refl
        where
          none_given : t.is_given ≡ false → ((u : UnitName) → received u (e ∷ past) ≡ received u past) → OfQueues tables.units (taken_at t queues) Taken
          none_given nothing alike = subst (λ (b : Bool). OfQueues tables.units (cond b (taken_by t.actor queues) queues) Taken) (sym nothing)
              (same_each tables numbered (IsWhole rows (firsts start) past) Taken queues all (λ u q whole. same_later u q (alike u) whole))

          by : (x : Entry) → e ≡ x → OfQueues tables.units (taken_at t queues) Taken
          by (Emitted k) ex = none_given (is.given ∙ ap is_given ex) (λ u. ap (λ (x : Entry). received u (x ∷ past)) ex)
          by (Done a c r f) ex = given (hands f) refl
            where
              none_more : (u : UnitName) → hands f ≡ false → received u (e ∷ past) ≡ received u past
              none_more u not_given = ap (λ (x : Entry). received u (x ∷ past)) ex ∙ go (same a u) f not_given
                where
                  go : (b : Bool) (f : Effect) → hands f ≡ false → cond b (received u past ++ given_in f) (received u past) ≡ received u past
                  go true Effect.Nothing h = append-nil (received u past)
                  go true (Effect.Commit k) h = append-nil (received u past)
                  go true (Effect.Given d) h = absurd (let z : ⊥ = cc in z)
                  go false f h = refl

              one_more : hands f ≡ true → length (received a (e ∷ past)) ≡ length (received a past) + 1
              one_more is_one =
                  ap (λ (x : Entry). length (received a (x ∷ past))) ex
                  ∙ ap (λ (b : Bool). length (cond b (received a past ++ given_in f) (received a past))) ((same_name_decides a a).1 refl)
                  ∙ length-append (received a past) (given_in f)
                  ∙ ap (λ (n : ℕ). length (received a past) + n) (go f is_one)
                where
                  go : (f : Effect) → hands f ≡ true → length (given_in f) ≡ 1
                  go Effect.Nothing h = absurd (let z : ⊥ = cc in z)
                  go (Effect.Commit k) h = absurd (let z : ⊥ = cc in z)
                  go (Effect.Given d) h = refl

              other_same : (u : UnitName) → (u ≡ a → ⊥) → received u (e ∷ past) ≡ received u past
              other_same u differs = ap (λ (x : Entry). received u (x ∷ past)) ex ∙ go (same a u) refl
                where
                  go : (b : Bool) → same a u ≡ b → cond b (received u past ++ given_in f) (received u past) ≡ received u past
                  go true h = absurd (differs (sym (same_name-exact a u h)))
                  go false h = refl

              given : (b : Bool) → hands f ≡ b → OfQueues tables.units (taken_at t queues) Taken
              given false h = none_given (is.given ∙ ap is_given ex ∙ h) (λ u. none_more u h)
              given true h =
                  let actor = subst (λ (x : Entry). Finds unit_cmp tables.units (actor_of x) t.actor) ex is.actor in
                  subst (λ (b : Bool). OfQueues tables.units (cond b (taken_by t.actor queues) queues) Taken) (sym (is.given ∙ ap is_given ex ∙ h))
                  (subst (λ (n : Option ℕ). OfQueues tables.units (taken_by n queues) Taken) (sym actor.1)
                  (changed tables numbered (IsWhole rows (firsts start) past) Taken queues taken_more a actor.0 actor.2 all
                  (λ u q differs whole. same_later u q (other_same u differs) whole)
                  (λ q whole. later a q (taken_more q) whole (ap (λ (n : ℕ). n + 1) whole.queue.taken ∙ sym (one_more h)) refl)))

      -- what it brings is found
      abbrev core : State
      core = (start, e ∷ past)

      abbrev Whole : UnitName → QueueState → Type 0
      Whole u q = IsWhole rows (firsts start) (e ∷ past) u q

      still : (u : UnitName) (q : QueueState) → Whole u q → Taken u q
      still u q whole = (
        whole.queue,
        (let n = whole.count in let grows = count_grows rows (firsts start) u (e ∷ []) past in omega (arith, n, grows)),
      )

      fill : (u : UnitName) (q : QueueState) → Taken u q → Whole u (grown core u (length past) q)
      fill u q taken =
          let long = taken.1 in
          let least = few u in
          let had = taken.0.taken in
          let all = counted (e ∷ past) (legal, right) u in
          queue_filled rows (firsts start) u past e q (left_in core u) taken.0 long (omega (arith, long, least, had)) (omega (arith, had, all))

      module _ (names : List UnitName) (brought : AreBrought (start, past) e names) where
        abbrev filled : List QueueState
        filled = all_grown core tables.units names (length past) (taken_at t queues)

        pub filled_kept : OfQueues tables.units filled Whole
        filled_kept = same_each tables numbered (λ u q. Taken u q × ((false || list_any (λ n. same n u) names) ≡ true → Whole u q)) Whole filled
            (all_come tables numbered core (length past) Taken Whole still fill names (λ u. false) (taken_at t queues)
            (same_each tables numbered Taken (λ u q. Taken u q × (false ≡ true → Whole u q)) (taken_at t queues) taken_kept
            (λ u q taken. (taken, λ h. absurd (let z : ⊥ = cc in z)))))
            (λ u q come. one u q come.0 come.1 (list_any (λ n. same n u) names) refl)
          where
            one : (u : UnitName) (q : QueueState) → Taken u q → (list_any (λ n. same n u) names ≡ true → Whole u q) → (b : Bool)
                → list_any (λ n. same n u) names ≡ b → Whole u q
            one u q taken come true is = come is
            one u q taken come false is = record { queue = taken.0; count = go (cases_lt (count past u) (count (e ∷ past) u)) }
              where
                go : (count past u < count (e ∷ past) u) ⊎ (count (e ∷ past) u ≤ count past u) → length q.places ≡ count (e ∷ past) u
                go (inl lt) = absurd (let z : false ≡ true = sym is ∙ brought u ∙ lt-ltb (count past u) (count (e ∷ past) u) lt in let w : ⊥ = cc in w)
                go (inr le) = let short = taken.0.short in let long = taken.1 in omega (arith, short, long, le)

    -- what is found for an entry before it
    module _ (past : List Entry) (queues : List QueueState) (all : OfQueues tables.units queues (IsWhole rows (firsts start) past)) (u : UnitName) (c : Call)
        (r : Reply) (f : Effect) (t : Track) (is : IsTrack tables (Done u c r f) t) where
      its : (q : QueueState) × (slice_get queues (is.actor).0 ≡ Some q) × IsWhole rows (firsts start) past u q
      its = all u (is.actor).0 (is.actor).2

      found_is : found_in queues t.actor ≡ found_for (Some its.0)
      found_is = ap (found_in queues) (is.actor).1 ∙ ap found_for its.1

      within : (m : ℕ) (o : Option ℕ) → slice_get (its.0).places m ≡ o → IfSome o (λ p. p < length past)
      within m None e = tt
      within m (Some p) e = ((its.2).queue).before m p e

      pub found_right : IsFound rows (firsts start) past u (found_in queues t.actor)
      found_right = subst (IsFound rows (firsts start) past u) (sym found_is) (record {
        next_in = within (its.0).taken (slice_get (its.0).places (its.0).taken) refl;
        first_in = within 0 (slice_get (its.0).places 0) refl;
        next = subst (λ (n : ℕ). IsAnswer rows (firsts start) past u n (slice_get (its.0).places (its.0).taken)) ((its.2).queue).taken
            (whole_answers rows (firsts start) u past its.0 its.2 (its.0).taken);
        first = whole_answers rows (firsts start) u past its.0 its.2 0;
      })

    -- a machine that goes over the journal
    module _ (legal : Legal rows (firsts start) (reverse j)) where
      -- none is gone over yet
      pub find_none : (core : State) (queues : List QueueState) → core ≡ (start, [])
          → queues ≡ replicate (btree_map_len tables.units) (record { taken = 0; places = [] }) → IsFindSoFar start tables j 0 core queues []
      find_none core queues made is = record {
        core_is = made;
        queues_are = λ u k h. (
          fresh,
          ap (λ (qs : List QueueState). slice_get qs k) is
              ∙ at (btree_map_len tables.units) k (numbered.units.below u k h),
          whole u,
        );
        count_is = refl;
        found = λ newer past u c r f split. absurd (no_split newer past (Done u c r f) split);
      }
        where
          fresh : QueueState
          fresh = record { taken = 0; places = [] }

          at : (n k : ℕ) → k < n → slice_get (replicate n fresh) k ≡ Some fresh
          at zero k lt = absurd (omega (arith, lt))
          at (suc n) zero lt = refl
          at (suc n) (suc k) lt = at n k (omega (arith, lt))

          no_split : (newer past : List Entry) (e : Entry) → [] ≡ newer ++ e ∷ past → ⊥
          no_split [] past e h = cc
          no_split (x ∷ newer) past e h = cc

          first : (u : UnitName) → IsQueue rows (firsts start) [] u fresh
          first u = record {
            taken = refl;
            short = omega arith;
            before = λ m p h. absurd (let z : ⊥ = cc in z);
            known = λ m p h. absurd (let z : ⊥ = cc in z);
          }

          whole : (u : UnitName) → IsWhole rows (firsts start) [] u fresh
          whole (Root path) = record { queue = first (Root path); count = refl }
          whole (Managed o n ts) = record { queue = first (Managed o n ts); count = refl }

      -- one more entry
      module _ (i : ℕ) (d : Entry) (inside : i < length j) (core : State) (queues : List QueueState) (finds : List Found)
          (so : IsFindSoFar start tables j i core queues finds) where
        abbrev before : List Entry
        before = reverse (take i j)

        abbrev here : Entry
        here = get_or j i d

        abbrev track : Track
        track = track_at tracks i

        more_is : reverse (take (i + 1) j) ≡ here ∷ before
        more_is = reversed_more j i d inside

        size : length before ≡ i
        size = length-reverse (take i j) ∙ length-take-le i j (omega (arith, inside))

        whole_is : reverse j ≡ reverse (drop (i + 1) j) ++ here ∷ before
        whole_is = ap (reverse {A = Entry}) (sym (take-append-drop (i + 1) j)) ∙ reverse-append (take (i + 1) j) (drop (i + 1) j)
            ∙ ap (λ (l : List Entry). reverse (drop (i + 1) j) ++ l) more_is

        legal_here : Legal rows (firsts start) before
        legal_here = legal_before (firsts start) (reverse j) legal (reverse (drop (i + 1) j) ++ here ∷ []) before
            (whole_is ∙ sym (append_assoc (reverse (drop (i + 1) j)) (here ∷ []) before))

        right_here : IsRight rows (firsts start) before here
        right_here = right_at (firsts start) (reverse j) legal (reverse (drop (i + 1) j)) before here whole_is

        is_track : IsTrack tables here track
        is_track = tracked.each i d inside

        received_le : (u : UnitName) (past : List Entry) → length (received u past) ≤ length past
        received_le u [] = omega arith
        received_le u (Emitted k ∷ past) = let rest = received_le u past in omega (arith, rest)
        received_le u (Done a c r f ∷ past) = go (same a u) f (received_le u past)
          where
            go : (b : Bool) (f : Effect) → length (received u past) ≤ length past
                → length (cond b (received u past ++ given_in f) (received u past)) ≤ suc (length past)
            go true Effect.Nothing rest = let n = length-append (received u past) [] in omega (arith, rest, n)
            go true (Effect.Commit k) rest = let n = length-append (received u past) [] in omega (arith, rest, n)
            go true (Effect.Given g) rest = let n = length-append (received u past) (g ∷ []) in omega (arith, rest, n)
            go false f rest = omega (arith, rest)

        -- no count is too large
        pub find_taken : IsTakenBelow (length j) track.actor queues
        find_taken k q actor at = by here refl
          where
            by : (x : Entry) → here ≡ x → q.taken < length j
            by (Emitted c) ex =
                let none : track.actor ≡ None = subst (λ (x : Entry). Finds unit_cmp tables.units (actor_of x) track.actor) ex is_track.actor in
                absurd (let z : None ≡ Some k = sym none ∙ actor in let w : ⊥ = cc in w)
            by (Done u c r f) ex =
                let found = subst (λ (x : Entry). Finds unit_cmp tables.units (actor_of x) track.actor) ex is_track.actor in
                let it = so.queues_are u found.0 found.2 in
                let one : found.0 ≡ k = (let z : Some found.0 ≡ Some k = sym found.1 ∙ actor in cc) in
                let same : it.0 ≡ q = (let z : Some it.0 ≡ Some q = sym it.1 ∙ ap (slice_get queues) one ∙ at in cc) in
                let taken = (it.2).queue.taken in
                let le = received_le u before in
                let eq : it.0.taken ≡ q.taken = ap (λ (x : QueueState). x.taken) same in
                omega (arith, taken, le, eq, size, inside)

        module _ (new : State) (now : List QueueState) (more : List Found) (made : new ≡ replayed core here)
            (stepped : IsStepped core new here tables.units track i queues now) (found_is_more : more ≡ finds ++ found_in queues track.actor ∷ []) where
          new_is : new ≡ (start, here ∷ before)
          new_is = core_more start before here core new so.core_is made (right_is start before here right_here)

          brought : AreBrought (start, before) here stepped.names
          brought = subst (λ (c : State). AreBrought c here stepped.names) so.core_is stepped.brought

          now_filled : now ≡ all_grown (start, here ∷ before) tables.units stepped.names (length before) (taken_at track queues)
          now_filled =
              stepped.queues
              ∙ ap (λ (c : State). all_grown c tables.units stepped.names i (taken_at track queues)) new_is
              ∙ ap (λ (n : ℕ). all_grown (start, here ∷ before) tables.units stepped.names n (taken_at track queues)) (sym size)

          at_old : (p : ℕ) → p < i → found_at more p ≡ found_at finds p
          at_old p lt = let n = so.count_is in ap (λ (l : List Found). found_at l p) found_is_more
              ∙ get_or_append_left finds (found_in queues track.actor ∷ []) nothing_found p (omega (arith, lt, n))

          at_new : found_at more (length before) ≡ found_in queues track.actor
          at_new =
              ap (λ (l : List Found). found_at l (length before)) found_is_more
              ∙ ap (found_at (finds ++ found_in queues track.actor ∷ [])) (size ∙ sym so.count_is)
              ∙ get_or-append_seam finds (found_in queues track.actor) [] nothing_found

          shorter : (newer past : List Entry) (e : Entry) → before ≡ newer ++ e ∷ past → length past < i
          shorter newer past e split = let n = ap (λ (l : List Entry). length l) split ∙ length-append newer (e ∷ past) in omega (arith, n, size)

          found_more : AreFound rows (firsts start) (here ∷ before) more
          found_more [] past u c r f split =
              let who : here ≡ Done u c r f = (let z = split in cc) in
              let which : before ≡ past = (let z = split in cc) in
              subst (λ (l : List Entry). IsFound rows (firsts start) l u (found_at more (length l))) which
              (subst (IsFound rows (firsts start) before u) (sym at_new)
              (found_right before queues so.queues_are u c r f track (subst (λ (x : Entry). IsTrack tables x track) who is_track)))
          found_more (y ∷ newer) past u c r f split =
              let rest : before ≡ newer ++ Done u c r f ∷ past = (let z = split in cc) in
              subst (IsFound rows (firsts start) past u) (sym (at_old (length past) (shorter newer past (Done u c r f) rest)))
              (so.found newer past u c r f rest)

          pub find_more : IsFindSoFar start tables j (i + 1) new now more
          find_more = record {
            core_is = new_is ∙ ap (λ (l : List Entry). let c : State = (start, l) in c) (sym more_is);
            queues_are = subst (λ (l : List Entry). OfQueues tables.units now (IsWhole rows (firsts start) l)) (sym more_is)
                (subst (λ (qs : List QueueState). OfQueues tables.units qs (IsWhole rows (firsts start) (here ∷ before))) (sym now_filled)
                (filled_kept before legal_here queues so.queues_are here track is_track right_here stepped.names brought));
            count_is = ap (λ (l : List Found). length l) found_is_more ∙ length-append finds (found_in queues track.actor ∷ [])
                ∙ ap (λ (n : ℕ). n + 1) so.count_is;
            found = subst (λ (l : List Entry). AreFound rows (firsts start) l more) (sym more_is) found_more;
          }

      -- all are gone over
      pub find_found : (i : ℕ) (core : State) (queues : List QueueState) (finds : List Found) → length j ≤ i
          → IsFindSoFar start tables j i core queues finds → AreFound rows (firsts start) (reverse j) finds
      find_found i co queues finds done so = subst (λ (l : List Entry). AreFound rows (firsts start) (reverse l) finds) (take_all i j done) so.found
