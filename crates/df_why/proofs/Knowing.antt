-- The links that are made tell which entry leads to which.
use Rattle.std.proofs.Common.{◌≡◌, ℕ, zero, suc, ◌+◌, ◌<◌, List, [], ◌∷◌, ◌++◌, Bool, true, false, ◌&&◌, ◌||◌, length, get_or, refl, sym, ◌∙◌, ap, subst, cond, Option, Some, None, arith}
use Rattle.std.specs.Prelude.{IfSome, reverse}
use Rattle.std.specs.BTreeMap.{btree_map_len, get}
use Rattle.std.specs.Option.{option_or}
use Rattle.std.proofs.lemmas.List.{append_assoc, length-append, length-reverse, reverse-append, reverse-reverse}
use Rattle.std.proofs.Math.Seq.{get_or-append_seam}
use Rattle.df_rules.specs.Commits.{commit_in, commit_of}
use Rattle.df_rules.specs.Legal.{IsRight, Legal}
use Rattle.df_rules.specs.Own.{exists}
use Rattle.df_rules.specs.Received.{received}
use Rattle.df_rules.specs.Start.{rows}
use Rattle.df_unit.proofs.SameFacts.{same_event_decides, same_name-exact, same_name_decides}
use Rattle.df_unit.specs.Name.{same, same_event}
use Rattle.df_unit.specs.OwnState.{OwnState}
use Rattle.df_unit.specs.UnitOrder.{unit_cmp}
use Rattle.df_unit.specs.declared.call.Call.{Call}
use Rattle.df_unit.specs.declared.commit.Commit.{Commit}
use Rattle.df_unit.specs.declared.entry.Effect.{Effect}
use Rattle.df_unit.specs.declared.entry.Entry.{Entry}
use Rattle.df_unit.specs.declared.entry.Entry.TheVariants.{Done, Emitted}
use Rattle.df_unit.specs.declared.name.EventName.{EventName}
use Rattle.df_unit.specs.declared.name.UnitName.{UnitName}
use Rattle.df_unit.specs.declared.name.UnitName.TheVariants.{Managed, Root}
use Rattle.df_unit.specs.declared.reply.Reply.{Reply}
use Rattle.df_why.specs.Grounds.{brings, is_met, is_of, is_on, on_one}
use Rattle.df_why.specs.code.Leads.{begins, leads, subscribes}
use Rattle.df_why.specs.code.Links.{AreFound, IsFound, found_at, link_of, made_for}
use Rattle.df_why.specs.code.Names.{Key, actor_of, commit_key, key_cmp, key_of, made_of, origin_in, origin_of}
use Rattle.df_why.specs.code.Numbers.{Finds}
use Rattle.df_why.specs.code.Tracks.{AreNumbered, AreTracked, IsTrack, is_instance_in, is_met_in, least_place, makes_at, track_at}
use Rattle.df_why.specs.code.Walk.{AreWithin, Fits, IsKnown, add_places, leads_to, link_at, points, same_number}
use Rattle.df_why.specs.declared.found.Found.{Found}
use Rattle.df_why.specs.declared.tracks.Tables.{Tables}
use Rattle.df_why.specs.declared.tracks.Track.{Track}
use Rattle.df_why.specs.declared.walk.Link.{Link}
use Rattle.df_why.proofs.Existing.{begins_brings, there_by_reply}
use Rattle.df_why.proofs.Numbering.{numbers_tie}
use Rattle.df_why.proofs.Picked.{split_at}
use Rattle.df_why.proofs.Origins.{arises, arises_first, is_made, is_name, right_at}
use Rattle.df_why.proofs.Turning.{first}

-- the entry at a place
pub entry_at : (j newer older : List Entry) (e : Entry) → reverse j ≡ newer ++ e ∷ older
    → (length older < length j) × ((d : Entry) → get_or j (length older) d ≡ e)
entry_at j newer older e
    split = (
      omega (arith, size, total),
      λ d. ap (λ (l : List Entry). get_or l (length older) d) around
          ∙ ap (λ (n : ℕ). get_or (reverse older ++ e ∷ reverse newer) n d) (sym (length-reverse older)) ∙ get_or-append_seam (reverse older) e (reverse newer) d,
    )
  where
    around : j ≡ reverse older ++ e ∷ reverse newer
    around = sym (reverse-reverse j) ∙ ap (reverse {A = Entry}) split ∙ reverse-append newer (e ∷ older)
        ∙ ap (λ (l : List Entry). l ++ reverse newer) (reverse-append (e ∷ []) older) ∙ append_assoc (reverse older) (e ∷ []) (reverse newer)

    size : length (reverse j) ≡ length newer + suc (length older)
    size = ap (λ (l : List Entry). length l) split ∙ length-append newer (e ∷ older)

    total : length (reverse j) ≡ length j
    total = length-reverse j

of_actor : (u : UnitName) (e : Entry) → is_of u e ≡ is_name (actor_of e) u
of_actor u (Done a c r f) = refl
of_actor u (Emitted k) = refl

-- the numbers tell

tie_units : (tables : Tables) → AreNumbered tables → (u : UnitName) (q : Option UnitName) (n m : Option ℕ) → Finds unit_cmp tables.units (Some u) n
    → Finds unit_cmp tables.units q m → same_number n m ≡ is_name q u
tie_units tables numbered u None n m from to = ap (same_number n) to
tie_units tables numbered u (Some a) n m from to =
    ap (λ (x : Option ℕ). same_number x m) from.1 ∙ ap (same_number (Some from.0)) to.1
    ∙ numbers_tie unit_cmp tables.units numbered.units u a from.0 to.0 from.2 to.2 (same a u) (λ h. sym (same_name-exact a u h))
    (λ h. (same_name_decides a u).1 (sym h))

key_of_event : (a b : EventName) → key_of a ≡ key_of b → a ≡ b
key_of_event a b h = ap (λ (k : Key). let e : EventName = record { unit = k.1; number = k.0 } in e) h

tie_events : (tables : Tables) → AreNumbered tables → (oc od : Option Commit) (n m : Option ℕ) → Finds key_cmp tables.events (commit_key oc) n
    → Finds key_cmp tables.events (commit_key od) m → same_number n m ≡ on_one oc od
tie_events tables numbered oc None n m from to = ap (same_number n) to ∙ none oc
  where
    none : (oc : Option Commit) → false ≡ on_one oc None
    none None = refl
    none (Some k) = refl
tie_events tables numbered None (Some l) n m from to = ap (same_number n) to.1 ∙ ap (λ (x : Option ℕ). points x to.0) from
tie_events tables numbered (Some k) (Some l) n m from to =
    ap (λ (x : Option ℕ). same_number x m) from.1 ∙ ap (same_number (Some from.0)) to.1
    ∙ numbers_tie key_cmp tables.events numbered.events (key_of k.event) (key_of l.event) from.0 to.0 from.2 to.2 (same_event l.event k.event)
    (λ h. ap key_of (sym ((same_event_decides l.event k.event).0 h)))
    (λ h. (same_event_decides l.event k.event).1 (sym (key_of_event k.event l.event h)))

tie_origins : (tables : Tables) → AreNumbered tables → (o : UnitName) (k : ℕ) → get unit_cmp tables.origins o ≡ Some k → (q : Option UnitName) (n : Option ℕ)
    → Finds unit_cmp tables.origins q n → points n k ≡ is_name q o
tie_origins tables numbered o k here None n h = ap (λ (x : Option ℕ). points x k) h
tie_origins tables numbered o k here (Some m) n h =
    ap (λ (x : Option ℕ). points x k) h.1
    ∙ numbers_tie unit_cmp tables.origins numbered.origins m o h.0 k h.2 here (same m o) (λ e. same_name-exact m o e) (λ e. (same_name_decides m o).1 e)

-- the first that makes it
least_first : (made : Entry → Bool) (f : ℕ → Bool) (past : List Entry)
    → ((newer older : List Entry) (e : Entry) → past ≡ newer ++ e ∷ older → f (length older) ≡ made e) → least_place f (length past) ≡ first made past
least_first made f [] h = refl
least_first made f (e ∷ past) h =
    ap (λ (o : Option ℕ). option_or o (cond (f (length past)) (Some (length past)) None))
    (least_first made f past (λ newer older x split. h (e ∷ newer) older x (ap (λ (l : List Entry). e ∷ l) split)))
    ∙ ap (λ (b : Bool). option_or (first made past) (cond b (Some (length past)) None)) (h [] past e refl)

least_below : (f : ℕ → Bool) (n p : ℕ) → least_place f n ≡ Some p → p < n
least_below f zero p h = absurd (let z : ⊥ = cc in z)
least_below f (suc n) p h = go (least_place f n) refl (f n) h (least_below f n p)
  where
    go : (o : Option ℕ) → least_place f n ≡ o → (b : Bool) → option_or o (cond b (Some n) None) ≡ Some p → (least_place f n ≡ Some p → p < n) → p < suc n
    go (Some q) is b h ih = let below = ih (is ∙ h) in omega (arith, below)
    go None is true h ih = let same : n ≡ p = (let z = h in cc) in omega (arith, same)
    go None is false h ih = absurd (let z : ⊥ = cc in z)

-- as the parts are, so is the whole
joins : (a f m n u e b s : Bool) → (a ≡ true → (f || m) ≡ (b || s)) → (a && (u || (b || s)) || (n || e)) ≡ (((a && (f || m)) || n) || ((a && u) || e))
joins false f m n u e b s h = refl
joins true f m n u e b s h = ap (λ (x : Bool). (u || x) || (n || e)) (sym (h refl)) ∙ go u (f || m) n
  where
    go : (u x n : Bool) → ((u || x) || (n || e)) ≡ ((x || n) || (u || e))
    go true true n = refl
    go true false true = refl
    go true false false = refl
    go false true n = refl
    go false false n = refl

pub or_none : (b : Bool) → (b || false) ≡ b
or_none true = refl
or_none false = refl

module _ (s : List OwnState) (j : List Entry) (tables : Tables) (tracks : List Track) (finds : List Found) (made : List (Option ℕ))
    (legal : Legal rows s (reverse j)) (numbered : AreNumbered tables) (tracked : AreTracked tables tracks j)
    (places : (k : ℕ) → k < btree_map_len tables.origins → get_or made k None ≡ makes_at k tracks (length tracks)) where
  -- the track of an entry
  track_of : (newer older : List Entry) (e : Entry) → reverse j ≡ newer ++ e ∷ older → IsTrack tables e (track_at tracks (length older))
  track_of newer older e split =
      let at = entry_at j newer older e split in
      subst (λ (x : Entry). IsTrack tables x (track_at tracks (length older))) (at.1 e) (tracked.each (length older) e at.0)

  -- where what a unit comes from is made
  made_first : (u : UnitName) (n : Option ℕ) → Finds unit_cmp tables.origins (Some (origin_of u)) n
      → made_for made n ≡ first (is_made (origin_of u)) (reverse j)
  made_first u n found =
      ap (made_for made) found.1
      ∙ places found.0 (numbered.origins.below (origin_of u) found.0 found.2)
      ∙ ap (least_place (λ p. points (track_at tracks p).makes found.0)) (tracked.count ∙ sym (length-reverse j))
      ∙ least_first (is_made (origin_of u)) (λ p. points (track_at tracks p).makes found.0) (reverse j)
      (λ newer older e split. tie_origins tables numbered (origin_of u) found.0 found.2 (made_of e) (track_at tracks (length older)).makes
      (track_of newer older e split).makes)

  made_within : (t : Track) (k : ℕ) → k < btree_map_len tables.origins → (p : ℕ) → get_or made k None ≡ Some p → p < length tracks
  made_within t k lt p h = least_below (λ p. points (track_at tracks p).makes k) (length tracks) p (sym (places k lt) ∙ h)

  module _ (found : AreFound rows s (reverse j) finds) where
    -- an entry of a unit
    module _ (newer middle older : List Entry) (u : UnitName) (c : Call) (r : Reply) (f : Effect) (to : Entry)
        (split : reverse j ≡ newer ++ Done u c r f ∷ (middle ++ to ∷ older)) where
      abbrev before : List Entry
      before = middle ++ to ∷ older

      abbrev t : Track
      t = track_at tracks (length before)

      abbrev t' : Track
      t' = track_at tracks (length older)

      abbrev x : Found
      x = found_at finds (length before)

      whole : reverse j ≡ (newer ++ Done u c r f ∷ middle) ++ to ∷ older
      whole = split ∙ sym (append_assoc newer (Done u c r f ∷ middle) (to ∷ older))

      from_is : IsTrack tables (Done u c r f) t
      from_is = track_of newer before (Done u c r f) split

      to_is : IsTrack tables to t'
      to_is = track_of (newer ++ Done u c r f ∷ middle) older to whole

      is_found : IsFound rows s before u x
      is_found = found newer before u c r f split

      right : IsRight rows s before (Done u c r f)
      right = right_at s (reverse j) legal newer before (Done u c r f) split

      there : t.is_there ≡ exists rows s before u
      there = from_is.there ∙ there_by_reply s before u c r f right

      arisen : points (made_for made t.origin) (length older) ≡ arises s u older to
      arisen = ap (λ (o : Option ℕ). points o (length older)) (made_first u t.origin from_is.origin)
          ∙ sym (arises_first s (reverse j) legal u (newer ++ Done u c r f ∷ middle) older to whole)

      unit : t.is_there ≡ true
          → (points (cond t.is_instance x.first None) (length older) || points (made_for made t.origin) (length older)) ≡ (begins rows s u older to || subscribes rows s u older to)
      unit here = by u refl
        where
          by : (v : UnitName) → u ≡ v
              → (points (cond t.is_instance x.first None) (length older) || points (made_for made t.origin) (length older)) ≡ (begins rows s u older to || subscribes rows s u older to)
          by (Root path) is =
              let plain : t.is_instance ≡ false = from_is.is_instance ∙ ap (λ (v : UnitName). is_instance_in (Done v c r f)) is in
              ap (λ (b : Bool). points (cond b x.first None) (length older) || points (made_for made t.origin) (length older)) plain
              ∙ arisen ∙ ap (λ (v : UnitName). arises s v older to) is ∙ sym (or_none (begins rows s (Root path) older to))
              ∙ ap (λ (v : UnitName). begins rows s v older to || subscribes rows s v older to) (sym is)
          by (Managed o n ts) is =
              let instance : t.is_instance ≡ true = from_is.is_instance ∙ ap (λ (v : UnitName). is_instance_in (Done v c r f)) is in
              let begun : points x.first (length older) ≡ brings rows s u 0 older to = sym (is_found.first middle older to refl) in
              ap (λ (b : Bool). points (cond b x.first None) (length older) || points (made_for made t.origin) (length older)) instance
              ∙ ap (λ (b : Bool). b || points (made_for made t.origin) (length older))
              (begun ∙ ap (λ (v : UnitName). brings rows s v 0 older to) is ∙ sym (begins_brings rows s o n ts older to))
              ∙ ap (λ (b : Bool). begins rows s (Managed o n ts) older to || b) (arisen ∙ ap (λ (v : UnitName). arises s v older to) is)
              ∙ ap (λ (v : UnitName). begins rows s v older to || subscribes rows s v older to) (sym is)

      next : points (cond t.is_met x.next None) (length older) ≡ (is_met c r && brings rows s u (length (received u before)) older to)
      next = go t.is_met refl
        where
          go : (b : Bool) → t.is_met ≡ b → points (cond b x.next None) (length older) ≡ (is_met c r && brings rows s u (length (received u before)) older to)
          go true h = sym (is_found.next middle older to refl)
              ∙ ap (λ (b : Bool). b && brings rows s u (length (received u before)) older to) (sym h ∙ from_is.met)
          go false h = ap (λ (b : Bool). b && brings rows s u (length (received u before)) older to) (sym h ∙ from_is.met)

      known_done : leads rows s before (Done u c r f) older to ≡ leads_to (link_of made t x) (length older) (link_of made t' (found_at finds (length older)))
      known_done =
          joins (exists rows s before u) (points (cond t.is_instance x.first None) (length older)) (points (made_for made t.origin) (length older))
          (is_met c r && brings rows s u (length (received u before)) older to) (is_of u to) (on_one (commit_in f) (commit_of to))
          (begins rows s u older to) (subscribes rows s u older to) (λ h. unit (there ∙ h))
          ∙ ap (λ (a : Bool). ((a && (points (cond t.is_instance x.first None) (length older) || points (made_for made t.origin) (length older))) ||
          (is_met c r && brings rows s u (length (received u before)) older to)) || ((a && is_of u to) || on_one (commit_in f) (commit_of to))) (sym there)
          ∙ ap (λ (n : Bool). ((t.is_there && (points (cond t.is_instance x.first None) (length older) || points (made_for made t.origin) (length older))) ||
          n) || ((t.is_there && is_of u to) || on_one (commit_in f) (commit_of to))) (sym next)
          ∙ ap (λ (b : Bool). add_places (link_of made t x) (length older) || ((t.is_there && b) || on_one (commit_in f) (commit_of to)))
          (of_actor u to ∙ sym (tie_units tables numbered u (actor_of to) t.actor t'.actor from_is.actor to_is.actor))
          ∙ ap (λ (b : Bool). add_places (link_of made t x) (length older) || ((t.is_there && same_number t.actor t'.actor) || b))
          (sym (tie_events tables numbered (commit_in f) (commit_of to) t.event t'.event from_is.event to_is.event))

    known_emitted : (newer middle older : List Entry) (k : Commit) (to : Entry) → reverse j ≡ newer ++ Emitted k ∷ (middle ++ to ∷ older) →
        is_on k.event (commit_of to) ≡ leads_to
        (link_of made (track_at tracks (length (middle ++ to ∷ older))) (found_at finds (length (middle ++ to ∷ older)))) (length older)
        (link_of made (track_at tracks (length older)) (found_at finds (length older)))
    known_emitted newer middle older k to split =
        sym (tie_events tables numbered (Some k) (commit_of to) t.event t'.event from_is.event to_is.event)
        ∙ ap (λ (b : Bool). ((b && (points (cond t.is_instance x.first None) (length older) || points (made_for made t.origin) (length older))) || false) ||
        ((b && same_number t.actor t'.actor) || same_number t.event t'.event)) (sym from_is.there)
        ∙ ap (λ (b : Bool). ((t.is_there && (points (cond t.is_instance x.first None) (length older) || points (made_for made t.origin) (length older))) ||
        points (cond b x.next None) (length older)) || ((t.is_there && same_number t.actor t'.actor) || same_number t.event t'.event)) (sym from_is.met)
      where
        before : List Entry
        before = middle ++ to ∷ older

        t : Track
        t = track_at tracks (length before)

        t' : Track
        t' = track_at tracks (length older)

        x : Found
        x = found_at finds (length before)

        from_is : IsTrack tables (Emitted k) t
        from_is = track_of newer before (Emitted k) split

        to_is : IsTrack tables to t'
        to_is = track_of (newer ++ Emitted k ∷ middle) older to (split ∙ sym (append_assoc newer (Emitted k ∷ middle) (to ∷ older)))

    known_link : (newer middle older : List Entry) (from to : Entry) → reverse j ≡ newer ++ from ∷ (middle ++ to ∷ older)
        → leads rows s (middle ++ to ∷ older) from older to
        ≡ leads_to (link_of made (track_at tracks (length (middle ++ to ∷ older))) (found_at finds (length (middle ++ to ∷ older)))) (length older)
        (link_of made (track_at tracks (length older)) (found_at finds (length older)))
    known_link newer middle older (Done u c r f) to split = known_done newer middle older u c r f to split
    known_link newer middle older (Emitted k) to split = known_emitted newer middle older k to split

    -- the links are known
    pub links_known : (links : List Link) → length links ≡ length tracks
        → ((p : ℕ) → p < length tracks → link_at links p ≡ link_of made (track_at tracks p) (found_at finds p)) → IsKnown rows s links (reverse j)
    links_known links size each newer middle older from to split lt =
        known_link newer middle older from to split
        ∙ ap (λ (l : Link). leads_to l (length older) (link_of made (track_at tracks (length older)) (found_at finds (length older))))
        (sym (each (length (middle ++ to ∷ older)) (omega (arith, lt, size))))
        ∙ ap (λ (l : Link). leads_to (link_at links (length (middle ++ to ∷ older))) (length older) l)
        (sym (each (length older) (let n = length-append middle (to ∷ older) in omega (arith, lt, size, n))))

    -- their numbers are within
    fits_of : (newer older : List Entry) (e : Entry) → reverse j ≡ newer ++ e ∷ older
        → Fits (length tracks) (btree_map_len tables.units) (btree_map_len tables.events) (link_of made (track_at tracks (length older)) (found_at finds (length older)))
    fits_of newer older e split = record {
      actor = named (actor_of e) t.actor is.actor;
      event = keyed (commit_key (commit_of e)) t.event is.event;
      next = next e split (is.met);
      made = origin (origin_in e) t.origin is.origin;
      first = begun e split (is.is_instance);
    }
      where
        t : Track
        t = track_at tracks (length older)

        x : Found
        x = found_at finds (length older)

        is : IsTrack tables e t
        is = track_of newer older e split

        size : length older < length tracks
        size = (let at = (entry_at j newer older e split).0 in let n = tracked.count in omega (arith, at, n))

        named : (q : Option UnitName) (n : Option ℕ) → Finds unit_cmp tables.units q n → IfSome n (λ k. k < btree_map_len tables.units)
        named None n h = subst (λ (o : Option ℕ). IfSome o (λ k. k < btree_map_len tables.units)) (sym h) tt
        named (Some u) n h = subst (λ (o : Option ℕ). IfSome o (λ k. k < btree_map_len tables.units)) (sym h.1) (numbered.units.below u h.0 h.2)

        keyed : (q : Option Key) (n : Option ℕ) → Finds key_cmp tables.events q n → IfSome n (λ k. k < btree_map_len tables.events)
        keyed None n h = subst (λ (o : Option ℕ). IfSome o (λ k. k < btree_map_len tables.events)) (sym h) tt
        keyed (Some u) n h = subst (λ (o : Option ℕ). IfSome o (λ k. k < btree_map_len tables.events)) (sym h.1) (numbered.events.below u h.0 h.2)

        origin : (q : Option UnitName) (n : Option ℕ) → Finds unit_cmp tables.origins q n → IfSome (made_for made n) (λ k. k < length tracks)
        origin None n h = subst (λ (o : Option ℕ). IfSome (made_for made o) (λ k. k < length tracks)) (sym h) tt
        origin (Some u) n h = subst (λ (o : Option ℕ). IfSome (made_for made o) (λ k. k < length tracks)) (sym h.1) (some (get_or made h.0 None) refl)
          where
            some : (o : Option ℕ) → get_or made h.0 None ≡ o → IfSome o (λ k. k < length tracks)
            some None e = tt
            some (Some p) e = made_within t h.0 (numbered.origins.below u h.0 h.2) p e

        later : (o : Option ℕ) → IfSome o (λ p. p < length older) → IfSome o (λ p. p < length tracks)
        later None h = tt
        later (Some p) h = omega (arith, h, size)

        next : (e : Entry) → reverse j ≡ newer ++ e ∷ older → t.is_met ≡ is_met_in e → IfSome (cond t.is_met x.next None) (λ p. p < length tracks)
        next (Emitted k) split met = subst (λ (b : Bool). IfSome (cond b x.next None) (λ p. p < length tracks)) (sym met) tt
        next (Done u c r f) split met = go t.is_met
          where
            go : (b : Bool) → IfSome (cond b x.next None) (λ p. p < length tracks)
            go true = later x.next (found newer older u c r f split).next_in
            go false = tt

        begun : (e : Entry) → reverse j ≡ newer ++ e ∷ older → t.is_instance ≡ is_instance_in e
            → IfSome (cond t.is_instance x.first None) (λ p. p < length tracks)
        begun (Emitted k) split instance = subst (λ (b : Bool). IfSome (cond b x.first None) (λ p. p < length tracks)) (sym instance) tt
        begun (Done u c r f) split instance = go t.is_instance
          where
            go : (b : Bool) → IfSome (cond b x.first None) (λ p. p < length tracks)
            go true = later x.first (found newer older u c r f split).first_in
            go false = tt

    pub links_within : (links : List Link) → length links ≡ length tracks
        → ((p : ℕ) → p < length tracks → link_at links p ≡ link_of made (track_at tracks p) (found_at finds p))
        → AreWithin (btree_map_len tables.units) (btree_map_len tables.events) links
    links_within links size each p lt =
        let inside : p < length tracks = omega (arith, lt, size) in
        let total = length-reverse j in
        let count = tracked.count in
        let at = split_at (reverse j) p (omega (arith, inside, total, count)) in
        subst (λ (n : ℕ). Fits n (btree_map_len tables.units) (btree_map_len tables.events) (link_at links p)) (sym size)
        (subst (Fits (length tracks) (btree_map_len tables.units) (btree_map_len tables.events)) (sym (each p inside))
        (subst (λ (n : ℕ). Fits (length tracks) (btree_map_len tables.units) (btree_map_len tables.events)
        (link_of made (track_at tracks n) (found_at finds n))) at.4 (fits_of at.0 at.2 at.1 at.3)))
