-- What a unit beyond the label emits, it emits by privileges over what it lacks.
use Rattle.df_rules.proofs.Names.{inl, inr, ◌≡◌, ◌⊎◌, ℕ, List, [], ◌∷◌, Bool, true, false, ◌&&◌, refl, sym, ap, subst, cond, Option, Some, None, slice_get, is_some, option_map, option_and_then, list_all, filter, flows_to, maker_of, number_of, contains, Label, cut, Spot, Part, Act, Add, Del, Half, commit_in, commit_of, cut_spots, cut_commit, deliveries, ChangesBy, HasPlainChange, HasOwnChange, IsMaking, IsExercised, before_fixed, Laws, ReleaseLaws, IsChange, Legal, IsRight, left, answer_of, stepped, made_by, own_plain, own_instance, own, fixed, is_given, born, echo, Rules, flows_to-parts, flows_to-trans, contains-included, same_name-exact, and_parts, or_cases, same, IsKept, OwnState, Fixed, is_nil, Call, Commit, Given, Effect, Entry, Done, Emitted, UnitName, Root, Managed, Reply}
use Rattle.df_rules.proofs.Invariant.{FixedFrom, fixed_from, own_holds}
use Rattle.df_rules.proofs.PurgeKeeps.{began}
use Rattle.df_rules.proofs.Steps.{or_is, none_step}

-- where something of a list is readable at l, and out flows to all of it, out flows to l
all_to_one : {X : Type 0} (label : X → Label) (out l : Label) (xs : List X) → list_all (λ x. flows_to out (label x)) xs ≡ true → is_nil (filter (λ x. flows_to (label x) l) xs) ≡ false → flows_to out l ≡ true
all_to_one label out l [] all h = cc
all_to_one {X} label out l (x ∷ xs) all h = go (flows_to (label x) l) refl h (all_to_one label out l xs (and_parts (flows_to out (label x)) (list_all (λ x. flows_to out (label x)) xs) all).1)
  where
    go : (b : Bool) → flows_to (label x) l ≡ b → is_nil (cond b (x ∷ filter (λ x. flows_to (label x) l) xs) (filter (λ x. flows_to (label x) l) xs)) ≡ false →
        (is_nil (filter (λ x. flows_to (label x) l) xs) ≡ false → flows_to out l ≡ true) → flows_to out l ≡ true
    go true e h ih = flows_to-trans out (label x) l (and_parts (flows_to out (label x)) (list_all (λ x. flows_to out (label x)) xs) all).0 e
    go false e h ih = ih h

-- where a commit is not all cut, the output label flows to the label
cut_some : (out l : Label) (k : Commit) → list_all (λ p. flows_to out p.label) k.edit.1 ≡ true → list_all (λ d. flows_to out d.label) k.edit.0 ≡ true → (is_nil (cut_spots l k.edit.0) && is_nil (cut l k.edit.1)) ≡ false → flows_to out l ≡ true
cut_some out l k added deleted h = go (is_nil (cut_spots l k.edit.0)) refl h
  where
    go : (b : Bool) → is_nil (cut_spots l k.edit.0) ≡ b → (b && is_nil (cut l k.edit.1)) ≡ false → flows_to out l ≡ true
    go true e h = all_to_one {X = Part} (λ p. p.label) out l k.edit.1 added h
    go false e h = all_to_one {X = Spot} (λ d. d.label) out l k.edit.0 deleted e

before_or : (x : Option Fixed) (past before : List Entry) → (f : Fixed) → x ≡ Some f → cond (is_some x) before past ≡ before
before_or None past before f h = cc
before_or (Some g) past before f h = refl

born_fixed : (R : Rules) (fx : Option Fixed) (t : List (List ℕ)) (past : List Entry) (oc : Option Commit) (st : OwnState) → born R fx t past oc ≡ Some st → (f : Fixed) × (fx ≡ Some f)
born_fixed R None t past oc st h = absurd (let z : ⊥ = cc in z)
born_fixed R (Some f) t past oc st h = (f, refl)

module _ (R : Rules) (s : List OwnState) where
  legal_before : (past : List Entry) (o : List ℕ) (n : ℕ) → Legal R s past → Legal R s (before_fixed R s past o n)
  legal_before [] o n h = tt
  legal_before (e ∷ past) o n h = go (is_some (fixed R s past o n)) (legal_before past o n h.0)
    where
      go : (b : Bool) → Legal R s (before_fixed R s past o n) → Legal R s (cond b (before_fixed R s past o n) past)
      go true ih = ih
      go false ih = h.0

module _ (R : Rules) (s : List OwnState) (laws : Laws R s) (release : ReleaseLaws R s) where
  pub own_kept : (past : List Entry) (u : UnitName) (st : OwnState) → own R s past u ≡ Some st → IsKept st
  own_kept past u st h = own_holds R s IsKept (record { first = release.kept_first; step = release.kept_after; child = release.kept_makes }) (λ st n c r f t e w k. release.kept_begin st n c r f t e k w) past u st h

  -- once the record is there, what stood before it stays the same
  same_before : (e : Entry) (past : List Entry) (o : List ℕ) (n : ℕ) (t : List (List ℕ)) (st : OwnState) → own_instance R s past o n t ≡ Some st → before_fixed R s (e ∷ past) o n ≡ before_fixed R s past o n
  same_before e past o n t st h =
      let b = rw h at (began R s laws (record { s = []; i = [] }) past o n t) in
      before_or (fixed R s past o n) past (before_fixed R s past o n) b.0 b.1

  -- tags that a unit has set aside, on either side
  module _ (half : Half) (act : Act) (side : OwnState → List (List ℕ))
      (after_law : (u : UnitName) (st : OwnState) (ds : List Given) (c : Call) (r : Reply) (f : Effect) (x : List ℕ) → R.answer u st ds c ≡ (r, f) → contains (side (R.after u st c r f)) x ≡ true → (contains (side st) x ≡ true) ⊎ IsChange R st half act x c r)
      (first_law : (k : ℕ) (st : OwnState) → slice_get s k ≡ Some st → side st ≡ [])
      (begin_law : (st : OwnState) (n : ℕ) (c : Call) (r : Reply) (f : Fixed) (t : List (List ℕ)) → R.fixes st n c r ≡ Some f → side (R.begin f t) ≡ side st)
      (child_law : (st : OwnState) (k : ℕ) (c : Call) (r : Reply) (ch : OwnState) → R.makes st k c r ≡ Some ch → side ch ≡ side st) where
    -- a tag that is there after an entry was there before, or the entry is the change
    change_step : (u : UnitName) (past : List Entry) (e : Entry) → IsRight R s past e → (st : OwnState) → stepped R u e (own R s past u) ≡ Some st → (x : List ℕ) → contains (side st) x ≡ true →
        ChangesBy R u half act x (own R s past u) e ⊎ ((st : OwnState) × (own R s past u ≡ Some st) × (contains (side st) x ≡ true))
    change_step u past (Emitted c) right st h x k = inr (st, h, k)
    change_step u past (Done a c r f) right st h x k = go (same a u) refl (own R s past u) refl h
      where
        go : (b : Bool) → same a u ≡ b → (o : Option OwnState) → own R s past u ≡ o → cond b (option_map (λ st. R.after u st c r f) o) o ≡ Some st →
            ChangesBy R u half act x o (Done a c r f) ⊎ ((st : OwnState) × (o ≡ Some st) × (contains (side st) x ≡ true))
        go true b None e h = absurd (let z : ⊥ = cc in z)
        go true b (Some st0) e h =
            let who : a ≡ u = same_name-exact a u b in
            let mine : own R s past a ≡ Some st0 = subst (λ (v : UnitName). own R s past v ≡ Some st0) (sym who) e in
            let by_actor : R.answer a st0 (left st0 (deliveries R s past a)) c ≡ (r, f) = rw mine at right in
            let right_now : R.answer u st0 (left st0 (deliveries R s past u)) c ≡ (r, f) = subst (λ (v : UnitName). R.answer v st0 (left st0 (deliveries R s past v)) c ≡ (r, f)) who by_actor in
            let changed : R.after u st0 c r f ≡ st = (let y = h in cc) in
            elim (after_law u st0 (left st0 (deliveries R s past u)) c r f x right_now (subst (λ (v : OwnState). contains (side v) x ≡ true) (sym changed) k)) [
              | inl old ↦ inr (st0, refl, old)
              | inr change ↦ inl (who, change)
            ]
        go false b o e h = inr (st, h, k)

    plain_changes : (past : List Entry) (path : List ℕ) → Legal R s past → (st : OwnState) → own_plain R s past path ≡ Some st → (x : List ℕ) → contains (side st) x ≡ true → HasPlainChange R s half act x past path
    plain_changes [] [] legal st h x m = absurd (let z : ⊥ = cc in z)
    plain_changes [] (k ∷ []) legal st h x m =
        let z : contains [] x ≡ true = subst (λ (xs : List (List ℕ)). contains xs x ≡ true) (first_law k st h) m in cc
    plain_changes [] (k ∷ n ∷ path) legal st h x m = absurd (let z : ⊥ = cc in z)
    plain_changes (e ∷ past) path legal st h x m =
        elim (or_is (stepped R (Root path) e (own_plain R s past path)) (made_by R e path (own_plain R s past (maker_of path))) st h) [
          | inl step ↦ elim (change_step (Root path) past e legal.1 st step x m) [
            | inl change ↦ inl change
            | inr before ↦ inr (inl (plain_changes past path legal.0 before.0 before.1 x before.2))
          ]
          | inr birth ↦ inr (inr (made birth.0 birth.1 (λ st0 mine n. plain_changes past (maker_of path) legal.0 st0 mine x n)))
        ]
      where
        by_maker : (e : Entry) (maker : Option OwnState) → own_plain R s past (maker_of path) ≡ maker → made_by R e path maker ≡ Some st →
            ((st0 : OwnState) → own_plain R s past (maker_of path) ≡ Some st0 → contains (side st0) x ≡ true → HasPlainChange R s half act x past (maker_of path)) → HasPlainChange R s half act x past (maker_of path)
        by_maker (Emitted c) maker mine h earlier = absurd (let z : ⊥ = cc in z)
        by_maker (Done a c r f) maker mine h earlier = by (same a (Root (maker_of path))) maker mine h
          where
            by : (b : Bool) (maker : Option OwnState) → own_plain R s past (maker_of path) ≡ maker → cond b (option_and_then (λ st. R.makes st (number_of path) c r) maker) None ≡ Some st → HasPlainChange R s half act x past (maker_of path)
            by true None mine h = absurd (let z : ⊥ = cc in z)
            by true (Some st0) mine h = earlier st0 mine (subst (λ (xs : List (List ℕ)). contains xs x ≡ true) (child_law st0 (number_of path) c r st h) m)
            by false maker mine h = absurd (let z : ⊥ = cc in z)

        made : stepped R (Root path) e (own_plain R s past path) ≡ None → made_by R e path (own_plain R s past (maker_of path)) ≡ Some st →
            ((st0 : OwnState) → own_plain R s past (maker_of path) ≡ Some st0 → contains (side st0) x ≡ true → HasPlainChange R s half act x past (maker_of path)) →
            IsMaking R s past e path × HasPlainChange R s half act x past (maker_of path)
        made gone h earlier = (record { absent = none_step R s (Root path) e (own_plain R s past path) gone; made = rw h refl }, by_maker e (own_plain R s past (maker_of path)) refl h earlier)

    -- an instance has what its owner had
    born_changes : (past : List Entry) (o : List ℕ) (n : ℕ) (t : List (List ℕ)) (oc : Option Commit) → Legal R s past → (st : OwnState) → born R (fixed R s past o n) t past oc ≡ Some st → (x : List ℕ) → contains (side st) x ≡ true → HasPlainChange R s half act x (before_fixed R s past o n) o
    born_changes past o n t oc legal st h x m = go (fixed R s past o n) (fixed_from R s past o n) h
      where
        given : (f : Fixed) → FixedFrom R s (before_fixed R s past o n) o n (Some f) → (b : Bool) → cond b (Some (R.begin f t)) None ≡ Some st → HasPlainChange R s half act x (before_fixed R s past o n) o
        given f from true h =
            let e : R.begin f t ≡ st = (let y = h in cc) in
            plain_changes (before_fixed R s past o n) o (legal_before R s past o n legal) from.0 from.3 x
            (subst (λ (xs : List (List ℕ)). contains xs x ≡ true) (begin_law from.0 n from.1 from.2 f t from.4) (subst (λ (v : OwnState). contains (side v) x ≡ true) (sym e) m))
        given f from false h = absurd (let z : ⊥ = cc in z)

        go : (fx : Option Fixed) → FixedFrom R s (before_fixed R s past o n) o n fx → born R fx t past oc ≡ Some st → HasPlainChange R s half act x (before_fixed R s past o n) o
        go None from h = absurd (let z : ⊥ = cc in z)
        go (Some f) from h = given f from (is_given (Some f) t past oc) h

    instance_changes : (past : List Entry) (o : List ℕ) (n : ℕ) (t : List (List ℕ)) → Legal R s past → (st : OwnState) → own_instance R s past o n t ≡ Some st → (x : List ℕ) → contains (side st) x ≡ true → HasOwnChange R s (Managed o n t) half act x past
    instance_changes [] o n t legal st h x m = absurd (let z : ⊥ = cc in z)
    instance_changes (e ∷ past) o n t legal st h x m =
        elim (or_is (stepped R (Managed o n t) e (own_instance R s past o n t)) (born R (fixed R s past o n) t past (commit_of e)) st h) [
          | inl step ↦ stepped_case (change_step (Managed o n t) past e legal.1 st step x m) (λ st h m. instance_changes past o n t legal.0 st h x m)
          | inr birth ↦ (let b = born_fixed R (fixed R s past o n) t past (commit_of e) st birth.1 in
              inr (subst (λ (p : List Entry). HasPlainChange R s half act x p o) (sym (before_or (fixed R s past o n) past (before_fixed R s past o n) b.0 b.1))
              (born_changes past o n t (commit_of e) legal.0 st birth.1 x m)))
        ]
      where
        older : (st : OwnState) → own_instance R s past o n t ≡ Some st → HasOwnChange R s (Managed o n t) half act x past → HasOwnChange R s (Managed o n t) half act x (e ∷ past)
        older st h (inl c) = inl (inr c)
        older st h (inr c) = inr (subst (λ (p : List Entry). HasPlainChange R s half act x p o) (sym (same_before e past o n t st h)) c)

        stepped_case : ChangesBy R (Managed o n t) half act x (own_instance R s past o n t) e ⊎ ((st : OwnState) × (own_instance R s past o n t ≡ Some st) × (contains (side st) x ≡ true)) →
            ((st : OwnState) → own_instance R s past o n t ≡ Some st → contains (side st) x ≡ true → HasOwnChange R s (Managed o n t) half act x past) → HasOwnChange R s (Managed o n t) half act x (e ∷ past)
        stepped_case (inl c) ih = inl (inl c)
        stepped_case (inr b) ih = older b.0 b.1 (ih b.0 b.1 b.2)

    own_changes : (past : List Entry) (u : UnitName) → Legal R s past → (st : OwnState) → own R s past u ≡ Some st → (x : List ℕ) → contains (side st) x ≡ true → HasOwnChange R s u half act x past
    own_changes past (Root path) legal st h x m = plain_changes past path legal st h x m
    own_changes past (Managed o n t) legal st h x m = instance_changes past o n t legal st h x m

  -- the unit of an entry that becomes an emitted one has set aside what it lacks
  pub exercised : (l : Label) (past : List Entry) (u : UnitName) (c : Call) (r : Reply) (f : Effect) (k : Commit) → Legal R s (Done u c r f ∷ past) → echo l (commit_in f) ≡ Some k → (st : OwnState) × IsExercised R s past u l st
  exercised l past u c r f k legal h = go (own R s past u) refl f legal.1 h
    where
      set_aside : (st : OwnState) → own R s past u ≡ Some st → flows_to st.output l ≡ true → IsExercised R s past u l st
      set_aside st mine out = record {
        own = mine;
        dropped = λ x m not_in.
            let gone : contains st.dropped x ≡ true = elim (or_cases (contains st.output.s x) (contains st.dropped x) ((own_kept past u st mine).secret x m)) [
              | inl y ↦ (let z = contains-included st.output.s l.s x (flows_to-parts st.output l out).0 y in cc)
              | inr y ↦ y
            ] in
            (gone, own_changes Half.S Del (λ st. st.dropped) release.dropped_after (λ k st h. (release.none_first k st h).0) release.fixes_dropped release.makes_dropped past u legal.0 st mine x gone);
        endorsed = λ x m not_in.
            let y = contains-included l.i st.output.i x (flows_to-parts st.output l out).1 m in
            let there : contains st.endorsed x ≡ true = elim (or_cases (contains st.contamination.i x) (contains st.endorsed x) ((own_kept past u st mine).sound x y)) [
              | inl z ↦ cc
              | inr z ↦ z
            ] in
            (there, own_changes Half.I Add (λ st. st.endorsed) release.endorsed_after (λ k st h. (release.none_first k st h).1) release.fixes_endorsed release.makes_endorsed past u legal.0 st mine x there);
      }

      committed_case : (st : OwnState) → own R s past u ≡ Some st → (k0 : Commit) → R.answer u st (left st (deliveries R s past u)) c ≡ (r, Effect.Commit k0) →
          (b : Bool) → (is_nil (cut_spots l k0.edit.0) && is_nil (cut l k0.edit.1)) ≡ b → cond b None (Some (cut_commit l k0)) ≡ Some k → (st : OwnState) × IsExercised R s past u l st
      committed_case st mine k0 right true e h = absurd (let z : ⊥ = cc in z)
      committed_case st mine k0 right false e h =
          (st, set_aside st mine (cut_some st.output l k0 (release.added u st (left st (deliveries R s past u)) c r k0 right) (release.deleted u st (left st (deliveries R s past u)) c r k0 right) e))

      go : (o : Option OwnState) → own R s past u ≡ o → (f : Effect) → answer_of R u o (deliveries R s past u) c ≡ (r, f) → echo l (commit_in f) ≡ Some k → (st : OwnState) × IsExercised R s past u l st
      go None mine f right h =
          let q : Effect.Nothing ≡ f = ap (λ (p : Reply × Effect). p.1) right in
          let z = subst (λ (f : Effect). echo l (commit_in f) ≡ Some k) (sym q) h in absurd (let y : ⊥ = cc in y)
      go (Some st) mine Effect.Nothing right h = absurd (let z : ⊥ = cc in z)
      go (Some st) mine (Effect.Given d) right h = absurd (let z : ⊥ = cc in z)
      go (Some st) mine (Effect.Commit k0) right h = committed_case st mine k0 right (is_nil (cut_spots l k0.edit.0) && is_nil (cut l k0.edit.1)) refl h
