-- In a legal journal a unit's gets give it exactly its deliveries, in order.
use Rattle.df_rules.proofs.Names.{◌≡◌, ℕ, ◌+◌, List, [], ◌∷◌, ◌++◌, Bool, true, false, refl, sym, ◌∙◌, ap, subst, cond, Option, Some, None, length, drop, slice_get, option_map, option_and_then, option_or, append-nil, append_assoc, length-append, maker_of, number_of, commit_of, given_in, plain_news, instance_news, deliveries, deliveries_plain, deliveries_instance, TakingLaws, Legal, IsRight, left, stepped, made_by, own_plain, own, fixed, is_given, born, received, Receives, Rules, subscriptions, same_name-exact, same, OwnState, Fixed, Call, Commit, Given, Effect, Entry, Done, Emitted, UnitName, Root, Managed, Reply}
use Rattle.df_rules.proofs.Invariant.{IfThere}

-- what is left of a list behind its beginning
drop_behind : {X : Type 0} (xs ys : List X) → drop (length xs) (xs ++ ys) ≡ ys
drop_behind [] ys = refl
drop_behind (x ∷ xs) ys = drop_behind xs ys

-- who isn't there received nothing; who is received the first of its deliveries, as many as it took
abbrev Taken : List Given → List Given → Option OwnState → Type 0
Taken got ds None = got ≡ []
Taken got ds (Some st) = (rest : List Given) × (length got ≡ st.given) × (ds ≡ got ++ rest)

abbrev NoneTaken : OwnState → Type 0
NoneTaken st = st.given ≡ 0

-- where the unit has no get, further deliveries stay left to it
taken_more : (got ds more : List Given) (o y : Option OwnState) → IfThere NoneTaken y → Taken got ds o → Taken got (ds ++ more) (option_or o y)
taken_more got ds more None None new h = h
taken_more got ds more None (Some st) new h = (ds ++ more, ap (length {A = Given}) h ∙ sym new, sym (ap (λ (xs : List Given). xs ++ (ds ++ more)) h))
taken_more got ds more (Some st) y new h = (h.0 ++ more, h.1, ap (λ (xs : List Given). xs ++ more) h.2 ∙ append_assoc got h.0 more)

module _ (R : Rules) (s : List OwnState) (laws : TakingLaws R s) where
  -- an entry of a unit that is there
  taken_done : (u : UnitName) (got ds more : List Given) (st : OwnState) (y : Option OwnState) (c : Call) (r : Reply) (f : Effect) → R.answer u st (left st ds) c ≡ (r, f) → Taken got ds (Some st) →
      Taken (got ++ given_in f) (ds ++ more) (Some (R.after u st c r f))
  taken_done u got ds more st y c r Effect.Nothing right h = (
    h.0 ++ more,
    ap (length {A = Given}) (append-nil got) ∙ h.1 ∙ sym (laws.leaves u st (left st ds) c r Effect.Nothing right refl),
    ap (λ (xs : List Given). xs ++ more) h.2 ∙ append_assoc got h.0 more ∙ sym (ap (λ (xs : List Given). xs ++ (h.0 ++ more)) (append-nil got)),
  )
  taken_done u got ds more st y c r (Effect.Commit k) right h = (
    h.0 ++ more,
    ap (length {A = Given}) (append-nil got) ∙ h.1 ∙ sym (laws.leaves u st (left st ds) c r (Effect.Commit k) right refl),
    ap (λ (xs : List Given). xs ++ more) h.2 ∙ append_assoc got h.0 more ∙ sym (ap (λ (xs : List Given). xs ++ (h.0 ++ more)) (append-nil got)),
  )
  taken_done u got ds more st y c r (Effect.Given d) right h =
      let law = laws.takes u st (left st ds) c r d right in
      let behind : left st ds ≡ h.0 = ap (λ (n : ℕ). drop n ds) (sym h.1) ∙ ap (drop (length got)) h.2 ∙ drop_behind got h.0 in
      let first : h.0 ≡ d ∷ law.0 = sym behind ∙ law.1 in (
        law.0 ++ more,
        length-append got (d ∷ []) ∙ ap (λ (n : ℕ). n + 1) h.1 ∙ sym law.2,
        ap (λ (xs : List Given). xs ++ more) (h.2 ∙ ap (λ (xs : List Given). got ++ xs) first)
            ∙ append_assoc got (d ∷ law.0) more
            ∙ sym (append_assoc got (d ∷ []) (law.0 ++ more)),
      )

  -- one more entry, whatever the unit is
  taken_step : (u : UnitName) (e : Entry) (past : List Entry) → IsRight R s past e → (y : Option OwnState) → IfThere NoneTaken y → (more : List Given) →
      Taken (received u past) (deliveries R s past u) (own R s past u) → Taken (received u (e ∷ past)) (deliveries R s past u ++ more) (option_or (stepped R u e (own R s past u)) y)
  taken_step u (Emitted c) past right y new more h = taken_more (received u past) (deliveries R s past u) more (own R s past u) y new h
  taken_step u (Done a c r f) past right y new more h = go (same a u) refl (own R s past u) refl h
    where
      absent : (f : Effect) → Effect.Nothing ≡ f → received u past ≡ [] → received u past ++ given_in f ≡ []
      absent f q h = subst (λ (f : Effect). received u past ++ given_in f ≡ []) q (append-nil (received u past) ∙ h)

      go : (b : Bool) → same a u ≡ b → (o : Option OwnState) → own R s past u ≡ o → Taken (received u past) (deliveries R s past u) o →
          Taken (cond b (received u past ++ given_in f) (received u past)) (deliveries R s past u ++ more) (option_or (cond b (option_map (λ st. R.after u st c r f) o) o) y)
      go false e o mine h = taken_more (received u past) (deliveries R s past u) more o y new h
      go true e None mine h =
          let who : a ≡ u = same_name-exact a u e in
          let none : own R s past a ≡ None = subst (λ (v : UnitName). own R s past v ≡ None) (sym who) mine in
          let right_now : (Reply.NoSuchUnit, Effect.Nothing) ≡ (r, f) = rw none at right in
          taken_more (received u past ++ given_in f) (deliveries R s past u) more None y new (absent f (ap (λ (p : Reply × Effect). p.1) right_now) h)
      go true e (Some st) mine h =
          let who : a ≡ u = same_name-exact a u e in
          let here : own R s past a ≡ Some st = subst (λ (v : UnitName). own R s past v ≡ Some st) (sym who) mine in
          let by_actor : R.answer a st (left st (deliveries R s past a)) c ≡ (r, f) = rw here at right in
          let right_now : R.answer u st (left st (deliveries R s past u)) c ≡ (r, f) = subst (λ (v : UnitName). R.answer v st (left st (deliveries R s past v)) c ≡ (r, f)) who by_actor in
          taken_done u (received u past) (deliveries R s past u) more st y c r f right_now h

  made_none : (e : Entry) (path : List ℕ) (maker : Option OwnState) → IfThere NoneTaken (made_by R e path maker)
  made_none (Emitted c) path maker = tt
  made_none (Done a c r f) path maker = by (same a (Root (maker_of path))) maker
    where
      child : (st : OwnState) (x : Option OwnState) → R.makes st (number_of path) c r ≡ x → IfThere NoneTaken x
      child st None e = tt
      child st (Some ch) e = laws.none_makes st (number_of path) c r ch e

      by : (b : Bool) (maker : Option OwnState) → IfThere NoneTaken (cond b (option_and_then (λ st. R.makes st (number_of path) c r) maker) None)
      by true None = tt
      by true (Some st) = child st (R.makes st (number_of path) c r) refl
      by false maker = tt

  born_none_taken : (fx : Option Fixed) (t : List (List ℕ)) (past : List Entry) (oc : Option Commit) → IfThere NoneTaken (born R fx t past oc)
  born_none_taken None t past oc = tt
  born_none_taken (Some f) t past oc = go (is_given (Some f) t past oc)
    where
      go : (b : Bool) → IfThere NoneTaken (cond b (Some (R.begin f t)) None)
      go true = laws.none_begin f t
      go false = tt

  root_taken : (k : ℕ) (o : Option OwnState) → slice_get s k ≡ o → Taken [] [] o
  root_taken k None e = refl
  root_taken k (Some st) e = ([], sym (laws.none_first k st e), refl)

  own_taken : (past : List Entry) → Legal R s past → (u : UnitName) → Taken (received u past) (deliveries R s past u) (own R s past u)
  own_taken [] legal (Root []) = refl
  own_taken [] legal (Root (k ∷ [])) = root_taken k (slice_get s k) refl
  own_taken [] legal (Root (k ∷ m ∷ path)) = refl
  own_taken [] legal (Managed o n t) = refl
  own_taken (e ∷ past) legal (Root path) =
      taken_step (Root path) e past legal.1 (made_by R e path (own_plain R s past (maker_of path))) (made_none e path (own_plain R s past (maker_of path)))
      (plain_news (own_plain R s past path) (subscriptions R s past (Root path)) (deliveries_plain R s past path) past (commit_of e)) (own_taken past legal.0 (Root path))
  own_taken (e ∷ past) legal (Managed o n t) =
      taken_step (Managed o n t) e past legal.1 (born R (fixed R s past o n) t past (commit_of e)) (born_none_taken (fixed R s past o n) t past (commit_of e))
      (instance_news (fixed R s past o n) n t (deliveries_instance R s past o n t) past (commit_of e)) (own_taken past legal.0 (Managed o n t))

  pub gets_give_deliveries : (past : List Entry) → Legal R s past → (u : UnitName) (st : OwnState) → own R s past u ≡ Some st → Receives R s past u st
  gets_give_deliveries past legal u st h =
      let taken : Taken (received u past) (deliveries R s past u) (Some st) = rw h at (own_taken past legal u) in
      let behind : left st (deliveries R s past u) ≡ taken.0 = ap (λ (n : ℕ). drop n (deliveries R s past u)) (sym taken.1) ∙ ap (drop (length (received u past))) taken.2 ∙ drop_behind (received u past) taken.0 in
      record { count = taken.1; all = ap (λ (xs : List Given). received u past ++ xs) behind ∙ sym taken.2 }

  -- who isn't there received nothing
  pub absent_receives_nothing : (past : List Entry) → Legal R s past → (u : UnitName) → own R s past u ≡ None → received u past ≡ []
  absent_receives_nothing past legal u h = rw h at (own_taken past legal u)
