-- In a legal journal an instance keeps to its name: its input label stays, and it makes no tags, subscriptions and units.
use Rattle.df_rules.proofs.Names.{◌≡◌, ℕ, ◌<◌, List, [], ◌∷◌, Bool, true, false, refl, subst, cond, Option, Some, None, arith, ⊤, option_map, option_or, Clause, commit_of, deliveries, Legal, IsRight, answer, left, own_plain, own_instance, fixed, fixed_by, stepped, is_given, born, rows, subscriptions, same_name-exact, begin, same, OwnState, Fixed, reply, effect, after, changed, is_accepted, Call, CreateTag, Subscribe, SubscribeManaged, Get, ChangeInOut, Instantiate, Commit, Given, Effect, Entry, Done, Emitted, UnitName, Managed, Reply}
use Rattle.df_rules.specs.Instances.{KeepsToItsName}
use Rattle.df_rules.proofs.Invariant.{base_within}
use Rattle.df_rules.proofs.Numbers.{Numbered, AreNumbered, numbered}
use Rattle.df_rules.proofs.RowLaws.{first_is}

-- an instance's fixed record is there, and the instance keeps to its name
abbrev Keeping : List (List ℕ) → Option Fixed → Option OwnState → Type 0
Keeping t fx None = ⊤
Keeping t fx (Some st) = (f : Fixed) × (fx ≡ Some f) × KeepsToItsName f t st

either : (f : Fixed) (t : List (List ℕ)) (b : Bool) (x st : OwnState) → KeepsToItsName f t x → KeepsToItsName f t st → KeepsToItsName f t (cond b x st)
either f t true x st h k = h
either f t false x st h k = k

-- the answer leaves them
kept_after : (o : List ℕ) (n : ℕ) (t : List (List ℕ)) (fx : Fixed) (st : OwnState) (ds : List Given) (c : Call) (f : Effect) → KeepsToItsName fx t st → KeepsToItsName fx t (after (Managed o n t) st c (reply (Managed o n t) st ds c) f)
kept_after o n t fx st ds CreateTag f k = k
kept_after o n t fx st ds (Subscribe filter) f k = k
kept_after o n t fx st ds (SubscribeManaged filter) f k = k
kept_after o n t fx st ds (ChangeInOut half act tag) f k = k
kept_after o n t fx st ds (Instantiate set privileges) f k = k
kept_after o n t fx st ds Get Effect.Nothing k = either fx t (is_accepted (reply (Managed o n t) st ds Get)) st st k k
kept_after o n t fx st ds Get (Effect.Commit c) k = either fx t (is_accepted (reply (Managed o n t) st ds Get)) st st k k
kept_after o n t fx st ds Get (Effect.Given d) k =
    either fx t (is_accepted (reply (Managed o n t) st ds Get)) (changed (Managed o n t) st Get (Effect.Given d)) st (record { input = k.input; base = k.base; tags = k.tags; subs = k.subs; units = k.units }) k
kept_after o n t fx st ds c f k =
    either fx t (is_accepted (reply (Managed o n t) st ds c)) (changed (Managed o n t) st c f) st (record { input = k.input; base = k.base; tags = k.tags; subs = k.subs; units = k.units }) k

module _ (s : List OwnState) where
  step_keeps : (past : List Entry) (o : List ℕ) (n : ℕ) (t : List (List ℕ)) (e : Entry) → IsRight rows s past e → (fx : Option Fixed) → Keeping t fx (own_instance rows s past o n t) → Keeping t fx (stepped rows (Managed o n t) e (own_instance rows s past o n t))
  step_keeps past o n t (Emitted c) right fx h = h
  step_keeps past o n t (Done a c r f) right fx h = go (same a (Managed o n t)) refl (own_instance rows s past o n t) refl h
    where
      ds : List Given
      ds = deliveries rows s past (Managed o n t)

      go : (b : Bool) → same a (Managed o n t) ≡ b → (x : Option OwnState) → own_instance rows s past o n t ≡ x → Keeping t fx x → Keeping t fx (cond b (option_map (λ st. after (Managed o n t) st c r f) x) x)
      go false e x mine h = h
      go true e None mine h = tt
      go true e (Some st) mine h =
          let mine_now : answer rows s past (Managed o n t) c ≡ (r, f) = subst (λ (v : UnitName). answer rows s past v c ≡ (r, f)) (same_name-exact a (Managed o n t) e) right in
          let by_state : rows.answer (Managed o n t) st (left st ds) c ≡ (r, f) = rw mine at mine_now in
          let answered = first_is (reply (Managed o n t) st (left st ds) c) r (effect (Managed o n t) st (left st ds) c) f by_state in
          (h.0, h.1, subst (λ (r : Reply). KeepsToItsName h.0 t (after (Managed o n t) st c r f)) answered (kept_after o n t h.0 st (left st ds) c f h.2))

  or_begins : (t : List (List ℕ)) (fx y : Option Fixed) (x : Option OwnState) (past : List Entry) (oc : Option Commit) → Keeping t fx x → Keeping t (option_or fx y) (option_or x (born rows fx t past oc))
  or_begins t None y None past oc h = tt
  or_begins t (Some f) y None past oc h = go (is_given (Some f) t past oc) refl
    where
      go : (b : Bool) → is_given (Some f) t past oc ≡ b → Keeping t (Some f) (cond b (Some (begin f t)) None)
      go true chosen = (f, refl, record { input = refl; base = base_within f t past oc chosen; tags = refl; subs = refl; units = refl })
      go false chosen = tt
  or_begins t fx y (Some st) past oc h = (h.0, rw h.1 refl, h.2)

  keeping : (past : List Entry) → Legal rows s past → (o : List ℕ) (n : ℕ) (t : List (List ℕ)) → Keeping t (fixed rows s past o n) (own_instance rows s past o n t)
  keeping [] legal o n t = tt
  keeping (e ∷ past) legal o n t =
      or_begins t (fixed rows s past o n) (fixed_by rows e o n (own_plain rows s past o)) (stepped rows (Managed o n t) e (own_instance rows s past o n t)) past (commit_of e)
      (step_keeps past o n t e legal.1 (fixed rows s past o n) (keeping past legal.0 o n t))

  pub keeps_to_its_name : (past : List Entry) → Legal rows s past → (o : List ℕ) (n : ℕ) (t : List (List ℕ)) (st : OwnState) → own_instance rows s past o n t ≡ Some st → (f : Fixed) × (fixed rows s past o n ≡ Some f) × KeepsToItsName f t st
  keeps_to_its_name past legal o n t st h = rw h at (keeping past legal o n t)

  pub subscribes_to_nothing : (past : List Entry) → Legal rows s past → (o : List ℕ) (n : ℕ) (t : List (List ℕ)) → subscriptions rows s past (Managed o n t) ≡ []
  subscribes_to_nothing past legal o n t = go (own_instance rows s past o n t) (subscriptions rows s past (Managed o n t)) (numbered s past (Managed o n t)) (keeping past legal o n t)
    where
      none_below_zero : (k : ℕ) (xs : List (ℕ × List Clause)) → k ≡ 0 → Numbered k xs → xs ≡ []
      none_below_zero k [] e h = refl
      none_below_zero k (x ∷ xs) e h = let lt : x.0 < k = h.0 in absurd (let z : ⊥ = omega arith in z)

      go : (x : Option OwnState) (xs : List (ℕ × List Clause)) → AreNumbered x xs → Keeping t (fixed rows s past o n) x → xs ≡ []
      go None xs h k = h
      go (Some st) xs h k = none_below_zero st.subs xs k.2.subs h
