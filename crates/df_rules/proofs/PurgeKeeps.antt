-- The purge keeps what units within the label are, are given and are answered.
use Rattle.df_rules.proofs.Names.{◌≡◌, ◌⊎◌, inl, inr, ℕ, List, [], ◌∷◌, ◌++◌, Bool, true, false, refl, sym, ◌∙◌, ap, subst, cond, Option, Some, None, option_to_list, option_map, option_and_then, option_or, append-nil, Clause, flows_to, maker_of, number_of, Label, cut, commit_of, contents, committed, plain_news, instance_news, deliveries, deliveries_plain, deliveries_instance, Laws, Legal, IsRight, answer, answer_of, stepped, root_at, made_by, own_plain, own_instance, own, fixed, fixed_by, is_given, born, Keeps, is_within, echo, emitted, left_of, stays, purge, Rules, subscribed_by, subscriptions, flows_to-trans, readable_at, same, OwnState, Fixed, Commit, Given, Entry, Done, Emitted, UnitName, Root, Managed}
use Rattle.df_rules.proofs.Agreement.{Agrees, contaminated, recorded, agrees_refl, agrees_eq, agrees_or, or_none, IsOut, IsIn, Reads, Began, KeptWithin, MayBeWithin, InstanceAgrees, InstanceGiven, GivenByState, own_plain-emitted, fixed-emitted, subscriptions-emitted, own_instance-emitted, deliveries_plain-emitted, deliveries_instance-emitted}
use Rattle.df_rules.proofs.Invariant.{IfThere, plain_holds}
use Rattle.df_rules.proofs.SeenFacts.{Alike, SameSeen, kept_alike, echo_alike, kept_contents, echo_contents, given_alike, plain_news_alike, instance_news_alike}
use Rattle.df_rules.proofs.Steps.{step_none, none_before, step_agrees, skip_agrees, is_out, is_in, made_agrees, made_skipped, own_back}

module _ (R : Rules) (s : List OwnState) (laws : Laws R s) (l : Label) where
  -- the child that an entry makes
  made_by_agrees : (e : Entry) (path : List ℕ) (st st' : Option OwnState) → IsIn l (Root (maker_of path)) e st → Agrees contaminated l st st' → Agrees contaminated l (made_by R e path st) (made_by R e path st')
  made_by_agrees (Emitted c) path st st' inside h = refl
  made_by_agrees (Done a c r f) path st st' inside h = made_agrees R s laws l contaminated (λ st. R.makes st (number_of path) c r) (same a (Root (maker_of path))) st st' inside h

  made_by_skipped : (e : Entry) (path : List ℕ) (st : Option OwnState) → IsOut l (Root (maker_of path)) e st → Agrees contaminated l (made_by R e path st) None
  made_by_skipped (Emitted c) path st out = refl
  made_by_skipped (Done a c r f) path st out = made_skipped R s laws l contaminated (λ st. R.makes st (number_of path) c r) (λ st x e. laws.makes_contamination st (number_of path) c r x e) (same a (Root (maker_of path))) st out

  -- plain units
  pub plain_agrees : (past : List Entry) (path : List ℕ) → Agrees contaminated l (own_plain R s past path) (own_plain R s (purge R s l past) path)
  plain_agrees [] path = agrees_refl contaminated l (root_at s path)
  plain_agrees (e ∷ past) path = go (stays R s l past e) refl (plain_agrees past path) (plain_agrees past (maker_of path))
    where
      before : Option OwnState
      before = own_plain R s past path

      kept : Option OwnState
      kept = own_plain R s (purge R s l past) path

      maker : Option OwnState
      maker = own_plain R s past (maker_of path)

      maker_kept : Option OwnState
      maker_kept = own_plain R s (purge R s l past) (maker_of path)

      go : (b : Bool) → stays R s l past e ≡ b → Agrees contaminated l (own_plain R s past path) (own_plain R s (purge R s l past) path) →
          Agrees contaminated l (own_plain R s past (maker_of path)) (own_plain R s (purge R s l past) (maker_of path)) →
          Agrees contaminated l (option_or (stepped R (Root path) e (own_plain R s past path)) (made_by R e path (own_plain R s past (maker_of path)))) (own_plain R s (left_of l b e ++ purge R s l past) path)
      go true h ih ihm = agrees_or contaminated l (stepped R (Root path) e before) (stepped R (Root path) e kept) (made_by R e path maker) (made_by R e path maker_kept)
          (step_agrees R s laws l (Root path) e before kept ih)
          (made_by_agrees e path maker maker_kept (is_in R s laws l past e h (Root (maker_of path))) ihm)
      go false h ih ihm = rw (own_plain-emitted R s (echo l (commit_of e)) (purge R s l past) path)
          (subst (λ (y : Option OwnState). Agrees contaminated l (option_or (stepped R (Root path) e (own_plain R s past path)) (made_by R e path (own_plain R s past (maker_of path)))) y) (or_none (own_plain R s (purge R s l past) path))
          (agrees_or contaminated l (stepped R (Root path) e before) kept (made_by R e path maker) None
          (skip_agrees R s laws l (Root path) e before kept (is_out R s laws l past e h (Root path)) ih)
          (made_by_skipped e path maker (is_out R s laws l past e h (Root (maker_of path))))))

  -- what a subscription keeps
  fixed_by_agrees : (e : Entry) (o : List ℕ) (n : ℕ) (st st' : Option OwnState) → IsIn l (Root o) e st → Agrees contaminated l st st' → Agrees recorded l (fixed_by R e o n st) (fixed_by R e o n st')
  fixed_by_agrees (Emitted c) o n st st' inside h = refl
  fixed_by_agrees (Done a c r f) o n st st' inside h = made_agrees R s laws l recorded (λ st. R.fixes st n c r) (same a (Root o)) st st' inside h

  pub fixed_by_skipped : (e : Entry) (o : List ℕ) (n : ℕ) (st : Option OwnState) → IsOut l (Root o) e st → Agrees recorded l (fixed_by R e o n st) None
  fixed_by_skipped (Emitted c) o n st out = refl
  fixed_by_skipped (Done a c r f) o n st out = made_skipped R s laws l recorded (λ st. R.fixes st n c r) (λ st x e. laws.fixes_contamination st n c r x e) (same a (Root o)) st out

  pub fixed_agrees : (past : List Entry) (o : List ℕ) (n : ℕ) → Agrees recorded l (fixed R s past o n) (fixed R s (purge R s l past) o n)
  fixed_agrees [] o n = refl
  fixed_agrees (e ∷ past) o n = go (stays R s l past e) refl (fixed_agrees past o n)
    where
      kept : List Entry
      kept = purge R s l past

      go : (b : Bool) → stays R s l past e ≡ b → Agrees recorded l (fixed R s past o n) (fixed R s (purge R s l past) o n) →
          Agrees recorded l (option_or (fixed R s past o n) (fixed_by R e o n (own_plain R s past o))) (fixed R s (left_of l b e ++ purge R s l past) o n)
      go true h ih = agrees_or recorded l (fixed R s past o n) (fixed R s (purge R s l past) o n) (fixed_by R e o n (own_plain R s past o)) (fixed_by R e o n (own_plain R s (purge R s l past) o)) ih
          (fixed_by_agrees e o n (own_plain R s past o) (own_plain R s (purge R s l past) o) (is_in R s laws l past e h (Root o)) (plain_agrees past o))
      go false h ih = rw (fixed-emitted R s (echo l (commit_of e)) (purge R s l past) o n)
          (subst (λ (y : Option Fixed). Agrees recorded l (option_or (fixed R s past o n) (fixed_by R e o n (own_plain R s past o))) y) (or_none (fixed R s (purge R s l past) o n))
          (agrees_or recorded l (fixed R s past o n) (fixed R s (purge R s l past) o n) (fixed_by R e o n (own_plain R s past o)) None ih
          (fixed_by_skipped e o n (own_plain R s past o) (is_out R s laws l past e h (Root o)))))

  -- contents
  pub seen_agrees : (past : List Entry) → SameSeen l past (purge R s l past)
  seen_agrees [] ev = refl
  seen_agrees (e ∷ past) ev = go (stays R s l past e) (seen_agrees past)
    where
      go : (b : Bool) → SameSeen l past (purge R s l past) → cut l (contents (left_of l b e ++ purge R s l past) ev) ≡ cut l (committed ev (commit_of e) (contents past ev))
      go true ih = kept_contents l past (purge R s l past) ih (commit_of e) ev
      go false ih = echo_contents l past (purge R s l past) ih (commit_of e) ev

  -- instances, by what the next commit makes of them
  born_agrees : (f : Fixed) (t : List (List ℕ)) → flows_to (readable_at f t) l ≡ true → (fx' : Option Fixed) → fx' ≡ Some f → (past : List Entry) (oc : Option Commit) (past' : List Entry) (oc' : Option Commit) → Alike l past oc past' oc' → Agrees contaminated l (born R (Some f) t past oc) (born R fx' t past' oc')
  born_agrees f t h fx' same past oc past' oc' a =
      agrees_eq contaminated l (born R (Some f) t past oc) (born R fx' t past' oc')
      (ap (λ (fx : Option Fixed). born R fx t past' oc') same ∙ ap (λ (b : Bool). cond {A = Option OwnState} b (Some (R.begin f t)) None) (given_alike l f t h past oc past' oc' a))

  both_none : (x y : Option OwnState) → x ≡ None → y ≡ None → Agrees contaminated l x y
  both_none x y h k = rw (h, k) refl

  instance_step : (t : List (List ℕ)) (fx fx' y : Option Fixed) (o o' so so' : Option OwnState) → Agrees recorded l fx fx' → InstanceAgrees l t fx o o' →
      (Agrees contaminated l o o' → Agrees contaminated l so so') → (o ≡ None → so ≡ None) → (o' ≡ None → so' ≡ None) →
      (past : List Entry) (oc : Option Commit) (past' : List Entry) (oc' : Option Commit) → Alike l past oc past' oc' →
      InstanceAgrees l t (option_or fx y) (option_or so (born R fx t past oc)) (option_or so' (born R fx' t past' oc'))
  instance_step t None fx' y o o' so so' fixed_ih ih agree none none' past oc past' oc' a =
      let e : option_or so (born R None t past oc) ≡ None = rw (none ih.0) refl in
      let e' : option_or so' (born R fx' t past' oc') ≡ None = rw (none' ih.1, fixed_ih) refl in
      go y
    where
      go : (y : Option Fixed) → InstanceAgrees l t y (option_or so (born R None t past oc)) (option_or so' (born R fx' t past' oc'))
      go None = (rw (none ih.0) refl, rw (none' ih.1, fixed_ih) refl)
      go (Some f) = λ h k. both_none (option_or so (born R None t past oc)) (option_or so' (born R fx' t past' oc')) (rw (none ih.0) refl) (rw (none' ih.1, fixed_ih) refl)
  instance_step t (Some f) fx' y o o' so so' fixed_ih ih agree none none' past oc past' oc' a = λ h k.
      agrees_or contaminated l so so' (born R (Some f) t past oc) (born R fx' t past' oc') (agree (ih h k)) (born_agrees f t k fx' (fixed_ih h) past oc past' oc' a)

  instance_agrees : (past : List Entry) (o : List ℕ) (n : ℕ) (t : List (List ℕ)) → InstanceAgrees l t (fixed R s past o n) (own_instance R s past o n t) (own_instance R s (purge R s l past) o n t)
  instance_agrees [] o n t = (refl, refl)
  instance_agrees (e ∷ past) o n t = go (stays R s l past e) refl (instance_agrees past o n t)
    where
      u : UnitName
      u = Managed o n t

      go : (b : Bool) → stays R s l past e ≡ b → InstanceAgrees l t (fixed R s past o n) (own_instance R s past o n t) (own_instance R s (purge R s l past) o n t) →
          InstanceAgrees l t (option_or (fixed R s past o n) (fixed_by R e o n (own_plain R s past o))) (option_or (stepped R (Managed o n t) e (own_instance R s past o n t)) (born R (fixed R s past o n) t past (commit_of e))) (own_instance R s (left_of l b e ++ purge R s l past) o n t)
      go true h ih = instance_step t (fixed R s past o n) (fixed R s (purge R s l past) o n) (fixed_by R e o n (own_plain R s past o)) (own_instance R s past o n t) (own_instance R s (purge R s l past) o n t)
          (stepped R (Managed o n t) e (own_instance R s past o n t)) (stepped R (Managed o n t) e (own_instance R s (purge R s l past) o n t))
          (fixed_agrees past o n) ih (step_agrees R s laws l (Managed o n t) e (own_instance R s past o n t) (own_instance R s (purge R s l past) o n t)) (step_none R s (Managed o n t) e (own_instance R s past o n t)) (step_none R s (Managed o n t) e (own_instance R s (purge R s l past) o n t))
          past (commit_of e) (purge R s l past) (commit_of e) (kept_alike l past (purge R s l past) (seen_agrees past) (commit_of e))
      go false h ih = rw (own_instance-emitted R s (echo l (commit_of e)) (purge R s l past) o n t)
          (instance_step t (fixed R s past o n) (fixed R s (purge R s l past) o n) (fixed_by R e o n (own_plain R s past o)) (own_instance R s past o n t) (own_instance R s (purge R s l past) o n t)
          (stepped R (Managed o n t) e (own_instance R s past o n t)) (own_instance R s (purge R s l past) o n t)
          (fixed_agrees past o n) ih (skip_agrees R s laws l (Managed o n t) e (own_instance R s past o n t) (own_instance R s (purge R s l past) o n t) (is_out R s laws l past e h (Managed o n t))) (step_none R s (Managed o n t) e (own_instance R s past o n t)) (λ k. k)
          past (commit_of e) (purge R s l past) (echo l (commit_of e)) (echo_alike l past (purge R s l past) (seen_agrees past) (commit_of e)))

  -- where instances come from, in any journal
  stepped_began : (t : List (List ℕ)) (fx : Option Fixed) (u : UnitName) (e : Entry) (o : Option OwnState) → Began t fx o → Began t fx (stepped R u e o)
  stepped_began t fx u (Emitted c) o h = h
  stepped_began t fx u (Done a c r f) o h = go (same a u) o h
    where
      go : (b : Bool) (o : Option OwnState) → Began t fx o → Began t fx (cond b (option_map (λ st. R.after u st c r f) o) o)
      go true None h = tt
      go true (Some st) h = (h.0, h.1, flows_to-trans h.0.contamination st.contamination (R.after u st c r f).contamination h.2 (laws.grows u st c r f), flows_to-trans (readable_at h.0 t) st.contamination (R.after u st c r f).contamination h.3 (laws.grows u st c r f))
      go false o h = h

  began_or : (t : List (List ℕ)) (fx y : Option Fixed) (so : Option OwnState) → Began t fx so → (past : List Entry) (oc : Option Commit) → Began t (option_or fx y) (option_or so (born R fx t past oc))
  began_or t None y None h past oc = tt
  began_or t (Some f) y None h past oc = go (is_given (Some f) t past oc)
    where
      go : (b : Bool) → Began t (Some f) (cond b (Some (R.begin f t)) None)
      go true = (f, refl, laws.begin_contamination f t, laws.begin_readable f t)
      go false = tt
  began_or t fx y (Some st) h past oc = (h.0, rw h.1 refl, h.2, h.3)

  pub began : (past : List Entry) (o : List ℕ) (n : ℕ) (t : List (List ℕ)) → Began t (fixed R s past o n) (own_instance R s past o n t)
  began [] o n t = tt
  began (e ∷ past) o n t = began_or t (fixed R s past o n) (fixed_by R e o n (own_plain R s past o)) (stepped R (Managed o n t) e (own_instance R s past o n t)) (stepped_began t (fixed R s past o n) (Managed o n t) e (own_instance R s past o n t) (began past o n t)) past (commit_of e)

  within_before : (e : Entry) (past : List Entry) (u : UnitName) → MayBeWithin R s l (e ∷ past) u → MayBeWithin R s l past u
  within_before e past (Root path) k = tt
  within_before e past (Managed o n t) k = go (fixed R s past o n) k
    where
      go : (fx : Option Fixed) → KeptWithin l t (option_or fx (fixed_by R e o n (own_plain R s past o))) → KeptWithin l t fx
      go None k = tt
      go (Some f) k = k

  may_be_within : (past : List Entry) (u : UnitName) (st : OwnState) → own R s past u ≡ Some st → flows_to st.contamination l ≡ true → MayBeWithin R s l past u
  may_be_within past (Root path) st h w = tt
  may_be_within past (Managed o n t) st h w =
      let b = rw h at (began past o n t) in
      subst (KeptWithin l t) (sym b.1) (flows_to-trans b.0.contamination st.contamination l b.2 w, flows_to-trans (readable_at b.0 t) st.contamination l b.3 w)

  own_agrees : (past : List Entry) (u : UnitName) → MayBeWithin R s l past u → Agrees contaminated l (own R s past u) (own R s (purge R s l past) u)
  own_agrees past (Root path) k = plain_agrees past path
  own_agrees past (Managed o n t) k = go (fixed R s past o n) (instance_agrees past o n t) k
    where
      go : (fx : Option Fixed) → InstanceAgrees l t fx (own_instance R s past o n t) (own_instance R s (purge R s l past) o n t) → KeptWithin l t fx → Agrees contaminated l (own_instance R s past o n t) (own_instance R s (purge R s l past) o n t)
      go None a k = both_none (own_instance R s past o n t) (own_instance R s (purge R s l past) o n t) a.0 a.1
      go (Some f) a k = a k.0 k.1

  -- a plain unit's input label flows to its contamination, in any journal
  plain_reads : (past : List Entry) (path : List ℕ) → IfThere Reads (own_plain R s past path)
  plain_reads past path = plain_holds R s Reads (record { first = laws.reads_first; step = laws.reads; child = λ st k c r ch e h. laws.makes_reads st k c r ch e }) past path

  -- what a unit within the label has more, it has more again
  more_by_state : {A : Type 0} (o so : Option OwnState) (xs xs' more more' : List A) → GivenByState l o xs xs' → GivenByState l o more more' →
      ((st' : OwnState) → so ≡ Some st' → flows_to st'.contamination l ≡ true → (o ≡ None) ⊎ ((st : OwnState) × (o ≡ Some st) × (flows_to st.contamination l ≡ true))) → (so ≡ None → o ≡ None) →
      GivenByState l so (xs ++ more) (xs' ++ more')
  more_by_state None so xs xs' more more' h k back gone = go so
    where
      go : (so : Option OwnState) → GivenByState l so (xs ++ more) (xs' ++ more')
      go None = (rw (h.0, k.0) refl, rw (h.1, k.1) refl)
      go (Some st') = λ w. rw (h.0, h.1, k.0, k.1) refl
  more_by_state (Some st) None xs xs' more more' h k back gone = let e = gone refl in absurd (let z : ⊥ = cc in z)
  more_by_state (Some st) (Some st') xs xs' more more' h k back gone = λ w. let v = inside (back st' refl w) in rw (h v, k v) refl
    where
      inside : (Some st ≡ None) ⊎ ((x : OwnState) × (Some st ≡ Some x) × (flows_to x.contamination l ≡ true)) → flows_to st.contamination l ≡ true
      inside (inl e) = absurd (let z : ⊥ = cc in z)
      inside (inr b) = let same : st ≡ b.0 = (let e = b.1 in cc) in subst (λ (z : OwnState). flows_to z.contamination l ≡ true) (sym same) b.2

  -- the subscriptions of a unit
  subscribed_kept : (u : UnitName) (e : Entry) (o o' : Option OwnState) → Agrees contaminated l o o' → GivenByState l o (option_to_list (subscribed_by R e u o)) (option_to_list (subscribed_by R e u o'))
  subscribed_kept u (Emitted c) None o' agree = (refl, refl)
  subscribed_kept u (Emitted c) (Some st) o' agree = λ h. refl
  subscribed_kept u (Done a c r f) None o' agree = rw agree (none (same a u), none (same a u))
    where
      none : (b : Bool) → option_to_list (cond b (option_and_then (λ st. R.subscribes st c r) None) None) ≡ []
      none true = refl
      none false = refl
  subscribed_kept u (Done a c r f) (Some st) o' agree = λ h. rw (agree h) refl

  subscribed_skipped : (u : UnitName) (e : Entry) (o : Option OwnState) → IsOut l u e o → GivenByState l o (option_to_list (subscribed_by R e u o)) []
  subscribed_skipped u (Emitted c) None out = (refl, refl)
  subscribed_skipped u (Emitted c) (Some st) out = λ h. refl
  subscribed_skipped u (Done a c r f) o out = go (same a u) o out
    where
      go : (b : Bool) (o : Option OwnState) → (b ≡ true → is_within l o ≡ false) → GivenByState l o (option_to_list (cond b (option_and_then (λ st. R.subscribes st c r) o) None)) []
      go true None out = (refl, refl)
      go true (Some st) out = λ h. let not_in = out refl in cc
      go false None out = (refl, refl)
      go false (Some st) out = λ h. refl

  subscriptions_agree : (past : List Entry) (u : UnitName) → MayBeWithin R s l past u → GivenByState l (own R s past u) (subscriptions R s past u) (subscriptions R s (purge R s l past) u)
  subscriptions_agree [] u k = go (own R s [] u)
    where
      go : (o : Option OwnState) → GivenByState {A = ℕ × List Clause} l o [] []
      go None = (refl, refl)
      go (Some st) = λ h. refl
  subscriptions_agree (e ∷ past) u k = go (stays R s l past e) refl (subscriptions_agree past u (within_before e past u k))
    where
      step : GivenByState l (own R s past u) (subscriptions R s past u) (subscriptions R s (purge R s l past) u) → (more' : List (ℕ × List Clause)) →
          GivenByState l (own R s past u) (option_to_list (subscribed_by R e u (own R s past u))) more' →
          GivenByState l (own R s (e ∷ past) u) (subscriptions R s (e ∷ past) u) (subscriptions R s (purge R s l past) u ++ more')
      step ih more' k = more_by_state (own R s past u) (own R s (e ∷ past) u) (subscriptions R s past u) (subscriptions R s (purge R s l past) u)
          (option_to_list (subscribed_by R e u (own R s past u))) more' ih k (own_back R s laws l e past u) (none_before R s e past u)

      go : (b : Bool) → stays R s l past e ≡ b → GivenByState l (own R s past u) (subscriptions R s past u) (subscriptions R s (purge R s l past) u) →
          GivenByState l (own R s (e ∷ past) u) (subscriptions R s (e ∷ past) u) (subscriptions R s (left_of l b e ++ purge R s l past) u)
      go true h ih = step ih (option_to_list (subscribed_by R e u (own R s (purge R s l past) u))) (subscribed_kept u e (own R s past u) (own R s (purge R s l past) u) (own_agrees past u (within_before e past u k)))
      go false h ih = rw (subscriptions-emitted R s (echo l (commit_of e)) (purge R s l past) u)
          (subst (λ (xs : List (ℕ × List Clause)). GivenByState l (own R s (e ∷ past) u) (subscriptions R s (e ∷ past) u) xs) (append-nil (subscriptions R s (purge R s l past) u))
          (step ih [] (subscribed_skipped u e (own R s past u) (is_out R s laws l past e h u))))

  -- deliveries to a plain unit
  plain_news_agree : (o o' : Option OwnState) (subs subs' : List (ℕ × List Clause)) (ds ds' : List Given) → IfThere Reads o → Agrees contaminated l o o' → GivenByState l o subs subs' → GivenByState l o ds ds' →
      (past : List Entry) (oc : Option Commit) (past' : List Entry) (oc' : Option Commit) → Alike l past oc past' oc' →
      GivenByState l o (plain_news o subs ds past oc) (plain_news o' subs' ds' past' oc')
  plain_news_agree None o' subs subs' ds ds' reads agree same_subs same_ds past oc past' oc' a = (refl, rw agree refl)
  plain_news_agree (Some st) o' subs subs' ds ds' reads agree same_subs same_ds past oc past' oc' a = λ k.
      rw (agree k, same_subs k, same_ds k) (plain_news_alike l st subs ds (flows_to-trans st.input st.contamination l reads k) past oc past' oc' a)

  plain_given : (past : List Entry) (path : List ℕ) → GivenByState l (own_plain R s past path) (deliveries_plain R s past path) (deliveries_plain R s (purge R s l past) path)
  plain_given [] path = go (root_at s path)
    where
      go : (o : Option OwnState) → GivenByState {A = Given} l o [] []
      go None = (refl, refl)
      go (Some st) = λ h. refl
  plain_given (e ∷ past) path = go (stays R s l past e) refl (plain_given past path)
    where
      step : GivenByState l (own_plain R s past path) (deliveries_plain R s past path) (deliveries_plain R s (purge R s l past) path) → (oc' : Option Commit) → Alike l past (commit_of e) (purge R s l past) oc' →
          GivenByState l (own_plain R s (e ∷ past) path) (deliveries_plain R s past path ++ plain_news (own_plain R s past path) (subscriptions R s past (Root path)) (deliveries_plain R s past path) past (commit_of e))
          (deliveries_plain R s (purge R s l past) path ++ plain_news (own_plain R s (purge R s l past) path) (subscriptions R s (purge R s l past) (Root path)) (deliveries_plain R s (purge R s l past) path) (purge R s l past) oc')
      step ih oc' a = more_by_state (own_plain R s past path) (own_plain R s (e ∷ past) path) (deliveries_plain R s past path) (deliveries_plain R s (purge R s l past) path)
          (plain_news (own_plain R s past path) (subscriptions R s past (Root path)) (deliveries_plain R s past path) past (commit_of e))
          (plain_news (own_plain R s (purge R s l past) path) (subscriptions R s (purge R s l past) (Root path)) (deliveries_plain R s (purge R s l past) path) (purge R s l past) oc') ih
          (plain_news_agree (own_plain R s past path) (own_plain R s (purge R s l past) path) (subscriptions R s past (Root path)) (subscriptions R s (purge R s l past) (Root path)) (deliveries_plain R s past path) (deliveries_plain R s (purge R s l past) path)
          (plain_reads past path) (plain_agrees past path) (subscriptions_agree past (Root path) tt) ih past (commit_of e) (purge R s l past) oc' a)
          (own_back R s laws l e past (Root path)) (none_before R s e past (Root path))

      go : (b : Bool) → stays R s l past e ≡ b → GivenByState l (own_plain R s past path) (deliveries_plain R s past path) (deliveries_plain R s (purge R s l past) path) →
          GivenByState l (own_plain R s (e ∷ past) path) (deliveries_plain R s past path ++ plain_news (own_plain R s past path) (subscriptions R s past (Root path)) (deliveries_plain R s past path) past (commit_of e)) (deliveries_plain R s (left_of l b e ++ purge R s l past) path)
      go true h ih = step ih (commit_of e) (kept_alike l past (purge R s l past) (seen_agrees past) (commit_of e))
      go false h ih = rw (deliveries_plain-emitted R s (echo l (commit_of e)) (purge R s l past) path)
          (step ih (echo l (commit_of e)) (echo_alike l past (purge R s l past) (seen_agrees past) (commit_of e)))

  -- deliveries to an instance
  instance_given_step : (n : ℕ) (t : List (List ℕ)) (fx fx' y : Option Fixed) (ds ds' : List Given) → Agrees recorded l fx fx' → InstanceGiven l t fx ds ds' →
      (past : List Entry) (oc : Option Commit) (past' : List Entry) (oc' : Option Commit) → Alike l past oc past' oc' →
      InstanceGiven l t (option_or fx y) (ds ++ instance_news fx n t ds past oc) (ds' ++ instance_news fx' n t ds' past' oc')
  instance_given_step n t None fx' y ds ds' fixed_ih ih past oc past' oc' a = go y
    where
      go : (y : Option Fixed) → InstanceGiven l t y (ds ++ instance_news None n t ds past oc) (ds' ++ instance_news fx' n t ds' past' oc')
      go None = (rw ih.0 refl, rw (ih.1, fixed_ih) refl)
      go (Some f) = λ h k. rw (ih.0, ih.1, fixed_ih) refl
  instance_given_step n t (Some f) fx' y ds ds' fixed_ih ih past oc past' oc' a = λ h k.
      rw (fixed_ih h, ih h k) (ap (λ (news : List Given). ds ++ news) (instance_news_alike l f n t ds k past oc past' oc' a))

  instance_given : (past : List Entry) (o : List ℕ) (n : ℕ) (t : List (List ℕ)) → InstanceGiven l t (fixed R s past o n) (deliveries_instance R s past o n t) (deliveries_instance R s (purge R s l past) o n t)
  instance_given [] o n t = (refl, refl)
  instance_given (e ∷ past) o n t = go (stays R s l past e) refl (instance_given past o n t)
    where
      go : (b : Bool) → stays R s l past e ≡ b → InstanceGiven l t (fixed R s past o n) (deliveries_instance R s past o n t) (deliveries_instance R s (purge R s l past) o n t) →
          InstanceGiven l t (option_or (fixed R s past o n) (fixed_by R e o n (own_plain R s past o))) (deliveries_instance R s past o n t ++ instance_news (fixed R s past o n) n t (deliveries_instance R s past o n t) past (commit_of e)) (deliveries_instance R s (left_of l b e ++ purge R s l past) o n t)
      go true h ih = instance_given_step n t (fixed R s past o n) (fixed R s (purge R s l past) o n) (fixed_by R e o n (own_plain R s past o)) (deliveries_instance R s past o n t) (deliveries_instance R s (purge R s l past) o n t)
          (fixed_agrees past o n) ih past (commit_of e) (purge R s l past) (commit_of e) (kept_alike l past (purge R s l past) (seen_agrees past) (commit_of e))
      go false h ih = rw (deliveries_instance-emitted R s (echo l (commit_of e)) (purge R s l past) o n t)
          (instance_given_step n t (fixed R s past o n) (fixed R s (purge R s l past) o n) (fixed_by R e o n (own_plain R s past o)) (deliveries_instance R s past o n t) (deliveries_instance R s (purge R s l past) o n t)
          (fixed_agrees past o n) ih past (commit_of e) (purge R s l past) (echo l (commit_of e)) (echo_alike l past (purge R s l past) (seen_agrees past) (commit_of e)))

  -- together
  pub same_own : (past : List Entry) (u : UnitName) (st : OwnState) → own R s past u ≡ Some st → flows_to st.contamination l ≡ true → own R s (purge R s l past) u ≡ Some st
  same_own past u st h w = rw h at (own_agrees past u (may_be_within past u st h w)) w

  same_subscriptions : (past : List Entry) (u : UnitName) (st : OwnState) → own R s past u ≡ Some st → flows_to st.contamination l ≡ true → subscriptions R s (purge R s l past) u ≡ subscriptions R s past u
  same_subscriptions past u st h w = rw h at (subscriptions_agree past u (may_be_within past u st h w)) w

  pub same_deliveries : (past : List Entry) (u : UnitName) (st : OwnState) → own R s past u ≡ Some st → flows_to st.contamination l ≡ true → deliveries R s (purge R s l past) u ≡ deliveries R s past u
  same_deliveries past (Root path) st h w = rw h at (plain_given past path) w
  same_deliveries past (Managed o n t) st h w = go (fixed R s past o n) (instance_given past o n t) (may_be_within past (Managed o n t) st h w)
    where
      go : (fx : Option Fixed) → InstanceGiven l t fx (deliveries_instance R s past o n t) (deliveries_instance R s (purge R s l past) o n t) → KeptWithin l t fx → deliveries_instance R s (purge R s l past) o n t ≡ deliveries_instance R s past o n t
      go None a k = a.1 ∙ sym a.0
      go (Some f) a k = a k.0 k.1

  pub purge_keeps : (past : List Entry) → Keeps R s l past (purge R s l past)
  purge_keeps past = record { same_own = same_own past; same_subscriptions = same_subscriptions past; same_deliveries = same_deliveries past; same_contents = seen_agrees past }

  -- an entry that stays is still the answer
  right_again : (past : List Entry) (e : Entry) → stays R s l past e ≡ true → IsRight R s past e → IsRight R s (purge R s l past) e
  right_again past (Emitted c) h k = tt
  right_again past (Done a c r f) h k = go (own R s past a) refl h
    where
      go : (o : Option OwnState) → own R s past a ≡ o → is_within l o ≡ true → answer R s (purge R s l past) a c ≡ (r, f)
      go None e w = absurd (let z : ⊥ = cc in z)
      go (Some st) e w =
          ap (λ (o : Option OwnState). answer_of R a o (deliveries R s (purge R s l past) a) c) (same_own past a st e w ∙ sym e)
          ∙ ap (λ (ds : List Given). answer_of R a (own R s past a) ds c) (same_deliveries past a st e w)
          ∙ k

  legal_emitted : (oc : Option Commit) (past : List Entry) → Legal R s past → Legal R s (emitted oc ++ past)
  legal_emitted None past h = h
  legal_emitted (Some c) past h = (h, tt)

  pub purge_legal : (past : List Entry) → Legal R s past → Legal R s (purge R s l past)
  purge_legal [] h = tt
  purge_legal (e ∷ past) h = go (stays R s l past e) refl (purge_legal past h.0)
    where
      go : (b : Bool) → stays R s l past e ≡ b → Legal R s (purge R s l past) → Legal R s (left_of l b e ++ purge R s l past)
      go true k ih = (ih, right_again past e k h.1)
      go false k ih = legal_emitted (echo l (commit_of e)) (purge R s l past) ih
