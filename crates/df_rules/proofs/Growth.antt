-- What only grows: privileges, contamination, counts and deliveries.
use Rattle.df_rules.proofs.Names.{◌≡◌, ℕ, ◌+◌, ◌≤◌, List, [], ◌∷◌, ◌++◌, Bool, true, false, refl, sym, ◌∙◌, ap, subst, cond, Option, Some, None, arith, option_map, option_or, append-nil, append_assoc, maker_of, is_subset, contains, with, Privilege, Act, Add, Del, Half, commit_of, plain_news, instance_news, deliveries, deliveries_plain, deliveries_instance, stepped, made_by, own_plain, own_instance, own, fixed, born, Rules, subscriptions, flows_to-refl, flows_to-trans, flows_to-join_left, is_subset-refl, is_subset-trans, is_subset-with, holds, grant, grant_all, same, OwnState, after, changed, half_changed, now_dropped, now_endorsed, is_accepted, found, next_tag, handle_at, Call, CreateEvent, ReadPart, CloneEvent, ChangeOutLabel, CreateTag, Subscribe, SubscribeManaged, Get, ChangeInOut, Instantiate, Given, Effect, Entry, Done, Emitted, UnitName, Root, Managed, Reply}
use Rattle.df_rules.specs.Grows.{HasGrown}
use Rattle.df_priv.proofs.HeldFacts.{holds-grant_kept}
use Rattle.df_unit.specs.Held.{all_over}

-- privileges

holds-grant_all : (held qs : List Privilege) (p : Privilege) → holds held p ≡ true → holds (grant_all held qs) p ≡ true
holds-grant_all held [] p h = h
holds-grant_all held (q ∷ qs) p h = holds-grant_all (grant held q) qs p (holds-grant_kept held q p h)

-- counts

le_refl : (n : ℕ) → n ≤ n
le_refl n = omega arith

le_next : (n : ℕ) → n ≤ n + 1
le_next n = omega arith

le_trans : (a b c : ℕ) → a ≤ b → b ≤ c → a ≤ c
le_trans a b c h k = omega arith

-- states

pub grown_refl : (st : OwnState) → HasGrown st st
grown_refl st = record {
  held = λ p h. h;
  contamination = flows_to-refl st.contamination;
  dropped = is_subset-refl st.dropped;
  endorsed = is_subset-refl st.endorsed;
  events = le_refl st.events;
  tags = le_refl st.tags;
  subs = le_refl st.subs;
  units = le_refl st.units;
  given = le_refl st.given;
}

pub grown_trans : (a b c : OwnState) → HasGrown a b → HasGrown b c → HasGrown a c
grown_trans a b c h k = record {
  held = λ p m. k.held p (h.held p m);
  contamination = flows_to-trans a.contamination b.contamination c.contamination h.contamination k.contamination;
  dropped = is_subset-trans a.dropped b.dropped c.dropped h.dropped k.dropped;
  endorsed = is_subset-trans a.endorsed b.endorsed c.endorsed h.endorsed k.endorsed;
  events = le_trans a.events b.events c.events h.events k.events;
  tags = le_trans a.tags b.tags c.tags h.tags k.tags;
  subs = le_trans a.subs b.subs c.subs h.subs k.subs;
  units = le_trans a.units b.units c.units h.units k.units;
  given = le_trans a.given b.given c.given h.given k.given;
}

grown_dropped : (half : Half) (act : Act) (t : List ℕ) (st : OwnState) → is_subset st.dropped (now_dropped half act t st) ≡ true
grown_dropped Half.S Del t st = go (contains st.output.s t)
  where
    go : (b : Bool) → is_subset st.dropped (cond b (with st.dropped t) st.dropped) ≡ true
    go true = is_subset-with st.dropped t
    go false = is_subset-refl st.dropped
grown_dropped Half.S Add t st = is_subset-refl st.dropped
grown_dropped Half.I Add t st = is_subset-refl st.dropped
grown_dropped Half.I Del t st = is_subset-refl st.dropped

grown_endorsed : (half : Half) (act : Act) (t : List ℕ) (st : OwnState) → is_subset st.endorsed (now_endorsed half act t st) ≡ true
grown_endorsed Half.I Add t st = go (contains st.output.i t)
  where
    go : (b : Bool) → is_subset st.endorsed (cond b st.endorsed (with st.endorsed t)) ≡ true
    go true = is_subset-refl st.endorsed
    go false = is_subset-with st.endorsed t
grown_endorsed Half.I Del t st = is_subset-refl st.endorsed
grown_endorsed Half.S Add t st = is_subset-refl st.endorsed
grown_endorsed Half.S Del t st = is_subset-refl st.endorsed

-- a row at a time
grown_changed : (u : UnitName) (st : OwnState) (c : Call) (f : Effect) → HasGrown st (changed u st c f)
grown_changed u st CreateEvent f = record {
  held = λ p h. h;
  contamination = flows_to-refl st.contamination;
  dropped = is_subset-refl st.dropped;
  endorsed = is_subset-refl st.endorsed;
  events = le_next st.events;
  tags = le_refl st.tags;
  subs = le_refl st.subs;
  units = le_refl st.units;
  given = le_refl st.given;
}
grown_changed u st (CloneEvent h label) f = record {
  held = λ p h. h;
  contamination = flows_to-refl st.contamination;
  dropped = is_subset-refl st.dropped;
  endorsed = is_subset-refl st.endorsed;
  events = le_next st.events;
  tags = le_refl st.tags;
  subs = le_refl st.subs;
  units = le_refl st.units;
  given = le_refl st.given;
}
grown_changed u st (ReadPart h name) f = record {
  held = λ p k. holds-grant_all st.held (found st.input name (handle_at st.handles h)) p k;
  contamination = flows_to-refl st.contamination;
  dropped = is_subset-refl st.dropped;
  endorsed = is_subset-refl st.endorsed;
  events = le_refl st.events;
  tags = le_refl st.tags;
  subs = le_refl st.subs;
  units = le_refl st.units;
  given = le_refl st.given;
}
grown_changed u st CreateTag f = record {
  held = λ p k. holds-grant_all st.held (all_over (next_tag u st)) p k;
  contamination = flows_to-refl st.contamination;
  dropped = is_subset-refl st.dropped;
  endorsed = is_subset-refl st.endorsed;
  events = le_refl st.events;
  tags = le_next st.tags;
  subs = le_refl st.subs;
  units = le_refl st.units;
  given = le_refl st.given;
}
grown_changed u st (Subscribe filter) f = record {
  held = λ p h. h;
  contamination = flows_to-refl st.contamination;
  dropped = is_subset-refl st.dropped;
  endorsed = is_subset-refl st.endorsed;
  events = le_refl st.events;
  tags = le_refl st.tags;
  subs = le_next st.subs;
  units = le_refl st.units;
  given = le_refl st.given;
}
grown_changed u st (SubscribeManaged filter) f = record {
  held = λ p h. h;
  contamination = flows_to-refl st.contamination;
  dropped = is_subset-refl st.dropped;
  endorsed = is_subset-refl st.endorsed;
  events = le_refl st.events;
  tags = le_refl st.tags;
  subs = le_next st.subs;
  units = le_refl st.units;
  given = le_refl st.given;
}
grown_changed u st (Instantiate s privileges) f = record {
  held = λ p h. h;
  contamination = flows_to-refl st.contamination;
  dropped = is_subset-refl st.dropped;
  endorsed = is_subset-refl st.endorsed;
  events = le_refl st.events;
  tags = le_refl st.tags;
  subs = le_refl st.subs;
  units = le_next st.units;
  given = le_refl st.given;
}
grown_changed u st (ChangeOutLabel half act t) f = record {
  held = λ p h. h;
  contamination = flows_to-refl st.contamination;
  dropped = grown_dropped half act t st;
  endorsed = grown_endorsed half act t st;
  events = le_refl st.events;
  tags = le_refl st.tags;
  subs = le_refl st.subs;
  units = le_refl st.units;
  given = le_refl st.given;
}
grown_changed u st (ChangeInOut half act t) f = record {
  held = λ p h. h;
  contamination = flows_to-join_left st.contamination (half_changed half act t st.input);
  dropped = grown_dropped half act t st;
  endorsed = grown_endorsed half act t st;
  events = le_refl st.events;
  tags = le_refl st.tags;
  subs = le_refl st.subs;
  units = le_refl st.units;
  given = le_refl st.given;
}
grown_changed u st Get (Effect.Given d) = record {
  held = λ p h. h;
  contamination = flows_to-refl st.contamination;
  dropped = is_subset-refl st.dropped;
  endorsed = is_subset-refl st.endorsed;
  events = le_refl st.events;
  tags = le_refl st.tags;
  subs = le_refl st.subs;
  units = le_refl st.units;
  given = le_next st.given;
}
grown_changed u st Get Effect.Nothing = grown_refl st
grown_changed u st Get (Effect.Commit k) = grown_refl st
grown_changed u st _ f = record {
  held = λ p h. h;
  contamination = flows_to-refl st.contamination;
  dropped = is_subset-refl st.dropped;
  endorsed = is_subset-refl st.endorsed;
  events = le_refl st.events;
  tags = le_refl st.tags;
  subs = le_refl st.subs;
  units = le_refl st.units;
  given = le_refl st.given;
}

pub grown_after : (u : UnitName) (st : OwnState) (c : Call) (r : Reply) (f : Effect) → HasGrown st (after u st c r f)
grown_after u st c r f = go (is_accepted r)
  where
    go : (b : Bool) → HasGrown st (cond b (changed u st c f) st)
    go true = grown_changed u st c f
    go false = grown_refl st

-- units

module _ (R : Rules) (s : List OwnState) (grows : (u : UnitName) (st : OwnState) (c : Call) (r : Reply) (f : Effect) → HasGrown st (R.after u st c r f)) where
  stepped_grows : (u : UnitName) (e : Entry) (o y : Option OwnState) (st : OwnState) → o ≡ Some st → (later : OwnState) × (option_or (stepped R u e o) y ≡ Some later) × HasGrown st later
  stepped_grows u e None y st h = absurd (let z : ⊥ = cc in z)
  stepped_grows u (Emitted c) (Some st0) y st h = (st0, refl, (let same : st0 ≡ st = (let k = h in cc) in subst (λ (z : OwnState). HasGrown z st0) same (grown_refl st0)))
  stepped_grows u (Done a c r f) (Some st0) y st h = go (same a u)
    where
      is : st0 ≡ st
      is = let k = h in cc

      go : (b : Bool) → (later : OwnState) × (option_or (cond b (option_map (λ st. R.after u st c r f) (Some st0)) (Some st0)) y ≡ Some later) × HasGrown st later
      go true = (R.after u st0 c r f, refl, subst (λ (z : OwnState). HasGrown z (R.after u st0 c r f)) is (grows u st0 c r f))
      go false = (st0, refl, subst (λ (z : OwnState). HasGrown z st0) is (grown_refl st0))

  entry_grows : (e : Entry) (past : List Entry) (u : UnitName) (st : OwnState) → own R s past u ≡ Some st → (later : OwnState) × (own R s (e ∷ past) u ≡ Some later) × HasGrown st later
  entry_grows e past (Root path) st h = stepped_grows (Root path) e (own_plain R s past path) (made_by R e path (own_plain R s past (maker_of path))) st h
  entry_grows e past (Managed o n t) st h = stepped_grows (Managed o n t) e (own_instance R s past o n t) (born R (fixed R s past o n) t past (commit_of e)) st h

  -- a unit that exists goes on to exist, and its state only grows
  pub own_grows : (newer past : List Entry) (u : UnitName) (st : OwnState) → own R s past u ≡ Some st → (later : OwnState) × (own R s (newer ++ past) u ≡ Some later) × HasGrown st later
  own_grows [] past u st h = (st, h, grown_refl st)
  own_grows (e ∷ newer) past u st h =
      let before = own_grows newer past u st h in
      let now = entry_grows e (newer ++ past) u before.0 before.1 in
      (now.0, now.1, grown_trans st before.0 now.0 before.2 now.2)

-- deliveries
module _ (R : Rules) (s : List OwnState) where
  delivered : (e : Entry) (past : List Entry) (u : UnitName) → (more : List Given) × (deliveries R s (e ∷ past) u ≡ deliveries R s past u ++ more)
  delivered e past (Root path) = (plain_news (own_plain R s past path) (subscriptions R s past (Root path)) (deliveries_plain R s past path) past (commit_of e), refl)
  delivered e past (Managed o n t) = (instance_news (fixed R s past o n) n t (deliveries_instance R s past o n t) past (commit_of e), refl)

  -- later entries leave each delivery as it was
  pub deliveries_grow : (newer past : List Entry) (u : UnitName) → (more : List Given) × (deliveries R s (newer ++ past) u ≡ deliveries R s past u ++ more)
  deliveries_grow [] past u = ([], sym (append-nil (deliveries R s past u)))
  deliveries_grow (e ∷ newer) past u =
      let before = deliveries_grow newer past u in
      let now = delivered e (newer ++ past) u in
      (before.0 ++ now.0, now.1 ∙ ap (λ (ds : List Given). ds ++ now.0) before.1 ∙ append_assoc (deliveries R s past u) before.0 now.0)
