-- The plain opening: it has no entry of the first root, and where it isn't stopped, the other roots wait after it.
use Rattle.df_floor_run.proofs.Names.{◌≡◌, ◌⊎◌, inl, inr, ℕ, zero, suc, ◌<◌, List, [], ◌∷◌, ◌++◌, Bool, true, false, true≢false, ◌||◌, refl, sym, ◌∙◌, ap, subst, cond, Option, Some, length, arith, is_some, slice_get, option_map, CrewState, turned, more_longer, more_refl, more_trans, IsMore, State, appended, firsts, IsTurn, Opened, Repeated, is_full, root_name, take_turn, Brain, Opens, has_entry, is_of, replies_of, wanted, Wait, answer, own, rows, grown_after, own_grows, RootStart, same, OwnState, Call, Entry, UnitName, Reply, same_name-exact}
use Rattle.std.proofs.lemmas.Bool.{le-leb, leb-true}
use Rattle.df_booking.specs.Minds.{mind_from}
use Rattle.df_crew.proofs.Still.{at_rest}
use Rattle.df_plain_floor.proofs.More.{take_more}
use Rattle.df_floor_run.proofs.Keeping.{turns_keep}

abbrev pub first : UnitName
first = root_name 0

-- roots of different numbers are different units
pub apart : (n k : ℕ) → (n ≡ k → ⊥) → same (root_name n) (root_name k) ≡ false
apart n k differ = by (same (root_name n) (root_name k)) refl
  where
    by : (b : Bool) → same (root_name n) (root_name k) ≡ b → b ≡ false
    by false e = refl
    by true e = absurd (differ (let is : root_name n ≡ root_name k = same_name-exact _ _ e in cc))

-- an entry of another unit is none of a unit's, and no reply to it
pub entry_apart : (u v : UnitName) (c : Call) (core : State) → same u v ≡ false → has_entry v core.1 ≡ false → has_entry v (appended u c core).1 ≡ false
entry_apart u v c core other none = ap (λ (b : Bool). b || has_entry v core.1) other ∙ none

pub replies_apart : (u v : UnitName) (c : Call) (core : State) → same u v ≡ false → replies_of v (appended u c core).1 ≡ replies_of v core.1
replies_apart u v c core other =
    ap (λ (b : Bool). cond b ((answer rows (firsts core.0) core.1 u c).0 ∷ replies_of v core.1) (replies_of v core.1)) other

pub none_none : (u : UnitName) (past : List Entry) → has_entry u past ≡ false → replies_of u past ≡ []
none_none u [] h = refl
none_none u (Entry.Done a c r f ∷ past) h = by (same a u) h (none_none u past)
  where
    by : (b : Bool) → (b || has_entry u past) ≡ false → (has_entry u past ≡ false → replies_of u past ≡ []) →
        cond b (r ∷ replies_of u past) (replies_of u past) ≡ []
    by true k ih = absurd (let z : ⊥ = cc in z)
    by false k ih = ih k
none_none u (Entry.Emitted c ∷ past) h = none_none u past h

-- without an entry of the first root nothing is asked
pub opens_none : {B : Type 0} (brain : Brain B) (bs : List B) (past : List Entry) → has_entry first past ≡ false → Opens brain bs past
opens_none brain bs [] h = tt
opens_none {B} brain bs (e ∷ past) h = by (is_of first e) refl h (opens_none brain bs past)
  where
    by : (b : Bool) → is_of first e ≡ b → (b || has_entry first past) ≡ false → (has_entry first past ≡ false → Opens brain bs past) → Opens brain bs (e ∷ past)
    by true is k ih = absurd (let z : ⊥ = cc in z)
    by false is k ih = (ih k, λ there none. absurd (let z : ⊥ = cc in z))

below_or : (j n : ℕ) → j < suc n → (j < n) ⊎ (j ≡ n)
below_or zero zero h = inr refl
below_or zero (suc n) h = inl (omega arith)
below_or (suc j) zero h = absurd (let z : ⊥ = omega arith in z)
below_or (suc j) (suc n) h = elim (below_or j n (omega arith)) [
  | inl k ↦ inl (omega arith)
  | inr k ↦ inr (ap (λ (m : ℕ). suc m) k)
]

module _ {B : Type 0} (brain : Brain B) (max : ℕ) where
  turns_more : (u : UnitName) (n : ℕ) (old new : CrewState B) → Repeated (IsTurn brain max u) n old new → IsMore old new
  turns_more u zero old new same = subst (λ (c : CrewState B). IsMore old c) (sym same) (more_refl old)
  turns_more u (suc n) old new (mid, before, step) =
      more_trans old mid new (turns_more u n old mid before) (subst (λ (c : CrewState B). IsMore mid c) (sym step) (take_more brain max u mid))

  pub opened_more : (n : ℕ) (old new : CrewState B) → Opened brain max n old new → IsMore old new
  opened_more zero old new same = subst (λ (c : CrewState B). IsMore old c) (sym same) (more_refl old)
  opened_more (suc n) old new (mid, before, outs) =
      more_trans old mid new (opened_more n old mid before) (turns_more (root_name (suc n)) outs.count mid new outs.steps)

  -- the opening has no entry of the first root
  pub opened_none : (n : ℕ) (old new : CrewState B) → Opened brain max n old new → has_entry first old.core.1 ≡ false → has_entry first new.core.1 ≡ false
  opened_none zero old new same h = subst (λ (c : CrewState B). has_entry first c.core.1 ≡ false) (sym same) h
  opened_none (suc n) old new (mid, before, outs) h =
      turns_keep brain (λ (core : State). has_entry first core.1 ≡ false) (root_name (suc n))
      (λ c core. entry_apart (root_name (suc n)) first c core (apart (suc n) 0 (λ e. omega arith))) max outs.count mid new outs.steps
      (opened_none n old mid before h)

  -- a journal that isn't full wasn't full before
  pub below_before : (a b : CrewState B) → IsMore a b → is_full max b ≡ false → is_full max a ≡ false
  below_before a b more h = by (is_full max a) refl
    where
      by : (x : Bool) → is_full max a ≡ x → x ≡ false
      by false e = refl
      by true e = absurd (true≢false (sym (le-leb max (length b.core.1)
          (let l = more_longer a b more in let k = leb-true max (length a.core.1) e in omega (arith, l, k))) ∙ h))

  pub takes_all : (u : UnitName) (crew : CrewState B) → is_full max crew ≡ false → take_turn brain max u crew ≡ turned brain u crew
  takes_all u crew h = ap (λ (b : Bool). cond b crew (turned brain u crew)) h

  -- a root that exists waits where its turn changes nothing
  last_waits : (k : ℕ) (crew : CrewState B) → is_full max crew ≡ false → IsTurn brain max (root_name k) crew crew →
      (st : OwnState) → own rows (firsts crew.core.0) crew.core.1 (root_name k) ≡ Some st →
      (x : B) → slice_get crew.brains k ≡ Some x → (wanted brain x (replies_of (root_name k) crew.core.1)).0 ≡ Wait
  last_waits k crew below last st here x e =
      let stays : turned brain (root_name k) crew ≡ crew = sym (takes_all (root_name k) crew below) ∙ sym last in
      let longer = ap (λ (c : CrewState B). length c.core.1) stays in
      let has = ap (λ (o : Option B). is_some (option_map (mind_from brain crew.core.1 (root_name k)) o)) e in
      let rest = at_rest brain (root_name k) crew st here has (omega (arith, longer)) in
      let is : rest.0 ≡ x = (let b = rest.1.begun in cc) in
      subst (λ (y : B). (wanted brain y (replies_of (root_name k) crew.core.1)).0 ≡ Wait) is rest.1.waits

  -- where the opening isn't stopped, each root that it opened waits
  pub opened_waits : (n : ℕ) (old new : CrewState B) → Opened brain max n old new → is_full max new ≡ false →
      ((k : ℕ) (x : B) → slice_get old.brains k ≡ Some x → (st : OwnState) × (own rows (firsts old.core.0) old.core.1 (root_name k) ≡ Some st)) →
      (j : ℕ) → j < n → (x : B) → slice_get new.brains (suc j) ≡ Some x → (wanted brain x (replies_of (root_name (suc j)) new.core.1)).0 ≡ Wait
  opened_waits zero old new still below exist j inside x e = absurd (let z : ⊥ = omega arith in z)
  opened_waits (suc n) old new (mid, before, outs) below exist j inside x e =
      elim (below_or j n inside) [
        | inl h ↦ earlier (opened_waits n old mid before (below_before mid new later below) exist j h x
            (subst (λ (bs : List B). slice_get bs (suc j) ≡ Some x) later.brains e)) h
        | inr h ↦ here h
      ]
    where
      later : IsMore mid new
      later = turns_more (root_name (suc n)) outs.count mid new outs.steps

      all : IsMore old new
      all = more_trans old mid new (opened_more n old mid before) later

      earlier : (wanted brain x (replies_of (root_name (suc j)) mid.core.1)).0 ≡ Wait → j < n →
          (wanted brain x (replies_of (root_name (suc j)) new.core.1)).0 ≡ Wait
      earlier waits h =
          let kept : replies_of (root_name (suc j)) new.core.1 ≡ replies_of (root_name (suc j)) mid.core.1 =
          turns_keep brain (λ (core : State). replies_of (root_name (suc j)) core.1 ≡ replies_of (root_name (suc j)) mid.core.1) (root_name (suc n))
          (λ c core is. replies_apart (root_name (suc n)) (root_name (suc j)) c core (apart (suc n) (suc j) (λ i. omega arith))
          ∙ is) max outs.count mid new outs.steps refl in
          subst (λ (rs : List Reply). (wanted brain x rs).0 ≡ Wait) (sym kept) waits

      here : j ≡ n → (wanted brain x (replies_of (root_name (suc j)) new.core.1)).0 ≡ Wait
      here is =
          let there = exist (suc j) x (subst (λ (bs : List B). slice_get bs (suc j) ≡ Some x) all.brains e) in
          let grown = own_grows rows (firsts old.core.0) grown_after all.more old.core.1 (root_name (suc j)) there.0 there.1 in
          let now : own rows (firsts new.core.0) new.core.1 (root_name (suc j)) ≡ Some grown.0 =
          ap (λ (core : State). own rows (firsts core.0) core.1 (root_name (suc j))) (cores all) ∙ grown.1 in
          last_waits (suc j) new below (subst (λ (k : ℕ). IsTurn brain max (root_name (suc k)) new new) (sym is) outs.last) grown.0 now x e
        where
          cores : (m : IsMore old new) → new.core ≡ (old.core.0, m.more ++ old.core.1)
          cores m = ap (λ (roots : List RootStart). let s : State = (roots, new.core.1) in s) m.start
              ∙ ap (λ (es : List Entry). let s : State = (old.core.0, es) in s) m.journal
