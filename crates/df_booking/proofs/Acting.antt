-- What a unit's entry makes of a crew's journal.
use Rattle.std.proofs.Common.{◌≡◌, ◌≢◌, ◌⊎◌, inl, inr, List, [], ◌∷◌, true, false, not, refl, sym, ◌∙◌, ap, subst, Option, Some, None, option_map}
use Rattle.std.specs.Prelude.{is_some}
use Rattle.df_rules.specs.Deliveries.{deliveries}
use Rattle.df_rules.specs.Follows.{Brain, Calls, Last, Replied, Wait}
use Rattle.df_rules.specs.Legal.{answer, left}
use Rattle.df_rules.specs.Own.{exists, own}
use Rattle.df_rules.specs.Start.{rows}
use Rattle.df_start.specs.declared.start.RootStart.{RootStart}
use Rattle.df_unit.specs.Name.{same}
use Rattle.df_unit.specs.OwnState.{OwnState}
use Rattle.df_unit.specs.Rows.{after, is_nil}
use Rattle.df_unit.specs.declared.call.Call.{Call}
use Rattle.df_unit.specs.declared.call.Call.TheVariants.{Get}
use Rattle.df_unit.specs.declared.commit.Given.{Given}
use Rattle.df_unit.specs.declared.entry.Effect.{Effect}
use Rattle.df_unit.specs.declared.entry.Entry.{Entry}
use Rattle.df_unit.specs.declared.entry.Entry.TheVariants.{Done}
use Rattle.df_unit.specs.declared.name.UnitName.{UnitName}
use Rattle.df_unit.specs.declared.reply.Reply.{Reply}
use Rattle.df_local.specs.Locally.{with_own}
use Rattle.df_local.specs.code.LocalState.{LocalState}
use Rattle.df_machine.specs.Journal.{State, appended, firsts, has_delivery_in, is_due, local_of}
use Rattle.df_booking.specs.CrewState.{mind_in, want_by, want_in}
use Rattle.df_booking.specs.Manned.{IsFollowed, IsMind}
use Rattle.df_booking.proofs.Entries.{exists_kept, own_acted, replies_kept, some_is}
use Rattle.df_booking.proofs.Brained.{entry_follows, mind_acted, mind_kept}

-- a unit's own state, by what a machine tells of it
pub own_of : (core : State) (u : UnitName) (l : LocalState) → local_of core u ≡ Some l → (own rows (firsts core.0) core.1 u ≡ Some l.own) × (l.unit ≡ u)
own_of core u l h = by (own rows (firsts core.0) core.1 u) h
  where
    by : (o : Option OwnState) → option_map (λ (st : OwnState). let x : LocalState = record { unit = u; own = st } in x) o ≡ Some l → (o ≡ Some l.own) × (l.unit ≡ u)
    by None k = absurd (let z : ⊥ = cc in z)
    by (Some st) k =
        let is : (let x : LocalState = record { unit = u; own = st } in x) ≡ l = cc in
        (ap (λ (x : LocalState). Some x.own) is, ap (λ (x : LocalState). x.unit) (sym is))

pub local_by : (core : State) (u : UnitName) (st : OwnState) → own rows (firsts core.0) core.1 u ≡ Some st → local_of core u ≡ Some (record { unit = u; own = st })
local_by core u st h = ap (option_map (λ (st : OwnState). let x : LocalState = record { unit = u; own = st } in x)) h

-- the entry is one that a unit makes by its brain
pub record Acts {B : Type 0} (brain : Brain B) (bs : List B) (start : List RootStart) (past : List Entry) (u : UnitName) (l : LocalState) (m : B × Last) (c : Call) (r : Reply) (f : Effect) : Type 0 where
  pub unit : local_of (start, past) u ≡ Some l
  pub mind : mind_in brain bs (start, past) u ≡ Some m
  pub right : answer rows (firsts start) past u c ≡ (r, f)
  pub wants : ((brain.next m.0 m.1).0 ≡ Calls c) ⊎ (((brain.next m.0 m.1).0 ≡ Wait) × (c ≡ Get) × (has_delivery_in (start, past) u ≡ true))

due_left : (core : State) (u : UnitName) (st : OwnState) → own rows (firsts core.0) core.1 u ≡ Some st → has_delivery_in core u ≡ true → left st (deliveries rows (firsts core.0) core.1 u) ≢ []
due_left core u st h due none =
    let k : is_due (Some st) (deliveries rows (firsts core.0) core.1 u) ≡ true = subst (λ (o : Option OwnState). is_due o (deliveries rows (firsts core.0) core.1 u) ≡ true) h due in
    let z : not (is_nil none_list) ≡ true = subst (λ (ds : List Given). not (is_nil ds) ≡ true) none k in
    let y : ⊥ = cc in y
  where
    none_list : List Given
    none_list = []

module _ {B : Type 0} (brain : Brain B) (bs : List B) (start : List RootStart) (past : List Entry) (u : UnitName) (l : LocalState) (m : B × Last) (c : Call) (r : Reply) (f : Effect)
    (acts : Acts brain bs start past u l m c r f) where
  own_is : own rows (firsts start) past u ≡ Some l.own
  own_is = (own_of (start, past) u l acts.unit).0

  -- the journal goes on as it should
  pub acted_followed : IsFollowed brain bs (start, past) → IsFollowed brain bs (start, Done u c r f ∷ past)
  acted_followed h = record {
    legal = (h.legal, acts.right);
    unaided = (h.unaided, tt);
    follows = (
      h.follows,
      entry_follows (firsts start) brain bs past u c r f l.own m own_is acts.mind (elim acts.wants [
        | inl calls ↦ inl calls
        | inr waits ↦ inr (waits.0, waits.1, due_left (start, past) u l.own own_is waits.2)
      ]),
    );
  }

  pub acted_unit : local_of (start, Done u c r f ∷ past) u ≡ Some (with_own l (after l.unit l.own c r f))
  acted_unit =
      let is = (own_of (start, past) u l acts.unit).1 in
      local_by (start, Done u c r f ∷ past) u (after u l.own c r f) (own_acted (firsts start) past u c r f l.own own_is)
      ∙ ap (λ (v : UnitName). let x : LocalState = record { unit = v; own = after v l.own c r f } in Some x) (sym is)

  pub acted_mind : mind_in brain bs (start, Done u c r f ∷ past) u ≡ Some ((brain.next m.0 m.1).1, Replied r)
  acted_mind = mind_acted (firsts start) brain bs past u c r f l.own m own_is acts.mind

  -- the brains of others stay
  pub acted_others : (v : UnitName) (o : Option (B × Last)) → same u v ≡ false → IsMind brain bs (start, past) v o → IsMind brain bs (start, Done u c r f ∷ past) v o
  acted_others v None e h = replies_kept u c r f past v e ∙ h
  acted_others v (Some n) e h = by (own rows (firsts start) past v) refl h.0
    where
      by : (o : Option OwnState) → own rows (firsts start) past v ≡ o → is_some o ≡ true → (exists rows (firsts start) (Done u c r f ∷ past) v ≡ true) × (mind_in brain bs (start, Done u c r f ∷ past) v ≡ Some n)
      by None k there = absurd (let z : ⊥ = cc in z)
      by (Some st) k there =
          let later = exists_kept (firsts start) (Done u c r f) past v st k in
          (some_is (own rows (firsts start) (Done u c r f ∷ past) v) later.0 later.1, mind_kept (firsts start) brain bs past u c r f v st k e ∙ h.1)

  -- an answered call is appended
  pub acted_appended : appended u c (start, past) ≡ (start, Done u c r f ∷ past)
  acted_appended = ap (λ (p : Reply × Effect). let j : State = (start, Done u c p.0 p.1 ∷ past) in j) acts.right

  pub acted_want : want_in brain bs (start, past) u ≡ Some (brain.next m.0 m.1).0
  acted_want = ap (λ (o : Option OwnState). want_by brain o (mind_in brain bs (start, past) u)) own_is ∙ ap (want_by brain (Some l.own)) acts.mind
