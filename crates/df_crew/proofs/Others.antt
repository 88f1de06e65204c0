-- A unit and its brain stay as they are where others make the entries.
use Rattle.df_crew.proofs.Names.{◌≡◌, List, [], ◌∷◌, ◌++◌, Bool, true, false, ◌||◌, refl, sym, ◌∙◌, ap, subst, cond, Option, Some, None, reverse, option_map, option_or, reverse-append, IsPrefix, IsCurrent, mind_in, mind_from, mind_of, core_at, crew_at, Origin, LocalState, State, firsts, local_of, maker_of, Brain, Last, began_with, has_entry, is_of, last_of, replies_of, state_after, born, fixed, made_by, own, own_instance, own_plain, stepped, rows, TurnState, OwnState, after, Entry, Done, Emitted, UnitName, Managed, Root}
use Rattle.df_booking.proofs.Entries.{began_kept}
use Rattle.df_crew.specs.Locally.{IsBegun}
use Rattle.df_rules.specs.Commits.{commit_of}
use Rattle.df_unit.specs.declared.reply.Reply.{Reply}
use Rattle.df_crew.proofs.HasEntry.{entry_reverse}

neither : (a b : Bool) → (a || b) ≡ false → (a ≡ false) × (b ≡ false)
neither true b h = absurd (let z : ⊥ = cc in z)
neither false b h = (refl, h)

some_or : (o y : Option OwnState) (st : OwnState) → o ≡ Some st → option_or o y ≡ Some st
some_or None y st h = absurd (let z : ⊥ = cc in z)
some_or (Some x) y st h = h

still : (u : UnitName) (e : Entry) (o : Option OwnState) → is_of u e ≡ false → stepped rows u e o ≡ o
still u (Done a c r f) o h = ap (λ (b : Bool). cond b (option_map (λ st. after u st c r f) o) o) h
still u (Emitted c) o h = refl

own_kept : (s : List OwnState) (e : Entry) (past : List Entry) (u : UnitName) (st : OwnState) → is_of u e ≡ false → own rows s past u ≡ Some st
    → own rows s (e ∷ past) u ≡ Some st
own_kept s e past (Root path) st apart h =
    some_or (stepped rows (Root path) e (own_plain rows s past path)) (made_by rows e path (own_plain rows s past (maker_of path))) st
    (still (Root path) e (own_plain rows s past path) apart ∙ h)
own_kept s e past (Managed o n t) st apart h =
    some_or (stepped rows (Managed o n t) e (own_instance rows s past o n t)) (born rows (fixed rows s past o n) t past (commit_of e)) st
    (still (Managed o n t) e (own_instance rows s past o n t) apart ∙ h)

replies_kept : (u : UnitName) (e : Entry) (past : List Entry) → is_of u e ≡ false → replies_of u (e ∷ past) ≡ replies_of u past
replies_kept u (Done a c r f) past h = ap (λ (b : Bool). cond b (r ∷ replies_of u past) (replies_of u past)) h
replies_kept u (Emitted c) past h = refl

-- who is told of by a machine has its name
pub local_named : (core : State) (u : UnitName) (l : LocalState) → local_of core u ≡ Some l → (l.unit ≡ u) × (own rows (firsts core.0) core.1 u ≡ Some l.own)
local_named core u l h = by (own rows (firsts core.0) core.1 u) refl h
  where
    by : (o : Option OwnState) → own rows (firsts core.0) core.1 u ≡ o
        → option_map (λ (st : OwnState). let x : LocalState = record { unit = u; own = st } in x) o ≡ Some l →
        (l.unit ≡ u) × (own rows (firsts core.0) core.1 u ≡ Some l.own)
    by None e k = absurd (let z : ⊥ = cc in z)
    by (Some st) e k =
        let is : (let x : LocalState = record { unit = u; own = st } in x) ≡ l = (let j = k in cc) in
        (sym (ap (λ (x : LocalState). x.unit) is), e ∙ ap (λ (x : LocalState). Some x.own) is)

module _ {B : Type 0} (brain : Brain B) where
  mind_kept : (s : List OwnState) (bs : List B) (e : Entry) (past : List Entry) (u : UnitName) (st : OwnState) → is_of u e ≡ false
      → own rows s past u ≡ Some st →
      mind_of brain s bs (e ∷ past) u ≡ mind_of brain s bs past u
  mind_kept s bs e past u st apart h =
      ap (λ (x : Option B). option_map (mind_from brain (e ∷ past) u) x) (began_kept s brain bs e past u st h)
      ∙ ap (λ (rs : List Reply). option_map (λ (x : B). let m : B × Last = (state_after brain x rs, last_of rs) in m) (began_with brain rows s bs past u))
      (replies_kept u e past apart)

  all_kept : (s : List OwnState) (bs : List B) (more past : List Entry) (u : UnitName) (st : OwnState) → has_entry u more ≡ false
      → own rows s past u ≡ Some st →
      (own rows s (more ++ past) u ≡ Some st) × (mind_of brain s bs (more ++ past) u ≡ mind_of brain s bs past u)
  all_kept s bs [] past u st apart h = (h, refl)
  all_kept s bs (e ∷ more) past u st apart h =
      let parts = neither (is_of u e) (has_entry u more) apart in
      let below = all_kept s bs more past u st parts.1 h in
      (own_kept s e (more ++ past) u st parts.0 below.0, mind_kept s bs e (more ++ past) u st parts.0 below.0 ∙ below.1)

  module _ (o : Origin B) (t : TurnState B) where
    -- a turn that begins in a journal is current there
    pub begun_current : (seen : List Entry) (u : UnitName) → IsBegun brain o.brains (core_at o seen) u t → IsCurrent brain t (crew_at o seen)
    begun_current seen u b =
        let named : t.unit.unit ≡ u = (local_named (core_at o seen) u t.unit b.unit).0 in record {
          unit = subst (λ (v : UnitName). local_of (core_at o seen) v ≡ Some t.unit) (sym named) b.unit;
          mind = subst (λ (v : UnitName). mind_in brain o.brains (core_at o seen) v ≡ Some (t.state, t.last)) (sym named) b.mind;
        }

    -- and where the entries behind it are those of others
    pub current_kept : (seen found : List Entry) (p : IsPrefix seen found) → IsCurrent brain t (crew_at o seen) → has_entry t.unit.unit p.0 ≡ false
        → IsCurrent brain t (crew_at o found)
    current_kept seen found p now apart =
        let u = t.unit.unit in
        let s = firsts o.start in
        let longer : reverse found ≡ reverse p.0 ++ reverse seen = ap (λ (es : List Entry). reverse es) (sym p.1) ∙ reverse-append seen p.0 in
        let here : own rows s (reverse seen) u ≡ Some t.unit.own = (local_named (core_at o seen) u t.unit now.unit).1 in
        let kept = all_kept s o.brains (reverse p.0) (reverse seen) u t.unit.own (entry_reverse u p.0 ∙ apart) here in record {
          unit = ap (λ (es : List Entry). option_map (λ (st : OwnState). let x : LocalState = record { unit = u; own = st } in x) (own rows s es u)) longer
              ∙ ap (λ (x : Option OwnState). option_map (λ (st : OwnState). let l : LocalState = record { unit = u; own = st } in l) x) kept.0;
          mind = ap (λ (es : List Entry). mind_of brain s o.brains es u) longer ∙ kept.1 ∙ now.mind;
        }
