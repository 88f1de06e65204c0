-- Where local calls that a brain wants lead, in a journal and apart from it.
use Rattle.std.proofs.Common.{◌≡◌, inl, inr, ℕ, ◌+◌, zero, suc, List, [], ◌∷◌, ◌++◌, Bool, true, false, not, refl, sym, ◌∙◌, ap, subst, cond, Option, Some, length, drop, reverse, arith}
use Rattle.std.proofs.lemmas.List.{append_assoc, reverse-append}
use Rattle.df_rules.specs.Deliveries.{deliveries}
use Rattle.df_rules.specs.Follows.{Brain, Calls, Last, Replied, Want, began_with}
use Rattle.df_rules.specs.Legal.{answer_of, left}
use Rattle.df_rules.specs.Own.{fixed}
use Rattle.df_rules.specs.Start.{rows}
use Rattle.df_start.specs.declared.start.RootStart.{RootStart}
use Rattle.df_unit.specs.Name.{same}
use Rattle.df_unit.specs.OwnState.{Fixed, OwnState}
use Rattle.df_unit.specs.Rows.{after, changed, effect, is_accepted, is_nil, reply}
use Rattle.df_unit.specs.declared.call.Call.{Call}
use Rattle.df_unit.specs.declared.call.Call.TheVariants.{AddPart, AttachPrivilege, ChangeInOut, ChangeOutLabel, CloneEvent, CreateEvent, CreateTag, DelPart, DropEvent, Get, Instantiate, Publish, ReadPart, Release, Subscribe, SubscribeManaged}
use Rattle.df_unit.specs.declared.commit.Given.{Given}
use Rattle.df_unit.specs.declared.entry.Effect.{Effect}
use Rattle.df_unit.specs.declared.entry.Entry.{Entry}
use Rattle.df_unit.specs.declared.entry.Entry.TheVariants.{Done, Emitted}
use Rattle.df_unit.specs.declared.name.UnitName.{UnitName}
use Rattle.df_unit.specs.declared.reply.Reply.{Reply}
use Rattle.df_local.specs.Locally.{row_answer}
use Rattle.df_local.specs.code.LocalState.{LocalState}
use Rattle.df_local_run.specs.Runs.{IsLocalEntry, is_local, moved_by}
use Rattle.df_machine.specs.Journal.{State, firsts, has_delivery_in, is_due, local_of}
use Rattle.df_booking.specs.CrewState.{mind_in, want_in}
use Rattle.df_turn.specs.Locally.{RunsTo}
use Rattle.df_booking.specs.Manned.{IsFollowed, IsMind, seed_name}
use Rattle.df_booking.specs.Turns.{asked_by, is_local_want, turn_of}
use Rattle.df_booking.proofs.Acting.{Acts, acted_appended, acted_followed, acted_mind, acted_others, acted_unit, acted_want, own_of}
use Rattle.df_booking.proofs.Brained.{made_is}
use Rattle.df_booking.proofs.Entries.{deliveries_kept, fixed_kept, fixed_or, own_acted, seed_kept}

-- the rows of local calls

local_rows : (u : UnitName) (st : OwnState) (ds : List Given) (c : Call) → is_local c ≡ true → (reply u st ds c ≡ reply u st [] c) × (effect u st ds c ≡ Effect.Nothing)
local_rows u st ds CreateEvent h = (refl, refl)
local_rows u st ds (AddPart i label name value) h = (refl, refl)
local_rows u st ds (DelPart i label name) h = (refl, refl)
local_rows u st ds (ReadPart i name) h = (refl, refl)
local_rows u st ds (CloneEvent i label) h = (refl, refl)
local_rows u st ds (AttachPrivilege i label name p) h = (refl, refl)
local_rows u st ds (ChangeOutLabel half act t) h = (refl, refl)
local_rows u st ds CreateTag h = (refl, refl)
local_rows u st ds (DropEvent i) h = (refl, refl)
local_rows u st ds (Subscribe filter) h = absurd (let z : ⊥ = cc in z)
local_rows u st ds (SubscribeManaged filter) h = absurd (let z : ⊥ = cc in z)
local_rows u st ds Get h = absurd (let z : ⊥ = cc in z)
local_rows u st ds (Publish i) h = absurd (let z : ⊥ = cc in z)
local_rows u st ds (Release i) h = absurd (let z : ⊥ = cc in z)
local_rows u st ds (ChangeInOut half act t) h = absurd (let z : ⊥ = cc in z)
local_rows u st ds (Instantiate t privileges) h = absurd (let z : ⊥ = cc in z)

changed_given : (u : UnitName) (st : OwnState) (c : Call) (f : Effect) → is_local c ≡ true → (changed u st c f).given ≡ st.given
changed_given u st CreateEvent f h = refl
changed_given u st (AddPart i label name value) f h = refl
changed_given u st (DelPart i label name) f h = refl
changed_given u st (ReadPart i name) f h = refl
changed_given u st (CloneEvent i label) f h = refl
changed_given u st (AttachPrivilege i label name p) f h = refl
changed_given u st (ChangeOutLabel half act t) f h = refl
changed_given u st CreateTag f h = refl
changed_given u st (DropEvent i) f h = refl
changed_given u st (Subscribe filter) f h = absurd (let z : ⊥ = cc in z)
changed_given u st (SubscribeManaged filter) f h = absurd (let z : ⊥ = cc in z)
changed_given u st Get f h = absurd (let z : ⊥ = cc in z)
changed_given u st (Publish i) f h = absurd (let z : ⊥ = cc in z)
changed_given u st (Release i) f h = absurd (let z : ⊥ = cc in z)
changed_given u st (ChangeInOut half act t) f h = absurd (let z : ⊥ = cc in z)
changed_given u st (Instantiate t privileges) f h = absurd (let z : ⊥ = cc in z)

after_given : (u : UnitName) (st : OwnState) (c : Call) (r : Reply) (f : Effect) → is_local c ≡ true → (after u st c r f).given ≡ st.given
after_given u st c r f h = go (is_accepted r)
  where
    go : (b : Bool) → (cond b (changed u st c f) st).given ≡ st.given
    go true = changed_given u st c f h
    go false = refl

-- where the local calls of a unit lead
pub record Reached {B : Type 0} (brain : Brain B) (bs : List B) (start : List RootStart) (u : UnitName) (past later : List Entry) (l : LocalState) (m : B × Last) : Type 0 where
  pub followed : IsFollowed brain bs (start, later)
  pub unit : local_of (start, later) u ≡ Some l
  pub mind : mind_in brain bs (start, later) u ≡ Some m
  pub due : has_delivery_in (start, later) u ≡ has_delivery_in (start, past) u
  pub others : (v : UnitName) (o : Option (B × Last)) → same u v ≡ false → IsMind brain bs (start, past) v o → IsMind brain bs (start, later) v o
  pub records : (o : List ℕ) (n : ℕ) (fx : Fixed) → fixed rows (firsts start) later o n ≡ Some fx → fixed rows (firsts start) past o n ≡ Some fx
  pub seeds : (o : List ℕ) (n : ℕ) (fx : Fixed) → fixed rows (firsts start) past o n ≡ Some fx →
      began_with brain rows (firsts start) bs later (seed_name o n) ≡ began_with brain rows (firsts start) bs past (seed_name o n)

module _ {B : Type 0} (brain : Brain B) (bs : List B) (start : List RootStart) (u : UnitName) where
  -- a local entry that is wanted is the unit's
  pub local_acts : (past : List Entry) (l : LocalState) (m : B × Last) (a : UnitName) (c : Call) (r : Reply) (f : Effect) → local_of (start, past) u ≡ Some l → mind_in brain bs (start, past) u ≡ Some m →
      (brain.next m.0 m.1).0 ≡ Calls c → IsLocalEntry l (Done a c r f) → Acts brain bs start past u l m c r f × (a ≡ u) × (f ≡ Effect.Nothing)
  local_acts past l m a c r f unit mind wants entry =
      let o = own_of (start, past) u l unit in
      let ds = deliveries rows (firsts start) past u in
      let row = local_rows u l.own (left l.own ds) c entry.1 in
      let nothing = (local_rows u l.own [] c entry.1).1 in
      let mine : row_answer (record { unit = u; own = l.own }) [] c ≡ (r, f) = subst (λ (v : UnitName). row_answer (record { unit = v; own = l.own }) [] c ≡ (r, f)) o.1 entry.2 in (
        record {
          unit = unit;
          mind = mind;
          right = ap (λ (x : Option OwnState). answer_of rows u x ds c) o.0 ∙ ap (λ (q : Reply). let p : Reply × Effect = (q, effect u l.own (left l.own ds) c) in p) row.0
              ∙ ap (λ (g : Effect). let p : Reply × Effect = (reply u l.own [] c, g) in p) (row.1 ∙ sym nothing) ∙ mine;
          wants = inl wants;
        },
        entry.0 ∙ o.1,
        sym (ap (λ (p : Reply × Effect). p.1) mine) ∙ nothing,
      )

  module _ (past : List Entry) (l : LocalState) (m : B × Last) (c : Call) (r : Reply) (f : Effect) (acts : Acts brain bs start past u l m c r f) (local : is_local c ≡ true) (quiet : f ≡ Effect.Nothing) where
    local_due : has_delivery_in (start, Done u c r f ∷ past) u ≡ has_delivery_in (start, past) u
    local_due =
        let o = (own_of (start, past) u l acts.unit).0 in
        let ds = deliveries rows (firsts start) past u in
        ap (λ (x : Option OwnState). is_due x (deliveries rows (firsts start) (Done u c r f ∷ past) u)) (own_acted (firsts start) past u c r f l.own o)
        ∙ ap (λ (es : List Given). not (is_nil (drop (after u l.own c r f).given es))) (deliveries_kept (firsts start) past u c r f (ap Rattle.df_rules.specs.Commits.commit_in quiet) u)
        ∙ ap (λ (k : ℕ). not (is_nil (drop k ds))) (after_given u l.own c r f local)
        ∙ sym (ap (λ (x : Option OwnState). is_due x ds) o)

    local_records : (o : List ℕ) (n : ℕ) (fx : Fixed) → fixed rows (firsts start) (Done u c r f ∷ past) o n ≡ Some fx → fixed rows (firsts start) past o n ≡ Some fx
    local_records o n fx h = elim (fixed_or (firsts start) past u c r f o n fx h) [
      | inl there ↦ there
      | inr new ↦ (let k = made_is new.st n c r fx new.made in let z : ⊥ = (let y = ap is_local k.1 in cc) in absurd z)
    ]

    pub local_reached : IsFollowed brain bs (start, past) → Reached brain bs start u past (Done u c r f ∷ past) (moved_by l (Done u c r f)) ((brain.next m.0 m.1).1, Replied r)
    local_reached h = record {
      followed = acted_followed brain bs start past u l m c r f acts h;
      unit = acted_unit brain bs start past u l m c r f acts;
      mind = acted_mind brain bs start past u l m c r f acts;
      due = local_due;
      others = acted_others brain bs start past u l m c r f acts;
      records = local_records;
      seeds = λ o n fx k. seed_kept (firsts start) brain bs (Done u c r f) past o n [] fx k;
    }

  reached_here : (past : List Entry) (l present : LocalState) (m now : B × Last) → l ≡ present → m ≡ now → local_of (start, past) u ≡ Some l → mind_in brain bs (start, past) u ≡ Some m →
      IsFollowed brain bs (start, past) → Reached brain bs start u past past present now
  reached_here past l present m now e g unit mind h = record {
    followed = h;
    unit = unit ∙ ap (λ (x : LocalState). Some x) e;
    mind = mind ∙ ap (λ (x : B × Last). Some x) g;
    due = refl;
    others = λ v o k i. i;
    records = λ o n fx k. k;
    seeds = λ o n fx k. refl;
  }

  reached_on : (past mid later : List Entry) (l present : LocalState) (m now : B × Last) → ((o : List ℕ) (n : ℕ) (fx : Fixed) → fixed rows (firsts start) past o n ≡ Some fx → fixed rows (firsts start) mid o n ≡ Some fx) →
      Reached brain bs start u past mid l m → Reached brain bs start u mid later present now → Reached brain bs start u past later present now
  reached_on past mid later l present m now kept x y = record {
    followed = y.followed;
    unit = y.unit;
    mind = y.mind;
    due = y.due ∙ x.due;
    others = λ v o k i. y.others v o k (x.others v o k i);
    records = λ o n fx k. x.records o n fx (y.records o n fx k);
    seeds = λ o n fx k. y.seeds o n fx (kept o n fx k) ∙ x.seeds o n fx k;
  }

  along : (e : Entry) (es past : List Entry) → reverse (e ∷ es) ++ past ≡ reverse es ++ e ∷ past
  along e es past = ap (λ (x : List Entry). x ++ past) (reverse-append (e ∷ []) es) ∙ append_assoc (reverse es) (e ∷ []) past

  -- the run leads on from the journal
  pub run_reached : (es past : List Entry) (l present : LocalState) (m now : B × Last) → RunsTo brain es l m present now → local_of (start, past) u ≡ Some l → mind_in brain bs (start, past) u ≡ Some m →
      IsFollowed brain bs (start, past) → Reached brain bs start u past (reverse es ++ past) present now
  run_reached [] past l present m now run unit mind h = reached_here past l present m now run.0 run.1 unit mind h
  run_reached (Emitted c ∷ es) past l present m now run unit mind h = absurd run
  run_reached (Done a c r f ∷ es) past l present m now run unit mind h =
      let x = local_acts past l m a c r f unit mind run.0 run.1 in
      let e : Entry = Done u c r f in
      let first = local_reached past l m c r f x.0 run.1.1 x.2 h in
      let rest = run_reached es (e ∷ past) (moved_by l (Done a c r f)) present ((brain.next m.0 m.1).1, Replied r) now run.2 first.unit first.mind first.followed in
      let all = reached_on past (e ∷ past) (reverse es ++ e ∷ past) (moved_by l e) present ((brain.next m.0 m.1).1, Replied r) now (fixed_kept (firsts start) e past) first rest in
      subst (λ (j : List Entry). Reached brain bs start u past j present now) (sym (ap (λ (v : UnitName). reverse (Done v c r f ∷ es) ++ past) x.1 ∙ along e es past)) all

  -- the turn goes on behind the run
  pub run_turn : (es past : List Entry) (l present : LocalState) (m now : B × Last) → RunsTo brain es l m present now → local_of (start, past) u ≡ Some l → mind_in brain bs (start, past) u ≡ Some m →
      IsFollowed brain bs (start, past) → (n k : ℕ) → n ≡ length es + k → turn_of brain bs n u (start, past) ≡ turn_of brain bs k u (start, reverse es ++ past)
  run_turn [] past l present m now run unit mind h n k e = ap (λ (i : ℕ). turn_of brain bs i u (start, past)) (let z : n ≡ k = omega arith in z)
  run_turn (Emitted c ∷ es) past l present m now run unit mind h n k e = absurd run
  run_turn (Done a c r f ∷ es) past l present m now run unit mind h zero k e = absurd (let z : ⊥ = omega arith in z)
  run_turn (Done a c r f ∷ es) past l present m now run unit mind h (suc n) k e =
      let x = local_acts past l m a c r f unit mind run.0 run.1 in
      let one : Entry = Done u c r f in
      let core : State = (start, past) in
      let first = local_reached past l m c r f x.0 run.1.1 x.2 h in
      let fewer : n ≡ length es + k = omega arith in
      let want : want_in brain bs core u ≡ Some (Calls c) = acted_want brain bs start past u l m c r f x.0 ∙ ap (λ (w : Want). Some w) run.0 in
      ap (λ (w : Option Want). cond (is_local_want w) (turn_of brain bs n u (asked_by core u w)) (asked_by core u w)) want
      ∙ ap (λ (b : Bool). cond b (turn_of brain bs n u (asked_by core u (Some (Calls c)))) (asked_by core u (Some (Calls c)))) run.1.1
      ∙ ap (turn_of brain bs n u) (acted_appended brain bs start past u l m c r f x.0)
      ∙ run_turn es (one ∷ past) (moved_by l (Done a c r f)) present ((brain.next m.0 m.1).1, Replied r) now run.2 first.unit first.mind first.followed n k fewer
      ∙ ap (λ (j : List Entry). turn_of brain bs k u (start, j)) (sym (ap (λ (v : UnitName). reverse (Done v c r f ∷ es) ++ past) x.1 ∙ along one es past))
