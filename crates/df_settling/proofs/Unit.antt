-- What stands of a unit of the floor at each stage, and what it may still do without being handed more.
use Rattle.df_settling.proofs.Names.{◌≡◌, ◌⊎◌, inl, inr, ℕ, zero, suc, ◌+◌, ◌-◌, ◌*◌, ◌≤◌, ◌<◌, List, [], ◌∷◌, ◌++◌, Bool, true, false, refl, sym, ◌∙◌, ap, subst, cond, Option, Some, None, length, map, drop, take, arith, add-one, ltb-true, ltb-false, mul-le-mul_right, nat_lt, option_to_list, slice_get, slice_set, Clause, Label, Draft, Part, left, new_part, raised, relabel, draft_of, handle_at, is_full, least_free, opened, OwnState, after, effect, half_changed, reply, subscribes, Call, ChangeOutLabel, Subscribe, SubscribeManaged, Given, Effect, Handle, EventName, UnitName, Reply, Mind, adding, did, follow_of, handed, reading, told, acted_heard, acted_kind, reads_of, present, parts_of, passed_heard, passed_kind, Heard, Kind, Stage}
use Rattle.std.specs.Prelude.{codes}
use Rattle.df_floor_units.specs.Floor.{opened as opened_stage}
use Rattle.df_floor_units.specs.declared.stage.Stage.TheVariants as stage
use Rattle.df_settling.proofs.Roles.{Good, Leads, Regulator, Role, leads_to, may_tell, opening_by, opening_is, out_label, read_count, resting, role_of, size_of, tells}
use Rattle.df_settling.proofs.Totals.{total}

-- the output label after calls of an opening
abbrev pub outed : Label → List Call → Label
outed l [] = l
outed l (ChangeOutLabel half act x ∷ cs) = outed (half_changed half act x l) cs
outed l (_ ∷ cs) = outed l cs

-- the subscriptions that the calls make, numbered from n
abbrev pub subs_from : ℕ → List Call → List (ℕ × List Clause)
subs_from n [] = []
subs_from n (Subscribe f ∷ cs) = (n, f) ∷ subs_from (n + 1) cs
subs_from n (SubscribeManaged f ∷ cs) = subs_from (n + 1) cs
subs_from n (_ ∷ cs) = subs_from n cs

abbrev pub subs_of : Role → List (ℕ × List Clause)
subs_of role = subs_from 0 (opening_by role)

-- what the regulator asks for
abbrev pub watched_filter : List Clause
watched_filter = present (codes "trade") ∷ present (codes "who") ∷ []

-- calls that open: label changes and subscriptions; the regulator alone manages one, of number 0
abbrev pub Openers : Role → ℕ → List Call → Type 0
Openers role n [] = Unit {0}
Openers role n (Subscribe f ∷ cs) = Openers role (n + 1) cs
Openers role n (SubscribeManaged f ∷ cs) = (role ≡ Regulator) × (n ≡ 0) × (f ≡ watched_filter) × (cs ≡ []) × Openers role (n + 1) cs
Openers role n (ChangeOutLabel half act x ∷ cs) = Openers role n cs
Openers role n (_ ∷ cs) = ⊥

-- parts of a draft, as they are added and as they are published

abbrev pub drafted_part : Label → Draft → Part
drafted_part out d = new_part (raised out d.label) d.name d.value

abbrev pub published_part : Label → Draft → Part
published_part out d = relabel out (drafted_part out d)

abbrev pub published_parts : Role → List Draft → List Part
published_parts role ds = map (published_part (out_label role)) ds

abbrev pub event_of : UnitName → ℕ → EventName
event_of u n = record { unit = u; number = n }

abbrev pub the_draft : UnitName → ℕ → Label → List Draft → Handle
the_draft u n out done = draft_of (event_of u n) (map (drafted_part out) done)

-- how the handles stand

abbrev pub IsClosed : OwnState → Type 0
IsClosed st = (st.handles ≡ []) ⊎ (st.handles ≡ None ∷ [])

abbrev pub IsOpen : ℕ → OwnState → Handle → Type 0
IsOpen h st d = (h ≡ 0) × (st.handles ≡ Some d ∷ [])

abbrev pub HasOpen : ℕ → OwnState → Type 0
HasOpen h st = (d : Handle) × IsOpen h st d

abbrev pub IsDrafting : ℕ → UnitName → OwnState → List Draft → Type 0
IsDrafting h u st done = (n : ℕ) × (st.events ≡ n + 1) × IsOpen h st (the_draft u n st.output done)

abbrev pub IsOut : Role → OwnState → Type 0
IsOut role st = st.output ≡ out_label role

-- what is still to be done of an opening
pub record IsOpening (role : Role) (st : OwnState) (subs : List (ℕ × List Clause)) (cs : List Call) : Type 0 where
  pub closed : IsClosed st
  pub out : outed st.output cs ≡ out_label role
  pub made : subs ++ subs_from st.subs cs ≡ subs_of role
  pub openers : Openers role st.subs cs

abbrev pub At : Role → Kind → Heard → Stage → UnitName → OwnState → List (ℕ × List Clause) → Type 0
At role k x stage.Fresh u st subs = ⊥
At role k x (stage.Opens place) u st subs = (nat_lt place (length (opening_by role)) ≡ true) × IsOpening role st subs (drop place (opening_by role))
At role k x stage.Rests u st subs = IsClosed st × IsOut role st
At role k x (stage.Reads h sub place) u st subs = (nat_lt place (length (reads_of k sub)) ≡ true) × HasOpen h st × IsOut role st
At role k x (stage.Drops h) u st subs = HasOpen h st × IsOut role st
At role k x stage.Creates u st subs = (nat_lt 0 (length (parts_of k x)) ≡ true) × IsClosed st × IsOut role st
At role k x (stage.Adds h place) u st subs = (nat_lt place (length (parts_of k x)) ≡ true) × IsDrafting h u st (take place (parts_of k x)) × IsOut role st
At role k x (stage.Publishes h) u st subs = (nat_lt 0 (length (parts_of k x)) ≡ true) × IsDrafting h u st (parts_of k x) × IsOut role st
At role k x stage.Stopped u st subs = IsClosed st
At role k x (stage.StoppedDrops h) u st subs = HasOpen h st

-- the unit made these subscriptions of those that its opening makes
abbrev pub Later : Role → List (ℕ × List Clause) → Type 0
Later role subs = (later : List (ℕ × List Clause)) × (subs ++ later ≡ subs_of role)

-- what a unit costs, where an event that it publishes is charged w more

abbrev pub event_cost : (Role → ℕ) → Role → ℕ
event_cost w role = 2 + size_of role + w role

abbrev pub price : (Role → ℕ) → Role → ℕ → ℕ
price w role sub = 2 + read_count role + leads_to role sub * event_cost w role

abbrev pub owed : (Role → ℕ) → Role → Kind → Heard → Stage → ℕ
owed w role k x stage.Fresh = 0
owed w role k x (stage.Opens place) = (length (opening_by role) - place) + may_tell k x * event_cost w role
owed w role k x stage.Rests = may_tell k x * event_cost w role
owed w role k x (stage.Reads h sub place) = 1 + (read_count role - place) + (leads_to role sub + resting k) * event_cost w role
owed w role k x (stage.Drops h) = 1 + may_tell (acted_kind k x) (acted_heard k x) * event_cost w role
owed w role k x stage.Creates = may_tell k x * event_cost w role
owed w role k x (stage.Adds h place) = 1 + (size_of role - place) + w role + may_tell (passed_kind k) (passed_heard x) * event_cost w role
owed w role k x (stage.Publishes h) = 1 + w role + may_tell (passed_kind k) (passed_heard x) * event_cost w role
owed w role k x stage.Stopped = 0
owed w role k x (stage.StoppedDrops h) = 1

-- whether a draft is open
abbrev pub drafts : Stage → ℕ
drafts (stage.Adds h place) = 1
drafts (stage.Publishes h) = 1
drafts _ = 0

-- what deliveries may lead to
abbrev pub priced : (Role → ℕ) → Role → List Given → ℕ
priced w role ds = total (λ d. price w role d.sub) ds

abbrev pub ahead : (Role → ℕ) → Role → OwnState → List Given → ℕ
ahead w role st ds = priced w role (left st ds)

abbrev pub paid : ℕ → Effect → ℕ
paid w Effect.Nothing = 0
paid w (Effect.Commit c) = w
paid w (Effect.Given d) = 0

abbrev pub NotNumber : Effect → ℕ → Type 0
NotNumber Effect.Nothing n = Unit {0}
NotNumber (Effect.Commit c) n = c.event.number ≡ n → ⊥
NotNumber (Effect.Given d) n = Unit {0}

-- a commit is a new event of the unit
abbrev pub IsFine : Role → Stage → UnitName → OwnState → Effect → Type 0
IsFine role g u st Effect.Nothing = Unit {0}
IsFine role g u st (Effect.Commit c) = (ds : List Draft) × (n : ℕ) × Good role ds × (st.events ≤ n + drafts g)
    × (c ≡ record { event = event_of u n; edit = ([], published_parts role ds) })
IsFine role g u st (Effect.Given d) = Unit {0}

-- what an entry with this effect did to its unit, which was at a stage and thinks m behind it
pub record Moves (w : Role → ℕ) (role : Role) (j : ℕ) (k : Kind) (x : Heard) (g : Stage) (m : Mind) (u : UnitName) (st st' : OwnState)
    (subs' : List (ℕ × List Clause)) (ds : List Given) (f : Effect) : Type 0 where
  pub plays : role_of j m.kind ≡ role
  pub at : At role m.kind m.heard m.stage u st' subs'
  pub input : st'.input ≡ st.input
  pub later : Later role subs'
  pub pays : 1 + paid (w role) f + owed w role m.kind m.heard m.stage + ahead w role st' ds ≤ owed w role k x g + ahead w role st ds
  pub free : (n : ℕ) → st'.events ≤ n + drafts m.stage → (st.events ≤ n + drafts g) × NotNumber f n
  pub fine : IsFine role g u st f

abbrev pub mind_of : Kind → Heard → Stage → Mind
mind_of k x g = record { kind = k; heard = x; stage = g }

-- what an entry of a call does to its unit
pub record Outcome (w : Role → ℕ) (role : Role) (j : ℕ) (k : Kind) (x : Heard) (u : UnitName) (st : OwnState)
    (subs : List (ℕ × List Clause)) (ds : List Given) (g : Stage) (c : Call) : Type 0 where
  pub answer : Reply
  pub does : Effect
  pub subscribed : List (ℕ × List Clause)
  pub mind : Mind
  pub replies : reply u st (left st ds) c ≡ answer
  pub effects : effect u st (left st ds) c ≡ does
  pub subscribing : subs ++ option_to_list (subscribes st c answer) ≡ subscribed
  pub moved : did (mind_of k x g) (follow_of (mind_of k x g) g answer) ≡ mind
  pub moves : Moves w role j k x g mind u st (after u st c answer does) subscribed ds does

-- handles

pub not_full : (st : OwnState) → IsClosed st → is_full st.handles ≡ false
not_full st (inl h) = ap is_full h
not_full st (inr h) = ap is_full h

pub first_free : (st : OwnState) → IsClosed st → least_free st.handles ≡ 0
first_free st (inl h) = ap least_free h
first_free st (inr h) = ap least_free h

pub now_open : (st : OwnState) (d : Handle) → IsClosed st → opened d st.handles ≡ Some d ∷ []
now_open st d (inl h) = ap (opened d) h
now_open st d (inr h) = ap (opened d) h

pub is_at : (h : ℕ) (st : OwnState) (d : Handle) → IsOpen h st d → handle_at st.handles h ≡ Some d
is_at h st d o = ap (λ (n : ℕ). handle_at st.handles n) o.0 ∙ ap (λ (hs : List (Option Handle)). handle_at hs 0) o.1

pub now_set : (h : ℕ) (st : OwnState) (d : Handle) (x : Option Handle) → IsOpen h st d → slice_set st.handles h x ≡ x ∷ []
now_set h st d x o = ap (λ (n : ℕ). slice_set st.handles n x) o.0 ∙ ap (λ (hs : List (Option Handle)). slice_set hs 0 x) o.1

-- lists

drop_all : {A : Type 0} (xs : List A) (p : ℕ) → length xs ≤ p → drop p xs ≡ []
drop_all [] zero h = refl
drop_all [] (suc p) h = refl
drop_all (a ∷ xs) zero h = absurd (omega arith)
drop_all (a ∷ xs) (suc p) h = drop_all xs p (omega arith)

-- the element at a place, and the lists on both sides of it
abbrev pub HasMore : {A : Type 0} → List A → ℕ → Type 0
HasMore {A} xs p = (a : A) × (slice_get xs p ≡ Some a) × (drop p xs ≡ a ∷ drop (p + 1) xs) × (take p xs ++ a ∷ [] ≡ take (p + 1) xs)

pub drop_more : {A : Type 0} (xs : List A) (p : ℕ) → nat_lt p (length xs) ≡ true → HasMore xs p
drop_more xs p h = go xs p (ltb-true p (length xs) h)
  where
    go : {A : Type 0} (xs : List A) (p : ℕ) → p < length xs → HasMore xs p
    go [] p h = absurd (omega arith)
    go (a ∷ xs) zero h = (a, refl, refl, refl)
    go (a ∷ xs) (suc p) h =
        let i = go xs p (omega arith) in
        let e : p + 1 ≡ suc p = add-one p in
        let f : suc p + 1 ≡ suc (p + 1) = omega arith in (
          i.0,
          i.1,
          i.2 ∙ ap (λ (n : ℕ). i.0 ∷ drop n (a ∷ xs)) (sym f),
          ap (λ (ys : List _). a ∷ ys) i.3 ∙ ap (λ (n : ℕ). take n (a ∷ xs)) (sym f),
        )

pub take_whole : {A : Type 0} (xs : List A) (p : ℕ) → length xs ≤ p → take p xs ≡ xs
take_whole [] zero h = refl
take_whole [] (suc p) h = refl
take_whole (a ∷ xs) zero h = absurd (omega arith)
take_whole (a ∷ xs) (suc p) h = ap (λ (ys : List _). a ∷ ys) (take_whole xs p (omega arith))

pub drop_next : {A : Type 0} (xs : List A) (p : ℕ) (a : A) (rest : List A) → drop p xs ≡ a ∷ rest → drop (p + 1) xs ≡ rest
drop_next [] zero a rest e = absurd (let z : ⊥ = cc in z)
drop_next [] (suc p) a rest e = absurd (let z : ⊥ = cc in z)
drop_next (b ∷ xs) zero a rest e = let z : xs ≡ rest = cc in z
drop_next (b ∷ xs) (suc p) a rest e = let f : suc p + 1 ≡ suc (p + 1) = omega arith in ap (λ (n : ℕ). drop n (b ∷ xs)) f ∙ drop_next xs p a rest e

-- stages that follow

-- the unit may stand at the stage, at this cost and with as many open drafts
pub record Stands (w : Role → ℕ) (role : Role) (k : Kind) (x : Heard) (u : UnitName) (g : Stage) (st : OwnState)
    (subs : List (ℕ × List Clause)) (most dr : ℕ) : Type 0 where
  pub at : At role k x g u st subs
  pub cost : owed w role k x g ≤ most
  pub draft : drafts g ≡ dr

module _ (w : Role → ℕ) (role : Role) (k : Kind) (x : Heard) (u : UnitName) where
  -- what all events that may be told cost
  abbrev pub to_come : ℕ
  to_come = may_tell k x * event_cost w role

  -- what those behind the next one cost
  abbrev pub behind_it : ℕ
  behind_it = may_tell (passed_kind k) (passed_heard x) * event_cost w role

  -- what an event that came for a subscription may lead to costs
  abbrev pub led_to : ℕ → ℕ
  led_to sub = (leads_to role sub + resting k) * event_cost w role

  pub stands_told : (st : OwnState) (subs : List (ℕ × List Clause)) → IsClosed st → IsOut role st →
      Stands w role k x u (told (parts_of k x)) st subs to_come 0
  stands_told st subs c o = go (nat_lt 0 (length (parts_of k x))) refl
    where
      go : (b : Bool) → nat_lt 0 (length (parts_of k x)) ≡ b →
          Stands w role k x u (cond b stage.Creates stage.Rests) st subs to_come 0
      go true e = record { at = (e, c, o); cost = omega arith; draft = refl }
      go false e = record { at = (c, o); cost = omega arith; draft = refl }

  pub stands_stopped : (st : OwnState) (subs : List (ℕ × List Clause)) → IsClosed st → Stands w role k x u stage.Stopped st subs 0 0
  stands_stopped st subs c = record { at = c; cost = omega arith; draft = refl }

module _ (w : Role → ℕ) (role : Role) (j : ℕ) (k : Kind) (x : Heard) (u : UnitName) (plays : role_of j k ≡ role) where
  -- how many calls of the opening there are from a place on
  abbrev pub calls_from : ℕ → ℕ
  calls_from place = length (opening_by role) - place

  pub stands_opened : (place : ℕ) (st : OwnState) (subs : List (ℕ × List Clause)) → IsOpening role st subs (drop place (opening_by role)) →
      Stands w role k x u (opened_stage k (told (parts_of k x)) place) st subs (calls_from place + to_come w role k x u) 0
  stands_opened place st subs h =
      subst (λ (cs : List Call). Stands w role k x u (cond (nat_lt place (length cs)) (stage.Opens place) (told (parts_of k x))) st subs most 0)
      (sym (opening_is j k ∙ ap opening_by plays)) (go (nat_lt place (length (opening_by role))) refl)
    where
      most : ℕ
      most = calls_from place + to_come w role k x u

      go : (b : Bool) → nat_lt place (length (opening_by role)) ≡ b →
          Stands w role k x u (cond b (stage.Opens place) (told (parts_of k x))) st subs (calls_from place + to_come w role k x u) 0
      go true e = record { at = (e, h); cost = omega arith; draft = refl }
      go false e =
          let none = drop_all (opening_by role) place (ltb-false place (length (opening_by role)) e) in
          let out : st.output ≡ out_label role = ap (outed st.output) (sym none) ∙ h.out in
          let s = stands_told w role k x u st subs h.closed out in
          record { at = s.at; cost = let c = s.cost in omega arith; draft = s.draft }

  -- how many reads there are from a place on
  abbrev pub reads_from : ℕ → ℕ
  reads_from place = read_count role - place

  pub stands_reading : (h sub place : ℕ) (st : OwnState) (subs : List (ℕ × List Clause)) → HasOpen h st → IsOut role st → Leads j k sub x →
      Stands w role k x u (reading k h sub place) st subs (1 + reads_from place + led_to w role k x u sub) 0
  stands_reading h sub place st subs op out leads = go (nat_lt place (length (reads_of k sub))) refl
    where
      go : (b : Bool) → nat_lt place (length (reads_of k sub)) ≡ b →
          Stands w role k x u (cond b (stage.Reads h sub place) (stage.Drops h)) st subs (1 + reads_from place + led_to w role k x u sub) 0
      go true e = record { at = (e, op, out); cost = omega arith; draft = refl }
      go false e =
          let most : may_tell (acted_kind k x) (acted_heard k x) ≤ leads_to role sub + resting k
          = subst (λ (r : Role). may_tell (acted_kind k x) (acted_heard k x) ≤ leads_to r sub + resting k) plays leads in
          let m = mul-le-mul_right (event_cost w role) most in
          record { at = (op, out); cost = omega arith; draft = refl }

  pub stands_handed : (h sub : ℕ) (st : OwnState) (subs : List (ℕ × List Clause)) → HasOpen h st → IsOut role st →
      Stands w role k x u (handed k h sub) st subs (1 + read_count role + led_to w role k x u sub) 0
  stands_handed h sub st subs op out = go (nat_lt 0 (length (reads_of k sub))) refl
    where
      go : (b : Bool) → nat_lt 0 (length (reads_of k sub)) ≡ b →
          Stands w role k x u (cond b (stage.Reads h sub 0) (stage.StoppedDrops h)) st subs (1 + read_count role + led_to w role k x u sub) 0
      go true e = record { at = (e, op, out); cost = omega arith; draft = refl }
      go false e = record { at = op; cost = omega arith; draft = refl }

  -- the parts of an event are of the part that the unit plays
  pub good_parts : nat_lt 0 (length (parts_of k x)) ≡ true → Good role (parts_of k x)
  good_parts h = subst (λ (r : Role). Good r (parts_of k x)) plays (tells j k x h).good

  -- how much is left to do of an event of which so many parts are added
  abbrev pub event_from : ℕ → ℕ
  event_from place = 1 + (size_of role - place) + w role + behind_it w role k x u

  pub stands_adding : (h place : ℕ) (st : OwnState) (subs : List (ℕ × List Clause)) → nat_lt 0 (length (parts_of k x)) ≡ true →
      IsDrafting h u st (take place (parts_of k x)) → IsOut role st → Stands w role k x u (adding (parts_of k x) h place) st subs (event_from place) 1
  stands_adding h place st subs some d out = go (nat_lt place (length (parts_of k x))) refl
    where
      go : (b : Bool) → nat_lt place (length (parts_of k x)) ≡ b →
          Stands w role k x u (cond b (stage.Adds h place) (stage.Publishes h)) st subs (event_from place) 1
      go true e = record { at = (e, d, out); cost = omega arith; draft = refl }
      go false e =
          let whole = take_whole (parts_of k x) place (ltb-false place (length (parts_of k x)) e) in
          record { at = (some, subst (IsDrafting h u st) whole d, out); cost = omega arith; draft = refl }
