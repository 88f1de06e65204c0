-- Calls that close a handle: what they make of the row of their unit, and that they make nothing else.
use Rattle.df_tables.proofs.Names.{◌≡◌, ℕ, zero, suc, ◌<◌, ◌==◌, ◌&&◌, Bool, true, false, if◌then◌else◌, List, [], ◌∷◌, ◌++◌, length, map, get_or, slice_get, Option, Some, None, set, refl, ap, sym, subst, ◌∙◌, arith, get_or_default, Label, LocalState, Part, Pair, ManagedSubscription, Commit, EventName, AreCalled, IsNews, birth_of, names_of, news_at, pair_at, pair_of, row_answer, rows, reply, is_accepted, is_nil, commit_in, OwnState, Call, Get, Effect, Given, Reply, IsAnsweredAt, IsClosedAt, modify, shut_row, shut_where, child_by, closed_by, managed_sub_by, moved_row, IsAnswered, LineState, taken, Unit}
use Rattle.std.specs.List.{flat_map}
use Rattle.std.specs.Prelude.{is_none}
use Rattle.df_local.specs.Locally.{Closes, TellsEffect, closed_where, closing, edited}
use Rattle.df_local.specs.declared.close.Close.{Close}
use Rattle.df_local.specs.declared.close.Close.TheVariants as close
use Rattle.df_tables.specs.Calls.{born_instance}
use Rattle.df_tables.specs.Moves.{made_by}
use Rattle.df_tables.specs.declared.calling.Called.{Called}
use Rattle.df_tables.proofs.Alone.{left_at, with_local}
use Rattle.df_tables.proofs.Each.{at_modify, length-modify, set_modify}
use Rattle.df_tables.proofs.Gets.{no_commit}
use Rattle.df_tables.proofs.Seats.{place_of-names}
use Rattle.df_unit.specs.Drafts.{relabelled}
use Rattle.df_unit.specs.Handles.{closed, handle_at}
use Rattle.df_unit.specs.Rows.{published, released}
use Rattle.df_unit.specs.declared.call.Call.TheVariants.{Publish, Release}
use Rattle.df_unit.specs.declared.handle.Handle.{Handle}
use Rattle.df_unit.specs.declared.name.UnitName.TheVariants.{Managed}

-- such a call makes no subscription and no child
pub record MakesNone (c : Call) (r : Reply) : Type 0 where
  pub made : made_by c r ≡ None
  pub unmanaged : managed_sub_by c r ≡ None
  pub childless : child_by c r ≡ None

pub closes_only : (c : Call) (r : Reply) (h : ℕ) → closed_by c r ≡ Some h → MakesNone c r
closes_only (Publish g) r h e = record { made = refl; unmanaged = refl; childless = refl }
closes_only (Release g) r h e = record { made = refl; unmanaged = refl; childless = refl }
closes_only _ r h e = absurd (let z : ⊥ = cc in z)

pub closed_is : (how : Close) (h : ℕ) → closed_by (closing how h) Reply.Ok ≡ Some h
closed_is close.Publish h = refl
closed_is close.Release h = refl

-- a row with this own state, whose line is as the effect leaves it
abbrev row_as : Effect → Unit → OwnState → Unit
row_as f u st = record { local = record { unit = u.local.unit; own = st }; line = taken f u.line }

shut_as : (b : Bool) (g h : ℕ) (f : Effect) (u : Unit) → taken f u.line ≡ u.line → (if b then Some g else None) ≡ Some h →
    shut_row h u ≡ row_as f u (if b then record u.local.own { handles = closed u.local.own.handles g } else u.local.own)
shut_as true g h f u still e = let same : g ≡ h = cc in rw (still, same) refl
shut_as false g h f u still e = absurd (let z : ⊥ = cc in z)

-- where it takes no delivery, its unit's row is moved as the handle is closed
pub shut_is : (c : Call) (r : Reply) (h : ℕ) (f : Effect) → ((l : LineState) → taken f l ≡ l) → closed_by c r ≡ Some h → (u : Unit) →
    shut_row h u ≡ moved_row rows c r f u
shut_is (Publish g) r h f still e u = shut_as (is_accepted r) g h f u (still u.line) e
shut_is (Release g) r h f still e u = shut_as (is_accepted r) g h f u (still u.line) e
shut_is _ r h f still e u = absurd (let z : ⊥ = cc in z)

-- neither takes one
record IsStill (st : OwnState) (b : Bool) (o : Option Handle) (l : LineState) : Type 0 where
  draft : taken (if b then published st o else Effect.Nothing) l ≡ l
  view : taken (if b then released st o else Effect.Nothing) l ≡ l

no_gift : (st : OwnState) (b : Bool) (o : Option Handle) (l : LineState) → IsStill st b o l
no_gift st false o l = record { draft = refl; view = refl }
no_gift st true None l = record { draft = refl; view = refl }
no_gift st true (Some d) l = record { draft = refl; view = by (is_nil d.named && is_nil d.drafted) }
  where
    by : (n : Bool) → taken (if n then Effect.Nothing else Effect.Commit (edited d.event d.named (relabelled st.output d.drafted))) l ≡ l
    by true = refl
    by false = refl

pub takes_none : (l : LocalState) (left : List Given) (c : Call) (r : Reply) (h : ℕ) (f : Effect) → closed_by c r ≡ Some h →
    row_answer l left c ≡ (r, f) → (line : LineState) → taken f line ≡ line
takes_none l left (Publish g) r h f e a line =
    ap (λ (p : Reply × Effect). taken p.1 line) (sym a)
    ∙ (no_gift l.own (is_accepted (reply l.unit l.own left (Publish g))) (handle_at l.own.handles g) line).draft
takes_none l left (Release g) r h f e a line =
    ap (λ (p : Reply × Effect). taken p.1 line) (sym a)
    ∙ (no_gift l.own (is_accepted (reply l.unit l.own left (Release g))) (handle_at l.own.handles g) line).view
takes_none l left _ r h f e a line = absurd (let z : ⊥ = cc in z)

refused : (b : Bool) (g : ℕ) (x : Effect) → (if b then Some g else None) ≡ None → commit_in (if b then x else Effect.Nothing) ≡ None
refused true g x e = absurd (let z : ⊥ = cc in z)
refused false g x e = refl

-- a call that closes no handle has no commit
plain_unless : (u : Unit) (c : Call) (r : Reply) (f : Effect) → closed_by c r ≡ None → IsAnswered c r f u → commit_in f ≡ None
plain_unless u (Publish g) r f e a =
    let x = published u.local.own (handle_at u.local.own.handles g) in
    ap (λ (p : Reply × Effect). commit_in p.1) (sym a)
    ∙ ap (λ (p : Reply × Effect). commit_in (if is_accepted p.0 then x else Effect.Nothing)) a ∙ refused (is_accepted r) g x e
plain_unless u (Release g) r f e a =
    let x = released u.local.own (handle_at u.local.own.handles g) in
    ap (λ (p : Reply × Effect). commit_in p.1) (sym a)
    ∙ ap (λ (p : Reply × Effect). commit_in (if is_accepted p.0 then x else Effect.Nothing)) a ∙ refused (is_accepted r) g x e
plain_unless u Get r f e a = no_commit u.local u.line.left r f a
plain_unless u _ r f e a = ap (λ (p : Reply × Effect). commit_in p.1) (sym a)

pub plain_at : (us : List Unit) (q : ℕ) (c : Call) (r : Reply) (f : Effect) → q < length us → closed_by c r ≡ None → IsAnsweredAt q c r f us →
    commit_in f ≡ None
plain_at [] q c r f i e answered = absurd (omega (arith, i))
plain_at (u ∷ us) q c r f i e answered = plain_unless (get_or (u ∷ us) q u) c r f e (answered u i)

pub modify-append : {X : Type 0} (k : ℕ) (f : X → X) (xs ys : List X) → k < length xs → modify k f (xs ++ ys) ≡ modify k f xs ++ ys
modify-append k f [] ys h = absurd (omega (arith, h))
modify-append zero f (x ∷ xs) ys h = refl
modify-append (suc k) f (x ∷ xs) ys h = ap (λ l. x ∷ l) (modify-append k f xs ys (omega (arith, h)))

pub map-modify : {X : Type 0} (g f : X → X) → ((x : X) → g (f x) ≡ f (g x)) → (k : ℕ) (xs : List X) → map g (modify k f xs) ≡ modify k f (map g xs)
map-modify g f e k [] = refl
map-modify g f e zero (x ∷ xs) = ap (λ y. y ∷ map g xs) (e x)
map-modify g f e (suc k) (x ∷ xs) = ap (λ ys. g x ∷ ys) (map-modify g f e k xs)

-- the news of rows are those of rows of which one is changed in neither its news nor what it reads
pub news_modify : (g : Unit → List Given) (event : EventName) (after : List Part) (ps : List Pair) (us : List Unit) (q : ℕ) (f : Unit → Unit) →
    ((u : Unit) → g (f u) ≡ g u) → ((u : Unit) → (f u).local.own.input ≡ u.local.own.input) → IsNews g event after ps us →
    IsNews g event after ps (modify q f us)
news_modify g event after ps us q f kept reads news k d i =
    let j : k < length us = let e = length-modify q f us in omega (arith, e, i) in
    by (q == k) _ (get_or us k d) (at_modify q f us k d j) (news k d j)
  where
    by : (b : Bool) (x u : Unit) → x ≡ (if b then f u else u) → g u ≡ news_at event after u.local.own.input ps k →
        g x ≡ news_at event after x.local.own.input ps k
    by true x u e is = ap g e ∙ kept u ∙ is ∙ ap (λ (l : Label). news_at event after l ps k) (sym (reads u) ∙ ap (λ (v : Unit). v.local.own.input) (sym e))
    by false x u e is = ap g e ∙ is ∙ ap (λ (v : Unit). news_at event after v.local.own.input ps k) (sym e)

-- instances that have the same rows by name are called alike
module _ (us vs : List Unit) (named : names_of us ≡ names_of vs) where
  pair_like : (handed : List (List ℕ)) (event : ℕ) (m : Option ManagedSubscription) (t : List (List ℕ)) → pair_of us handed event m t ≡ pair_of vs handed event m t
  pair_like handed event None t = refl
  pair_like handed event (Some m) t = ap (pair_at handed event m.sub) (place_of-names (Managed m.owner m.sub t) vs us named)

  birth_like : (event : EventName) (after : List Part) (m : Option ManagedSubscription) (t : List (List ℕ)) → birth_of us event after m t ≡ birth_of vs event after m t
  birth_like event after None t = refl
  birth_like event after (Some m) t =
      ap (λ (o : Option ℕ). if is_none o then born_instance event after m t ∷ [] else []) (place_of-names (Managed m.owner m.sub t) vs us named)

  pub called_like : (managed : List ManagedSubscription) (handed : List (List ℕ)) (k : Commit) (place : ℕ) (after : List Part) (called : Called) →
      AreCalled us managed handed k place after called → AreCalled vs managed handed k place after called
  called_like managed handed k place after called is = record {
    instances = is.instances;
    ascending = is.ascending;
    chosen = is.chosen;
    pairs = is.pairs ∙ (λ i. flat_map (λ x. pair_like handed place (slice_get managed x.place) x.s i) is.instances);
    born = is.born ∙ (λ i. flat_map (λ x. birth_like k.event after (slice_get managed x.place) x.s i) is.instances);
    newborn = is.newborn;
  }

-- what closes a handle of the unit at a place closes it in the table
pub closes_at : (k : ℕ) (how : Close) (h : ℕ) (made : Option Effect) (d : Unit) (us : List Unit) (new : LocalState) → k < length us →
    Closes how h made (get_or us k d).local new → IsClosedAt k (closing how h) h made us (set us k (with_local (get_or us k d) new))
closes_at k how h made d us new within is = record {
  told = λ e i. subst (λ (v : Unit). TellsEffect (row_answer v.local v.line.left (closing how h)) made) (get_or_default us k d e within) (is.told (get_or us k d).line.left);
  moved = by made is.moved;
}
  where
    by : (m : Option Effect) → new ≡ closed_where m h (get_or us k d).local → set us k (with_local (get_or us k d) new) ≡ shut_where m k h us
    by None e = left_at k d us new e
    by (Some f) e = ap (λ (l : LocalState). set us k (with_local (get_or us k d) l)) e ∙ set_modify k (shut_row h) d us
