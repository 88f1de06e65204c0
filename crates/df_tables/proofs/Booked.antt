-- The tables tell of one more entry, once they are as the code makes them.
use Rattle.df_tables.proofs.Names.{◌≡◌, ℕ, zero, suc, ◌≤◌, ◌<◌, Bool, All, List, [], ◌∷◌, ◌++◌, get_or, length, Option, Some, None, refl, ap, sym, subst, ◌∙◌, arith, option_or, append-nil, slice_get-get_or, Clause, Pair, Subscription, AreNumbered, kept_in, ManagedSubscription, Label, Privilege, Part, commit_in, answer, fixed_by, own, own_plain, Rules, rows, roots, row_taking_laws, same, OwnState, subscribes, Call, Instantiate, Subscribe, SubscribeManaged, Commit, Given, Effect, Entry, Done, EventName, UnitName, Root, Reply, Sub, same_name-exact, Agrees, AreWithin, FilterIndex, IsSeat, IsWhole, ManagedState, enrols, is_marked, subscribed_at, IsBooked, IsKept, IsMovedBoard, IsOpenedBoard, IsRenewed, TellsOf, answer_from, answer_on, managed_by, managed_of, place_on, row_by, row_on, event_place, IsAnsweredAt, IsNews, modify, news_at, IsAnswered, child_by, managed_sub_by, find, moved_at, moved_row, place_of, Board, EventRow, Unit, or_none}
use Rattle.df_instances.specs.Marks as marks
use Rattle.df_unit.specs.declared.reply.Reply.TheVariants.{Unit as Made}
use Rattle.df_tables.specs.Moves.{made_by}
use Rattle.df_tables.proofs.Boards.{enrolled_more, modify-moved, opened_longer}
use Rattle.df_tables.proofs.Built.{childless_makes_none, unmanaged_makes_none}
use Rattle.df_tables.proofs.Each.{length-modify}
use Rattle.df_tables.proofs.Opened.{within}
use Rattle.df_tables.proofs.Places.{at_none, at_some}
use Rattle.df_tables.proofs.Seats.{enrols_none, passes_at}
use Rattle.df_tables.proofs.Steps.{agrees_opened, agrees_plain, born_by, fixes_none, no_births}
use Rattle.df_tables.proofs.Subscribing.{subscribes_made}
use Rattle.df_tables.proofs.Tells.{answer_at, answer_none, none_at, row_at}

abbrev Starts : Type 0
Starts = List (Label × List Privilege)

-- a unit's place is one of the table
pub place_in : (a : UnitName) (us : List Unit) (k : ℕ) → place_of a us ≡ Some k → k < length us
place_in a us k h = within (λ (v : Unit). same v.local.unit a) us k h

-- the row at a unit's place
pub found : (a : UnitName) (us : List Unit) (k : ℕ) → place_of a us ≡ Some k → (u : Unit) × (find a us ≡ Some u) × ((c : Call) (r : Reply) (f : Effect) → IsAnsweredAt k c r f us → IsAnswered c r f u)
found a [] k h = absurd (cc)
found a (u ∷ us) k h = (get_or (u ∷ us) k u, (at_some a (u ∷ us) k u h).0, λ c r f answered. answered u (place_in a (u ∷ us) k h))

-- the row at a unit's place is the unit's
pub row_is : (b : Board) (n : UnitName) (k : Option ℕ) → place_on b n ≡ k → row_by b k ≡ row_on b n
row_is b n None none = sym (at_none n b.rows.items none).0
row_is b n (Some k) here =
    let us = b.rows.items in
    let u = (found n us k here).0 in
    slice_get-get_or us k u (place_in n us k here) ∙ sym (at_some n us k u here).0

-- what the row at a place is handed, by its unit
pub brought : (g : UnitName → List Given) (event : EventName) (after : List Part) (ps : List Pair) (us : List Unit) → IsNews (λ u. g u.local.unit) event after ps us → (n : UnitName) (q : ℕ) → place_of n us ≡ Some q → (at : Label) × (g n ≡ news_at event after at ps q)
brought g event after ps [] news n q h = absurd (cc)
brought g event after ps (u ∷ us) news n q h =
    let v = get_or (u ∷ us) q u in
    let is : v.local.unit ≡ n = same_name-exact v.local.unit n (passes_at (λ (w : Unit). same w.local.unit n) (u ∷ us) q u h) in
    (v.local.own.input, subst (λ (m : UnitName). g m ≡ news_at event after v.local.own.input ps q) is (news q u (place_in n (u ∷ us) q h)))

pub modify_same : (f g : Unit → Unit) → ((u : Unit) → f u ≡ g u) → (k : ℕ) (us : List Unit) → modify k f us ≡ modify k g us
modify_same f g e k [] = refl
modify_same f g e zero (u ∷ us) = ap (λ (v : Unit). v ∷ us) (e u)
modify_same f g e (suc k) (u ∷ us) = ap (λ (vs : List Unit). u ∷ vs) (modify_same f g e k us)

abbrev inside : Option (ℕ × List Clause) → ℕ × List Clause
inside None = (0, [])
inside (Some p) = p

abbrev inside_child : Option (ℕ × (List (List ℕ) × List Privilege)) → ℕ × (List (List ℕ) × List Privilege)
inside_child None = (0, ([], []))
inside_child (Some p) = p

-- the call and the reply that make a subscription
pub made_some : (c : Call) (r : Reply) (n : ℕ) (filter : List Clause) → made_by c r ≡ Some (n, filter) → (c ≡ Subscribe filter) × (r ≡ Sub n)
made_some (Subscribe g) (Sub m) n filter e = let p = ap inside e in (ap (λ (q : ℕ × List Clause). Subscribe q.1) p, ap (λ (q : ℕ × List Clause). Sub q.0) p)
made_some (Subscribe g) _ n filter e = absurd (let z : ⊥ = cc in z)
made_some _ r n filter e = absurd (let z : ⊥ = cc in z)

-- who makes a subscription is answered so, and without effect
pub enrols_at : (us : List Unit) (q : ℕ) (c : Call) (r : Reply) (f : Effect) (n : ℕ) (filter : List Clause) → Some (n, filter) ≡ made_by c r → IsAnsweredAt q c r f us → IsAnsweredAt q (Subscribe filter) (Sub n) Effect.Nothing us
enrols_at us q c r f n filter e answered d i =
    let u = get_or us q d in
    let both = made_some c r n filter (sym e) in
    let here : IsAnswered (Subscribe filter) (Sub n) f u =
    subst (λ (x : Call). IsAnswered x (Sub n) f u) both.0 (subst (λ (x : Reply). IsAnswered c x f u) both.1 (answered d i)) in
    let still : Effect.Nothing ≡ f = ap (λ (p : Reply × Effect). p.1) here in
    subst (λ (x : Effect). IsAnswered (Subscribe filter) (Sub n) x u) (sym still) here

enrols_still : (us : List Unit) (q : ℕ) (c : Call) (r : Reply) (f : Effect) (n : ℕ) (filter : List Clause) → Some (n, filter) ≡ made_by c r → q < length us → IsAnsweredAt q c r f us → Effect.Nothing ≡ f
enrols_still [] q c r f n filter e within answered = absurd (omega (arith, within))
enrols_still (u ∷ us) q c r f n filter e within answered =
    let both = made_some c r n filter (sym e) in
    let here : IsAnswered (Subscribe filter) r f (get_or (u ∷ us) q u) = subst (λ (x : Call). IsAnswered x r f (get_or (u ∷ us) q u)) both.0 (answered u within) in
    ap (λ (p : Reply × Effect). p.1) here

-- what is enrolled is what the call makes
pub moved_made : (q : ℕ) (c : Call) (r : Reply) (f : Effect) (n : ℕ) (filter : List Clause) (old new : Board) → Some (n, filter) ≡ made_by c r → q < length old.rows.items → IsAnsweredAt q c r f old.rows.items → IsMovedBoard q (Subscribe filter) (Sub n) Effect.Nothing (Some (n, filter)) old new →
    IsMovedBoard q c r f (made_by c r) old new
moved_made q c r f n filter old new e within answered moved =
    let both = made_some c r n filter (sym e) in
    subst (λ (m : Option (ℕ × List Clause)). IsMovedBoard q c r f m old new) e
    (subst (λ (x : Effect). IsMovedBoard q c r x (Some (n, filter)) old new) (enrols_still old.rows.items q c r f n filter e within answered)
    (subst (λ (x : Reply). IsMovedBoard q c x Effect.Nothing (Some (n, filter)) old new) (sym both.1)
    (subst (λ (x : Call). IsMovedBoard q x (Sub n) Effect.Nothing (Some (n, filter)) old new) (sym both.0) moved)))

-- what a unit's row answers is answered at its place
pub answered_at : (a : UnitName) (us : List Unit) (k : ℕ) (c : Call) (r : Reply) (f : Effect) → place_of a us ≡ Some k → answer_from (find a us) c ≡ (r, f) → IsAnsweredAt k c r f us
answered_at a us k c r f h e d i = subst (λ (o : Option Unit). answer_from o c ≡ (r, f)) (at_some a us k d h).0 e

-- what an index waits to book is told nowhere
agrees_index : (R : Rules) (s : List OwnState) (past : List Entry) (us : List Unit) (evs : List EventRow) (x x' : FilterIndex) (m : ManagedState) → x'.enrolled ≡ x.enrolled → x'.handed ≡ x.handed → Agrees R s past us evs x m → Agrees R s past us evs x' m
agrees_index R s past us evs x x' m e h agree = record {
  legal = agree.legal;
  seats = agree.seats;
  subscribed = λ n. ap (λ (l : List (Subscription (List Clause))). subscribed_at (place_of n us) l) e ∙ agree.subscribed n;
  marked = λ path ev k. ap (λ (l : List (List Pair)). is_marked l (place_of (Root path) us) (event_place ev evs) k) h ∙ agree.marked path ev k;
  parts = agree.parts;
  kept = agree.kept;
  told = agree.told;
}

-- a board with the same managed subscriptions and marks tells the same of them
pub same_managed : (old new : Board) → new.managed ≡ old.managed → new.marks.handed ≡ old.marks.handed → managed_of new ≡ managed_of old
same_managed old new e f = ap (λ (l : List ManagedSubscription). managed_by l new.marks.handed) e ∙ ap (managed_by old.managed) f

-- where there are more rows, no more is told of who has none
pub within_more : (us vs : List Unit) (evs fvs : List EventRow) (told told' : ℕ → ℕ → Bool) → ((e q : ℕ) → told' e q ≡ told e q) → length us ≤ length vs → length evs ≤ length fvs → AreWithin us evs told → AreWithin vs fvs told'
within_more us vs evs fvs told told' same more later within = record {
  fresh = λ e q h. same e q ∙ within.fresh e q (omega (arith, later, h));
  seated = λ e q h. same e q ∙ within.seated e q (omega (arith, more, h));
}

-- the tables tell what they told, where at most rows and events are more
pub told_more : (starts : Starts) (past now : List Entry) (old new : Board) → new.managed ≡ old.managed → new.marks.handed ≡ old.marks.handed → length old.rows.items ≤ length new.rows.items → length old.events ≤ length new.events → TellsOf starts past old →
    Agrees rows (roots starts) now new.rows.items new.events new.index (managed_of new) → TellsOf starts now new
told_more starts past now old new e f more later tells agrees = record {
  agrees = agrees;
  numbered = subst AreNumbered (sym e) tells.numbered;
  within = within_more old.rows.items new.rows.items old.events new.events (managed_of old).told (managed_of new).told (λ i q. ap (λ (h : List (List ℕ)). marks.was_handed h i q) f) more later tells.within;
}

pub no_fewer : {X : Type 0} (xs ys : List X) → ys ≡ xs → length xs ≤ length ys
no_fewer {X} xs ys e = let n : length ys ≡ length xs = ap (λ (l : List X). length l) e in omega (arith, n)

pub kept_renewed : (old new : Board) → IsRenewed old new → IsKept old new
kept_renewed old new same starts past tells =
    told_more starts past past old new same.managed same.told (no_fewer old.rows.items new.rows.items same.rows) (no_fewer old.events new.events same.events) tells
    (subst (λ (us : List Unit). Agrees rows (roots starts) past us new.events new.index (managed_of new)) (sym same.rows)
    (subst (λ (evs : List EventRow). Agrees rows (roots starts) past old.rows.items evs new.index (managed_of new)) (sym same.events)
    (subst (λ (x : FilterIndex). Agrees rows (roots starts) past old.rows.items old.events x (managed_of new)) (sym same.index)
    (subst (λ (m : ManagedState). Agrees rows (roots starts) past old.rows.items old.events old.index m) (sym (same_managed old new same.managed same.told)) tells.agrees))))

pub kept_opened : (event : EventName) (old new : Board) → IsWhole old.rows.items old.events old.index → IsOpenedBoard event old new → IsKept old new
kept_opened event old new whole o starts past tells =
    told_more starts past past old new o.managed o.told (no_fewer old.rows.items new.rows.items o.rows) (opened_longer event old.events new.events o.opened) tells
    (subst (λ (us : List Unit). Agrees rows (roots starts) past us new.events new.index (managed_of new)) (sym o.rows)
    (agrees_index rows (roots starts) past old.rows.items new.events old.index new.index (managed_of new) o.enrolled o.handed
    (subst (λ (m : ManagedState). Agrees rows (roots starts) past old.rows.items new.events old.index m) (sym (same_managed old new o.managed o.told))
    (agrees_opened rows (roots starts) past old.rows.items old.events new.events old.index (managed_of old) event o.opened whole.fresh tells.within.fresh tells.agrees))))

module _ (starts : Starts) (past : List Entry) (b : Board) (tells : TellsOf starts past b) (a : UnitName) (q : ℕ) (place : place_of a b.rows.items ≡ Some q) (c : Call) (r : Reply) (f : Effect) (answered : IsAnsweredAt q c r f b.rows.items) where
  pub right : answer rows (roots starts) past a c ≡ (r, f)
  right = let row = found a b.rows.items q place in sym (answer_at rows (roots starts) past b.rows.items b.events b.index (managed_of b) tells.agrees a c row.0 row.1) ∙ row.2 c r f answered

  pub makes : (st : OwnState) → own rows (roots starts) past a ≡ Some st → subscribes st c r ≡ made_by c r
  makes st owned =
      let row = found a b.rows.items q place in
      let here = (row_at rows (roots starts) past b.rows.items b.events b.index (managed_of b) tells.agrees a row.0 row.1).1 in
      let is : row.0.local.own ≡ st = cc in
      subst (λ (s : OwnState). subscribes s c r ≡ made_by c r) is (subscribes_made c r f row.0 (row.2 c r f answered))

-- a board answers as the rules do
pub answer_is : (starts : Starts) (past : List Entry) (b : Board) → TellsOf starts past b → (a : UnitName) (c : Call) → answer_on b a c ≡ answer rows (roots starts) past a c
answer_is starts past b tells a c = by (find a b.rows.items) refl
  where
    by : (o : Option Unit) → find a b.rows.items ≡ o → answer_from o c ≡ answer rows (roots starts) past a c
    by None e = sym (answer_none rows (roots starts) past b.rows.items b.events b.index (managed_of b) tells.agrees a c e)
    by (Some u) e = answer_at rows (roots starts) past b.rows.items b.events b.index (managed_of b) tells.agrees a c u e

-- an effect that is no commit has none
pub plain_else : (f : Effect) → ((k : Commit) → f ≡ Effect.Commit k → ⊥) → commit_in f ≡ None
plain_else Effect.Nothing never = refl
plain_else (Effect.Commit k) never = absurd (never k refl)
plain_else (Effect.Given d) never = refl

-- an entry that makes no record leaves all of them
pub unrecorded : (starts : Starts) (past : List Entry) (old new : Board) → new.managed ≡ old.managed → (a : UnitName) (c : Call) (r : Reply) (f : Effect) → managed_sub_by c r ≡ None → (o : List ℕ) (n : ℕ) → (managed_of new).kept o n ≡ option_or ((managed_of old).kept o n) (fixed_by rows (Done a c r f) o n (own_plain rows (roots starts) past o))
unrecorded starts past old new e a c r f unmanaged o n =
    ap (λ (l : List ManagedSubscription). kept_in l o n) e
    ∙ sym (or_none (kept_in old.managed o n))
    ∙ ap (option_or (kept_in old.managed o n)) (sym (fixes_none rows (roots starts) c r (unmanaged_makes_none c r unmanaged) (same a (Root o)) n (own_plain rows (roots starts) past o)))

-- an entry that makes no unit has none made
pub childless_births : (starts : Starts) (past : List Entry) (a : UnitName) (c : Call) (r : Reply) (f : Effect) → child_by c r ≡ None → commit_in f ≡ None → (n : UnitName) → own rows (roots starts) past n ≡ None → IsSeat n (born_by rows (roots starts) past (Done a c r f) n) [] None
childless_births starts past a c r f childless quiet n none = subst (λ (o : Option OwnState). IsSeat n o [] None) (sym (no_births rows (roots starts) past a c r f (childless_makes_none c r childless) quiet n)) refl

-- after an entry without a commit
pub booked_plain : (a : UnitName) (q : ℕ) (c : Call) (r : Reply) (f : Effect) (old new : Board) → place_of a old.rows.items ≡ Some q → managed_sub_by c r ≡ None → child_by c r ≡ None → IsAnsweredAt q c r f old.rows.items → commit_in f ≡ None → IsWhole old.rows.items old.events old.index → IsMovedBoard q c r f (made_by c r) old new → new.managed ≡ old.managed → IsBooked a c r f old new
booked_plain a q c r f old new place unmanaged childless answered quiet whole moved same starts past tells =
    let us = old.rows.items in
    let all = roots starts in
    let F = moved_row rows c r f in
    let size : length new.rows.items ≡ length us = ap length moved.rows ∙ length-modify q F us in
    told_more starts past (Done a c r f ∷ past) old new same moved.told (omega (arith, size)) (no_fewer old.events new.events moved.events) tells
    (subst (λ (l : List Unit). Agrees rows all (Done a c r f ∷ past) l new.events new.index (managed_of new)) (append-nil (moved_at a F us) ∙ sym (moved.rows ∙ modify-moved a us q F place))
    (subst (λ (evs : List EventRow). Agrees rows all (Done a c r f ∷ past) (moved_at a F us ++ []) evs new.index (managed_of new)) (sym moved.events)
    (agrees_plain rows all (row_taking_laws starts) past us [] old.events old.index new.index (managed_of old) (managed_of new) a c r f (made_by c r) tells.agrees quiet
    (right starts past old tells a q place c r f answered) (makes starts past old tells a q place c r f answered)
    (moved.enrolled ∙ ap (λ (p : Option ℕ). old.index.enrolled ++ enrols p (made_by c r)) (sym place)) moved.handed
    (unrecorded starts past old new same a c r f unmanaged) (λ e p. ap (λ (h : List (List ℕ)). marks.was_handed h e p) moved.told)
    (subst (λ (l : List (Subscription (List Clause))). All (λ (z : Subscription (List Clause)). z.unit < length us) l) (sym moved.enrolled) (enrolled_more (length us) old.index.enrolled q (made_by c r) (place_in a us q place) whole.enrolled))
    whole.seated tells.within.seated (childless_births starts past a c r f childless quiet))))

-- after a call of who isn't there
pub booked_none : (a : UnitName) (c : Call) (r : Reply) (f : Effect) (b : Board) → place_of a b.rows.items ≡ None → managed_sub_by c r ≡ None → child_by c r ≡ None → IsWhole b.rows.items b.events b.index → (let p : Reply × Effect = (Reply.NoSuchUnit, Effect.Nothing) in p) ≡ (r, f) → IsBooked a c r f b b
booked_none a c r f b none unmanaged childless whole is starts past tells =
    let us = b.rows.items in
    let all = roots starts in
    let F = moved_row rows c r f in
    let absent = at_none a us none in
    let plain : commit_in f ≡ None = sym (ap (λ (p : Reply × Effect). commit_in p.1) is) in
    let answers : answer rows all past a c ≡ (r, f) = answer_none rows all past us b.events b.index (managed_of b) tells.agrees a c absent.0 ∙ is in
    let gone = none_at rows all past us b.events b.index (managed_of b) tells.agrees a absent.0 in
    told_more starts past (Done a c r f ∷ past) b b refl refl (no_fewer us us refl) (no_fewer b.events b.events refl) tells
    (subst (λ (l : List Unit). Agrees rows all (Done a c r f ∷ past) l b.events b.index (managed_of b)) (append-nil (moved_at a F us) ∙ sym (absent.1 F))
    (agrees_plain rows all (row_taking_laws starts) past us [] b.events b.index b.index (managed_of b) (managed_of b) a c r f None tells.agrees plain answers
    (λ st owned. absurd (let z : ⊥ = cc in z))
    (sym (append-nil b.index.enrolled) ∙ ap (λ (l : List (Subscription (List Clause))). b.index.enrolled ++ l) (sym (enrols_none (place_of a us)))) refl
    (unrecorded starts past b b refl a c r f unmanaged) (λ e p. refl) whole.enrolled whole.seated tells.within.seated (childless_births starts past a c r f childless plain)))

-- the call, the reply and the effect that make a child
pub child_some : (c : Call) (r : Reply) (n : ℕ) (s : List (List ℕ)) (ps : List Privilege) → child_by c r ≡ Some (n, (s, ps)) → (c ≡ Instantiate s ps) × (r ≡ Reply.Unit n)
child_some (Instantiate s' ps') (Made m) n s ps e =
    let p = ap inside_child e in
    (ap (λ (q : ℕ × (List (List ℕ) × List Privilege)). Instantiate q.1.0 q.1.1) p, ap (λ (q : ℕ × (List (List ℕ) × List Privilege)). Reply.Unit q.0) p)
child_some (Instantiate s' ps') _ n s ps e = absurd (let z : ⊥ = cc in z)
child_some _ r n s ps e = absurd (let z : ⊥ = cc in z)

-- who makes a child is answered so, and without effect
pub child_at : (us : List Unit) (q : ℕ) (c : Call) (r : Reply) (f : Effect) (n : ℕ) (s : List (List ℕ)) (ps : List Privilege) → child_by c r ≡ Some (n, (s, ps)) → IsAnsweredAt q c r f us → IsAnsweredAt q (Instantiate s ps) (Reply.Unit n) Effect.Nothing us
child_at us q c r f n s ps e answered d i =
    let u = get_or us q d in
    let both = child_some c r n s ps e in
    let here : IsAnswered (Instantiate s ps) (Reply.Unit n) f u =
    subst (λ (x : Call). IsAnswered x (Reply.Unit n) f u) both.0 (subst (λ (x : Reply). IsAnswered c x f u) both.1 (answered d i)) in
    let still : Effect.Nothing ≡ f = ap (λ (p : Reply × Effect). p.1) here in
    subst (λ (x : Effect). IsAnswered (Instantiate s ps) (Reply.Unit n) x u) (sym still) here

-- who isn't there makes no managed subscription
pub absent_unmanaged : (c : Call) (r : Reply) (f : Effect) → (let p : Reply × Effect = (Reply.NoSuchUnit, Effect.Nothing) in p) ≡ (r, f) → managed_sub_by c r ≡ None
absent_unmanaged c r f e = ap (managed_sub_by c) (sym (ap (λ (p : Reply × Effect). p.0) e)) ∙ none c
  where
    none : (c : Call) → managed_sub_by c Reply.NoSuchUnit ≡ None
    none (SubscribeManaged filter) = refl
    none _ = refl

-- nor any child
pub absent_childless : (c : Call) (r : Reply) (f : Effect) → (let p : Reply × Effect = (Reply.NoSuchUnit, Effect.Nothing) in p) ≡ (r, f) → child_by c r ≡ None
absent_childless c r f e = ap (child_by c) (sym (ap (λ (p : Reply × Effect). p.0) e)) ∙ none c
  where
    none : (c : Call) → child_by c Reply.NoSuchUnit ≡ None
    none (Instantiate s ps) = refl
    none _ = refl
