-- Tables that fit each other still do after a change of a row.
use Rattle.df_tables.proofs.Names.{◌≡◌, inl, inr, ℕ, zero, suc, ◌+◌, ◌≤◌, ◌<◌, ◌==◌, ◌&&◌, ◌||◌, Bool, true, false, if◌then◌else◌, List, [], ◌∷◌, ◌++◌, length, map, get_or, set, Option, Some, None, refl, ap, sym, subst, ◌∙◌, arith, All, length-append, append-nil, get_or_default, length-map, All-head, All-push, All-tail, Clause, Pair, has_pair, Subscription, Label, Part, rows, Call, Commit, Given, Effect, EventName, UnitName, Reply, AreApart, FilterIndex, IsWhole, all_new, enrols, if_new, rows_in, IsBoard, IsHandedBoard, IsMovedBoard, IsOpenedBoard, IsReady, IsShutBoard, receivers_of, IsOpened, blank, IsCalm, IsNews, modify, news_at, shut_row, with_news, AreLabels, inputs, LineState, moved_at, moved_row, names_of, place_of, taken, Board, Ready, EventRow, Unit, and-false, ne_eqb, or_from, and_left}
use Rattle.df_index.specs.IndexState as index
use Rattle.df_tables.proofs.Each.{at_modify, length-modify, set_modify}
use Rattle.df_tables.proofs.Handed.{at_map}
use Rattle.df_tables.proofs.Order.{apart_like, names-map, roll_like, same_length}
use Rattle.df_tables.proofs.Places.{at_some}

pub names-modify : (f : Unit → Unit) → ((u : Unit) → (f u).local.unit ≡ u.local.unit) → (k : ℕ) (us : List Unit) → names_of (modify k f us) ≡ names_of us
names-modify f kept k [] = refl
names-modify f kept zero (u ∷ us) = ap (λ (n : UnitName). n ∷ names_of us) (kept u)
names-modify f kept (suc k) (u ∷ us) = ap (λ (ns : List UnitName). u.local.unit ∷ ns) (names-modify f kept k us)

-- to change the row at a unit's place is to change the table at the unit
pub modify-moved : (a : UnitName) (us : List Unit) (k : ℕ) (f : Unit → Unit) → place_of a us ≡ Some k → modify k f us ≡ moved_at a f us
modify-moved a [] k f h = refl
modify-moved a (u ∷ us) k f h = sym (set_modify k f u (u ∷ us)) ∙ (at_some a (u ∷ us) k u h).1 f

-- nor is anything staged then
calm-modify : (f : Unit → Unit) → ((u : Unit) → IsCalm u → IsCalm (f u)) → (k : ℕ) (us : List Unit) → All IsCalm us → All IsCalm (modify k f us)
calm-modify f still k us calm i d within =
    let e = length-modify k f us in
    let j : i < length us = omega (arith, e, within) in
    let u = get_or us i d in
    let h = calm i d j in
    subst IsCalm (sym (at_modify k f us i d j)) (elim (k == i) as (λ b. IsCalm (if b then f u else u)) [ true ↦ still u h | false ↦ h ])

pub whole_modified : (us : List Unit) (evs : List EventRow) (x : FilterIndex) (k : ℕ) (f : Unit → Unit) → ((u : Unit) → (f u).local.unit ≡ u.local.unit) → ((u : Unit) → IsCalm u → IsCalm (f u)) → IsWhole us evs x → IsWhole (modify k f us) evs x
whole_modified us evs x k f named still whole = record {
  apart = apart_like us (modify k f us) (names-modify f named k us) whole.apart;
  calm = calm-modify f still k us whole.calm;
  enrolled = λ i d within. let e = length-modify k f us in let h = whole.enrolled i d within in omega (arith, e, h);
  fresh = whole.fresh;
  seated = λ e p h. whole.seated e p (let n = length-modify k f us in omega (arith, n, h));
}

pub inputs-modify : (f : Unit → Unit) (k : ℕ) (us : List Unit) → ((d : Unit) → k < length us → (f (get_or us k d)).local.own.input ≡ (get_or us k d).local.own.input) → inputs (modify k f us) ≡ inputs us
inputs-modify f k [] same = refl
inputs-modify f zero (u ∷ us) same = ap (λ (l : Label). l ∷ inputs us) (same u (omega arith))
inputs-modify f (suc k) (u ∷ us) same = ap (λ (ls : List Label). u.local.own.input ∷ ls) (inputs-modify f k us (λ d i. same d (omega arith)))

-- labels that are those of now are so but for one, once the unit at its place has changed
pub labels_stale : (f : Unit → Unit) (k : ℕ) (us : List Unit) → k < length us → AreLabels (inputs (modify k f us)) (inputs us) (Some k)
labels_stale f k us within = (let e = length-modify k f us in let g = length-map (modify k f us) (λ (u : Unit). u.local.own.input) in omega (arith, e, g, within), λ l. go k us l within)
  where
    go : (k : ℕ) (us : List Unit) (l : Label) → k < length us → set (inputs us) k (get_or (inputs (modify k f us)) k l) ≡ inputs (modify k f us)
    go k [] l h = absurd (omega arith)
    go zero (u ∷ us) l h = refl
    go (suc k) (u ∷ us) l h = ap (λ (ls : List Label). u.local.own.input ∷ ls) (go k us l (omega arith))

pub inputs-map : (f : Unit → Unit) → ((u : Unit) → (f u).local.own.input ≡ u.local.own.input) → (us : List Unit) → inputs (map f us) ≡ inputs us
inputs-map f same [] = refl
inputs-map f same (u ∷ us) = let first = same u in let rest = inputs-map f same us in cc

taken_calm : (f : Effect) (l : LineState) → l.staged ≡ [] → (taken f l).staged ≡ []
taken_calm Effect.Nothing l h = h
taken_calm (Effect.Commit k) l h = h
taken_calm (Effect.Given d) l h = h

-- the subscription is of one of so many rows
abbrev pub IsOf : ℕ → Subscription (List Clause) → Type 0
IsOf n s = s.unit < n

pub enrolled_more : (n : ℕ) (xs : List (Subscription (List Clause))) (k : ℕ) (made : Option (ℕ × List Clause)) → k < n → All (IsOf n) xs → All (IsOf n) (xs ++ enrols (Some k) made)
enrolled_more n xs k None within h = subst (All (IsOf n)) (sym (append-nil xs)) h
enrolled_more n xs k (Some sub) within h = All-push (IsOf n) xs (record { unit = k; sub = sub.0; filter = sub.1 }) h within

-- the tables fit each other after an entry without a commit
pub whole_moved : (k : ℕ) (c : Call) (r : Reply) (f : Effect) (made : Option (ℕ × List Clause)) (old new : Board) → k < length old.rows.items → IsMovedBoard k c r f made old new → IsWhole old.rows.items old.events old.index → IsWhole new.rows.items new.events new.index
whole_moved k c r f made old new within moved whole =
    let us = old.rows.items in
    let after = whole_modified us old.events old.index k (moved_row rows c r f) (λ u. refl) (λ u h. taken_calm f u.line h) whole in
    let more : IsWhole (modify k (moved_row rows c r f) us) old.events new.index = record {
      apart = after.apart;
      calm = after.calm;
      enrolled = subst (λ (n : ℕ). All (IsOf n) new.index.enrolled) (sym (length-modify k (moved_row rows c r f) us))
          (subst (All (IsOf (length us))) (sym moved.enrolled) (enrolled_more (length us) old.index.enrolled k made within whole.enrolled));
      fresh = λ e p h. ap (λ (l : List (List Pair)). index.was_handed l e p) moved.handed ∙ whole.fresh e p h;
      seated = λ e p h. ap (λ (l : List (List Pair)). index.was_handed l e p) moved.handed ∙ after.seated e p h;
    } in
    subst (λ (l : List Unit). IsWhole l new.events new.index) (sym moved.rows)
    (subst (λ (evs : List EventRow). IsWhole (modify k (moved_row rows c r f) us) evs new.index) (sym moved.events) more)

-- events that were opened are no fewer
pub opened_longer : (event : EventName) (old new : List EventRow) → IsOpened event old new → length old ≤ length new
opened_longer event old new (inl e) = let n : length new ≡ length old = ap length e in omega (arith, n)
opened_longer event old new (inr e) = let n : length new ≡ length old + 1 = ap length e.1 ∙ length-append old (blank event ∷ []) in omega (arith, n)

pub whole_opened : (event : EventName) (old new : Board) → IsOpenedBoard event old new → IsWhole old.rows.items old.events old.index → IsWhole new.rows.items new.events new.index
whole_opened event old new o whole = subst (λ (l : List Unit). IsWhole l new.events new.index) (sym o.rows) (record {
  apart = whole.apart;
  calm = whole.calm;
  enrolled = subst (All (IsOf (length old.rows.items))) (sym o.enrolled) whole.enrolled;
  fresh = λ e p h. ap (λ (l : List (List Pair)). index.was_handed l e p) o.handed
      ∙ whole.fresh e p (let longer = opened_longer event old.events new.events o.opened in omega (arith, longer, h));
  seated = λ e p h. ap (λ (l : List (List Pair)). index.was_handed l e p) o.handed ∙ whole.seated e p h;
})

-- each receiver is one of the rows, since its subscription is of one
pub receivers_within : (commit : Commit) (b : Board) (ready : Ready) → IsWhole b.rows.items b.events b.index → IsReady commit b ready → All (λ (p : Pair). p.0 < length b.rows.items) ready.to
receivers_within commit b ready whole is i d within =
    let due = (is.due (get_or ready.to i d)).0 (i, within, get_or_default ready.to i (get_or ready.to i d) d within) in
    let row = whole.enrolled due.enrolled.0 due.subscription due.enrolled.1 in
    subst (λ (n : ℕ). n < length b.rows.items) (ap (λ (s : Subscription (List Clause)). s.unit) due.enrolled.2 ∙ ap (λ (p : Pair). p.0) due.pair) row

-- who has no row is no receiver
none_far : (ps : List Pair) (m : ℕ) (p : Pair) → All (λ (q : Pair). q.0 < m) ps → m ≤ p.0 → has_pair ps p ≡ false
none_far [] m p all far = refl
none_far (q ∷ qs) m p all far =
    let near = All-head (λ (r : Pair). r.0 < m) q qs all in
    or_from _ _ (and_left _ (q.1 == p.1) (ne_eqb q.0 p.0 (λ e. omega (arith, near, e, far))))
    (none_far qs m p (All-tail (λ (r : Pair). r.0 < m) q qs all) far)

-- so it is marked as handed nothing, where it was before
pub far_unbooked : (ps : List Pair) (m j : ℕ) (handed handed' : List (List Pair)) → All (λ (p : Pair). p.0 < m) ps → ((e : ℕ) (p : Pair) → index.was_handed handed' e p ≡ (index.was_handed handed e p || ((e == j) && has_pair ps p))) → ((e : ℕ) (p : Pair) → m ≤ p.0 → index.was_handed handed e p ≡ false) →
    (e : ℕ) (p : Pair) → m ≤ p.0 → index.was_handed handed' e p ≡ false
far_unbooked ps m j handed handed' within booked before e p far =
    booked e p
    ∙ ap (λ (b : Bool). b || ((e == j) && has_pair ps p)) (before e p far)
    ∙ ap (λ (b : Bool). (e == j) && b) (none_far ps m p within far)
    ∙ and-false (e == j)

-- what is handed to each row, by its unit's place
abbrev news_by : EventName → List Part → List Pair → Unit → Option ℕ → List Given
news_by event after ps u None = []
news_by event after ps u (Some k) = news_at event after u.local.own.input ps k

own_news : (event : EventName) (after : List Part) (ps : List Pair) (us : List Unit) → AreApart us → IsNews (λ u. news_by event after ps u (place_of u.local.unit us)) event after ps us
own_news event after ps us apart q d within = ap (news_by event after ps (get_or us q d)) (apart q d within)

-- the tables fit each other where the rows are of the same units, who read at the same labels, and nothing is staged
pub board_steady : (old new : Board) → IsBoard old → names_of new.rows.items ≡ names_of old.rows.items → All IsCalm new.rows.items → inputs new.rows.items ≡ inputs old.rows.items → new.roll.seats ≡ old.roll.seats → new.events ≡ old.events → new.index ≡ old.index → new.labels.items ≡ old.labels.items → new.stale ≡ old.stale →
    IsBoard new
board_steady old new board named calm reads roll events indexed labels stale =
    let us = old.rows.items in
    let vs = new.rows.items in
    let size : length vs ≡ length us = same_length vs us named in
    let whole : IsWhole vs old.events old.index = record {
      apart = apart_like us vs named board.whole.apart;
      calm = calm;
      enrolled = λ i d within. let h = board.whole.enrolled i d within in omega (arith, size, h);
      fresh = board.whole.fresh;
      seated = λ e p h. board.whole.seated e p (omega (arith, size, h));
    } in record {
      whole = subst (λ (evs : List EventRow). IsWhole vs evs new.index) (sym events) (subst (λ (x : FilterIndex). IsWhole vs old.events x) (sym indexed) whole);
      roll = roll_like old.roll.seats new.roll.seats us vs roll named board.roll;
      labels = subst (λ (now : List Label). AreLabels now new.labels.items new.stale) (sym reads)
          (subst (λ (ls : List Label). AreLabels (inputs us) ls new.stale) (sym labels) (subst (AreLabels (inputs us) old.labels.items) (sym stale) board.labels));
    }

-- where receivers were handed their news
pub board_handed : (event : EventName) (after : List Part) (ps : List Pair) (old new : Board) → IsBoard old →
    ((given : Unit → List Given) → IsNews given event after ps old.rows.items → new.rows.items ≡ map (with_news given) old.rows.items) →
    new.roll.seats ≡ old.roll.seats → new.events ≡ old.events → new.index ≡ old.index → new.labels.items ≡ old.labels.items → new.stale ≡ old.stale → IsBoard new
board_handed event after ps old new board rows =
    let us = old.rows.items in
    let given : Unit → List Given = λ u. news_by event after ps u (place_of u.local.unit us) in
    let handed_to : List Unit = map (with_news given) us in
    let is : new.rows.items ≡ handed_to = rows given (own_news event after ps us board.whole.apart) in
    let calm : All IsCalm handed_to = λ i d within.
    let e = length-map us (with_news given) in
    let j : i < length us = omega (arith, e, within) in
    subst IsCalm (sym (at_map (with_news given) us i d d j)) (board.whole.calm i d j) in
    board_steady old new board
    (ap names_of is ∙ names-map (with_news given) (λ u. refl) us)
    (subst (All IsCalm) (sym is) calm)
    (ap inputs is ∙ inputs-map (with_news given) (λ u. refl) us)

all_longer : (bs us : List Unit) → length us ≤ length (all_new bs us)
all_longer [] us = omega arith
all_longer (b ∷ bs) us =
    let longer = all_longer bs (us ++ if_new b us) in
    let e = length-append us (if_new b us) in
    omega (arith, longer, e)

-- a commit that is handed over takes no row away
pub handed_longer : (k : Commit) (old new : Board) → IsWhole old.rows.items old.events old.index → IsHandedBoard k old new →
    length old.rows.items ≤ length new.rows.items
handed_longer k old new whole done =
    let m = done.marked in
    let us = m.opened.rows.items in
    let ps = receivers_of m.ready in
    let after = m.ready.after in
    let apart = (whole_opened k.event old m.opened m.opening whole).apart in
    let given : Unit → List Given = λ u. news_by k.event after ps u (place_of u.local.unit us) in
    let all = ap (λ (l : List Unit). length l) (done.rows given (own_news k.event after ps us apart)) in
    let longer = all_longer (rows_in m.ready.called.born.items) (map (with_news given) us) in
    let same = length-map us (with_news given) in
    let before = ap (λ (l : List Unit). length l) m.opening.rows in
    omega (arith, all, longer, same, before)

-- where a handle is closed
pub board_shut : (k h : ℕ) (old new : Board) → IsBoard old → IsShutBoard k h old new → new.labels.items ≡ old.labels.items →
    new.stale ≡ old.stale → IsBoard new
board_shut k h old new board shut labels stale =
    let us = old.rows.items in
    board_steady old new board
    (ap names_of shut.rows ∙ names-modify (shut_row h) (λ u. refl) k us)
    (subst (All IsCalm) (sym shut.rows) (calm-modify (shut_row h) (λ u is. is) k us board.whole.calm))
    (ap inputs shut.rows ∙ inputs-modify (shut_row h) k us (λ d i. refl))
    shut.roll shut.events shut.index labels stale

-- and where an event is booked for receivers who have rows
pub board_booked : (old new : Board) (ps : List Pair) (j : ℕ) → IsBoard old → All (λ (p : Pair). p.0 < length old.rows.items) ps → j < length old.events → new.rows.items ≡ old.rows.items → new.roll.seats ≡ old.roll.seats → new.labels.items ≡ old.labels.items → new.stale ≡ old.stale → new.index.enrolled ≡ old.index.enrolled →
    ((e : ℕ) (p : Pair) → index.was_handed new.index.handed e p ≡ (index.was_handed old.index.handed e p || ((e == j) && has_pair ps p))) → length new.events ≡ length old.events → IsBoard new
board_booked old new ps j board within there rows roll labels stale enrolled handed size =
    let us = old.rows.items in
    let whole : IsWhole us new.events new.index = record {
      apart = board.whole.apart;
      calm = board.whole.calm;
      enrolled = subst (All (IsOf (length us))) (sym enrolled) board.whole.enrolled;
      fresh = λ e p h.
          let long : length old.events ≤ e = omega (arith, size, h) in
          handed e p
          ∙ ap (λ (b : Bool). b || ((e == j) && has_pair ps p)) (board.whole.fresh e p long)
          ∙ ap (λ (b : Bool). b && has_pair ps p) (ne_eqb e j (λ z. omega (arith, there, long, z)));
      seated = far_unbooked ps (length us) j old.index.handed new.index.handed within handed board.whole.seated;
    } in record {
      whole = subst (λ (l : List Unit). IsWhole l new.events new.index) (sym rows) whole;
      roll = roll_like old.roll.seats new.roll.seats us new.rows.items roll (ap names_of rows) board.roll;
      labels = subst (λ (l : List Unit). AreLabels (inputs l) new.labels.items new.stale) (sym rows)
          (subst (λ (ls : List Label). AreLabels (inputs us) ls new.stale) (sym labels) (subst (AreLabels (inputs us) old.labels.items) (sym stale) board.labels));
    }
