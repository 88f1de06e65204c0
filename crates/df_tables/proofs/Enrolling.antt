-- After an entry that makes a managed subscription the tables tell of it.
use Rattle.df_tables.proofs.Names.{◌≡◌, ℕ, ◌<◌, All, List, [], ◌∷◌, ◌++◌, get_or, length, Option, Some, None, refl, ap, sym, subst, ◌∙◌, arith, option_or, append-nil, Clause, Subscription, AreNumbered, kept_in, ManagedSubscription, Label, Privilege, record_of, fixed_by, own, own_plain, rows, roots, row_taking_laws, fixed_of, Call, SubscribeManaged, Effect, Entry, Done, UnitName, Root, Reply, Sub, Agrees, IsWhole, enrols, IsEnrolled, IsBooked, IsMovedBoard, TellsOf, managed_of, IsAnsweredAt, IsAnswered, managed_sub_by, moved_at, moved_row, place_of, Board, EventRow, Unit}
use Rattle.df_instances.specs.Marks as marks
use Rattle.df_tables.proofs.Boards.{enrolled_more, modify-moved}
use Rattle.df_tables.proofs.Booked.{childless_births, found, no_fewer, place_in, right, within_more}
use Rattle.df_tables.proofs.Counted.{kept_more, numbered_more}
use Rattle.df_tables.proofs.Each.{length-modify}
use Rattle.df_tables.proofs.Places.{at_some}
use Rattle.df_tables.proofs.Steps.{agrees_plain}
use Rattle.df_tables.proofs.Subscribing.{next_number}
use Rattle.df_tables.proofs.Tells.{row_at}

pub enrolled_told : (starts : List (Label × List Privilege)) (past : List Entry) (a : UnitName) (q n : ℕ) (filter : List Clause) (old new : Board) → place_of a old.rows.items ≡ Some q → IsAnsweredAt q (SubscribeManaged filter) (Sub n) Effect.Nothing old.rows.items → IsWhole old.rows.items old.events old.index →
    IsMovedBoard q (SubscribeManaged filter) (Sub n) Effect.Nothing None old new → IsEnrolled q filter n old.rows.items old.managed new.managed → TellsOf starts past old →
    Agrees rows (roots starts) (Done a (SubscribeManaged filter) (Sub n) Effect.Nothing ∷ past) new.rows.items new.events new.index (managed_of new) × AreNumbered new.managed
enrolled_told starts past a q n filter old new place answered whole moved enrolled tells =
    let us = old.rows.items in
    let s = roots starts in
    let c = SubscribeManaged filter in
    let r = Sub n in
    let f = Effect.Nothing in
    let F = moved_row rows c r f in
    let row = found a us q place in
    let u = row.0 in
    let at = row_at rows s past us old.events old.index (managed_of old) tells.agrees a u row.1 in
    let is = enrolled u (place_in a us q place) in
    let m = is.made in
    let stands : get_or us q u ≡ u = (let e = (at_some a us q u place).0 in let g = row.1 in cc) in
    let who : a ≡ Root m.owner = sym at.0.unit ∙ ap (λ (v : Unit). v.local.unit) (sym stands) ∙ is.owner in
    let owned : own_plain rows s past m.owner ≡ Some u.local.own = subst (λ (x : UnitName). own rows s past x ≡ Some u.local.own) who at.1 in
    let keeps : record_of m.fixed ≡ fixed_of u.local.own filter = is.keeps ∙ ap (λ (v : Unit). fixed_of v.local.own filter) stands in
    let next : n ≡ u.local.own.subs = next_number _ _ u.local.own.subs n r (ap (λ (p : Reply × Effect). p.0) (row.2 c r f answered)) in (
      subst (λ (l : List Unit). Agrees rows s (Done a c r f ∷ past) l new.events new.index (managed_of new)) (append-nil (moved_at a F us) ∙ sym (moved.rows ∙ modify-moved a us q F place))
          (subst (λ (evs : List EventRow). Agrees rows s (Done a c r f ∷ past) (moved_at a F us ++ []) evs new.index (managed_of new)) (sym moved.events)
          (agrees_plain rows s (row_taking_laws starts) past us [] old.events old.index new.index (managed_of old) (managed_of new) a c r f None tells.agrees refl
          (right starts past old tells a q place c r f answered) (λ st owned. refl)
          (moved.enrolled ∙ ap (λ (p : Option ℕ). old.index.enrolled ++ enrols p None) (sym place)) moved.handed
          (λ o i. ap (λ (l : List ManagedSubscription). kept_in l o i) is.last
          ∙ kept_more s past m.owner u.local.own owned filter n f old.managed m refl is.number keeps o i
          ∙ ap (λ (x : UnitName). option_or (kept_in old.managed o i) (fixed_by rows (Done x c r f) o i (own_plain rows s past o))) (sym who))
          (λ e p. ap (λ (h : List (List ℕ)). marks.was_handed h e p) moved.told)
          (subst (λ (l : List (Subscription (List Clause))). All (λ (z : Subscription (List Clause)). z.unit < length us) l) (sym moved.enrolled) (enrolled_more (length us) old.index.enrolled q None (place_in a us q place) whole.enrolled))
          whole.seated tells.within.seated (childless_births starts past a c r f refl refl))),
      subst AreNumbered (sym is.last) (numbered_more s past m.owner u.local.own owned filter n f old.managed m refl is.number keeps tells.agrees.legal next tells.agrees.kept tells.numbered),
    )

abbrev inside : Option (ℕ × List Clause) → ℕ × List Clause
inside None = (0, [])
inside (Some p) = p

-- the call and the reply that make a managed subscription
managed_some : (c : Call) (r : Reply) (n : ℕ) (filter : List Clause) → managed_sub_by c r ≡ Some (n, filter) → (c ≡ SubscribeManaged filter) × (r ≡ Sub n)
managed_some (SubscribeManaged g) (Sub m) n filter e = let p = ap inside e in (ap (λ (q : ℕ × List Clause). SubscribeManaged q.1) p, ap (λ (q : ℕ × List Clause). Sub q.0) p)
managed_some (SubscribeManaged g) _ n filter e = absurd (let z : ⊥ = cc in z)
managed_some _ r n filter e = absurd (let z : ⊥ = cc in z)

-- who makes one is answered so, and without effect
pub managed_at : (us : List Unit) (q : ℕ) (c : Call) (r : Reply) (f : Effect) (n : ℕ) (filter : List Clause) → managed_sub_by c r ≡ Some (n, filter) → IsAnsweredAt q c r f us → IsAnsweredAt q (SubscribeManaged filter) (Sub n) Effect.Nothing us
managed_at us q c r f n filter e answered d i =
    let u = get_or us q d in
    let both = managed_some c r n filter e in
    let here : IsAnswered (SubscribeManaged filter) (Sub n) f u =
    subst (λ (x : Call). IsAnswered x (Sub n) f u) both.0 (subst (λ (x : Reply). IsAnswered c x f u) both.1 (answered d i)) in
    let still : Effect.Nothing ≡ f = ap (λ (p : Reply × Effect). p.1) here in
    subst (λ (x : Effect). IsAnswered (SubscribeManaged filter) (Sub n) x u) (sym still) here

-- after an entry that makes one
pub booked_managed : (a : UnitName) (q : ℕ) (c : Call) (r : Reply) (f : Effect) (n : ℕ) (filter : List Clause) (old new : Board) → place_of a old.rows.items ≡ Some q → managed_sub_by c r ≡ Some (n, filter) → IsAnsweredAt q c r f old.rows.items → IsWhole old.rows.items old.events old.index →
    IsMovedBoard q (SubscribeManaged filter) (Sub n) Effect.Nothing None old new → IsEnrolled q filter n old.rows.items old.managed new.managed → IsBooked a c r f old new
booked_managed a q c r f n filter old new place is answered whole moved enrolled =
    let both = managed_some c r n filter is in
    let told = managed_at old.rows.items q c r f n filter is answered in
    let row = found a old.rows.items q place in
    let still : Effect.Nothing ≡ f = ap (λ (p : Reply × Effect). p.1) (subst (λ (x : Call). IsAnswered x r f row.0) both.0 (row.2 c r f answered)) in
    subst (λ (x : Effect). IsBooked a c r x old new) still
    (subst (λ (x : Reply). IsBooked a c x Effect.Nothing old new) (sym both.1)
    (subst (λ (x : Call). IsBooked a x (Sub n) Effect.Nothing old new) (sym both.0) (made told)))
  where
    made : IsAnsweredAt q (SubscribeManaged filter) (Sub n) Effect.Nothing old.rows.items → IsBooked a (SubscribeManaged filter) (Sub n) Effect.Nothing old new
    made told starts past tells =
        let now = enrolled_told starts past a q n filter old new place told whole moved enrolled tells in
        let F = moved_row rows (SubscribeManaged filter) (Sub n) Effect.Nothing in
        let size : length new.rows.items ≡ length old.rows.items = ap (λ (l : List Unit). length l) moved.rows ∙ length-modify q F old.rows.items in record {
          agrees = now.0;
          numbered = now.1;
          within = within_more old.rows.items new.rows.items old.events new.events (managed_of old).told (managed_of new).told (λ i p. ap (λ (h : List (List ℕ)). marks.was_handed h i p) moved.told) (omega (arith, size)) (no_fewer old.events new.events moved.events) tells.within;
        }
