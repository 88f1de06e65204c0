-- What the tables tell of units and of answers.
use Rattle.df_tables.proofs.Names.{◌≡◌, List, Option, Some, None, is_some, refl, ap, sym, subst, ◌∙◌, contains_by, deliveries, answer, answer_of, exists, own, Rules, OwnState, unit_cmp, Call, Given, Effect, Entry, UnitName, Reply, names_in, Seat, Agrees, FilterIndex, IsRow, IsSeat, ManagedState, IsRollOf, find, EventRow, Unit}
use Rattle.df_tables.proofs.Finds.{place_some, seat_some}

module _ (R : Rules) (s : List OwnState) (past : List Entry) (us : List Unit) (evs : List EventRow) (x : FilterIndex) (m : ManagedState) (agree : Agrees R s past us evs x m) (a : UnitName) where
  -- the unit's row is that of its own state
  pub row_at : (u : Unit) → find a us ≡ Some u → IsRow a u.local.own (deliveries R s past a) u × (own R s past a ≡ Some u.local.own)
  row_at u e = by (own R s past a) (subst (λ (p : Option Unit). IsSeat a (own R s past a) (deliveries R s past a) p) e (agree.seats a))
    where
      by : (o : Option OwnState) → IsSeat a o (deliveries R s past a) (Some u) → IsRow a u.local.own (deliveries R s past a) u × (o ≡ Some u.local.own)
      by None seat = absurd seat
      by (Some st) seat = (subst (λ (x : OwnState). IsRow a x (deliveries R s past a) u) (sym seat.own) seat, ap Some (sym seat.own))

  -- who has no row isn't there
  pub none_at : find a us ≡ None → own R s past a ≡ None
  none_at e = by (own R s past a) (subst (λ (p : Option Unit). IsSeat a (own R s past a) (deliveries R s past a) p) e (agree.seats a))
    where
      by : (o : Option OwnState) → IsSeat a o (deliveries R s past a) None → o ≡ None
      by None seat = refl
      by (Some st) seat = absurd seat

  -- a unit has a seat exactly where it exists
  pub named_at : (roll : List Seat) → IsRollOf roll us → contains_by unit_cmp (names_in roll) a ≡ exists R s past a
  named_at roll are = seat_some a roll ∙ ap is_some (are a) ∙ place_some a us ∙ by (own R s past a) (find a us) (agree.seats a)
    where
      by : (o : Option OwnState) (p : Option Unit) → IsSeat a o (deliveries R s past a) p → is_some p ≡ is_some o
      by None None seat = refl
      by None (Some u) seat = absurd seat
      by (Some st) None seat = absurd seat
      by (Some st) (Some u) seat = refl

  pub answer_none : (c : Call) → find a us ≡ None → answer R s past a c ≡ (Reply.NoSuchUnit, Effect.Nothing)
  answer_none c e = ap (λ (o : Option OwnState). answer_of R a o (deliveries R s past a) c) (none_at e)

  -- a row answers as the rules do
  pub answer_at : (c : Call) (u : Unit) → find a us ≡ Some u → R.answer u.local.unit u.local.own u.line.left c ≡ answer R s past a c
  answer_at c u e =
      let row = row_at u e in
      ap (λ (n : UnitName). R.answer n u.local.own u.line.left c) row.0.unit
      ∙ ap (λ (ds : List Given). R.answer a u.local.own ds c) row.0.left
      ∙ ap (λ (o : Option OwnState). answer_of R a o (deliveries R s past a) c) (sym row.1)
