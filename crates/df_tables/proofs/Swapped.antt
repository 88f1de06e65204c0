-- The tables fit each other after a unit was given another own state.
use Rattle.df_tables.proofs.Names.{◌≡◌, ℕ, List, Option, Some, get_or, set, refl, ap, sym, subst, ◌∙◌, Label, LocalState, same, UnitName, same_name-exact, RollState, FilterIndex, IsWhole, IsBoard, modify, AreLabels, inputs, IsSwapped, ReadsAs, find, moved_at, names_of, place_of, Board, EventRow, Unit}
use Rattle.df_tables.specs.Runs.{with_own}
use Rattle.df_tables.proofs.Boards.{inputs-modify, modify-moved, whole_modified}
use Rattle.df_tables.proofs.Order.{names-moved, roll_like}
use Rattle.df_tables.proofs.Places.{at_some}
use Rattle.df_tables.proofs.Seats.{passes_at}

-- what is put in a unit's place is its row with another own state
pub put_own : (l : LocalState) (us : List Unit) (k : ℕ) (d : Unit) → place_of l.unit us ≡ Some k → set us k (record (get_or us k d) { local = l }) ≡ moved_at l.unit (with_own l.own) us
put_own l us k d here =
    let u = get_or us k d in
    let is : u.local.unit ≡ l.unit = same_name-exact u.local.unit l.unit (passes_at (λ (v : Unit). same v.local.unit l.unit) us k d here) in
    ap (λ (n : UnitName). set us k (record u { local = record { unit = n; own = l.own } })) (sym is) ∙ (at_some l.unit us k d here).1 (with_own l.own)

-- the row that is found at a unit's place
pub found_at : (l : LocalState) (us : List Unit) (k : ℕ) (d : Unit) → place_of l.unit us ≡ Some k → ReadsAs l (find l.unit us) → l.own.input ≡ (get_or us k d).local.own.input
found_at l us k d here reads = subst (ReadsAs l) (at_some l.unit us k d here).0 reads

pub board_swapped : (l : LocalState) (k : ℕ) (old new : Board) → IsBoard old → place_of l.unit old.rows.items ≡ Some k → ReadsAs l (find l.unit old.rows.items) → IsSwapped l old new → new.labels.items ≡ old.labels.items → new.stale ≡ old.stale → IsBoard new
board_swapped l k old new board here reads swapped labels stale =
    let us = old.rows.items in
    let F : Unit → Unit = with_own l.own in
    let is : new.rows.items ≡ modify k F us = swapped.rows ∙ sym (modify-moved l.unit us k F here) in
    let same : inputs new.rows.items ≡ inputs us = ap inputs is ∙ inputs-modify F k us (λ d i. found_at l us k d here reads) in record {
      whole = subst (λ (vs : List Unit). IsWhole vs new.events new.index) (sym is)
          (subst (λ (evs : List EventRow). IsWhole (modify k F us) evs new.index) (sym swapped.events)
          (subst (λ (x : FilterIndex). IsWhole (modify k F us) old.events x) (sym swapped.index)
          (whole_modified us old.events old.index k F (λ u. refl) (λ u h. h) board.whole)));
      roll = roll_like old.roll.seats new.roll.seats us new.rows.items (ap (λ (r : RollState). r.seats) swapped.roll) (ap names_of swapped.rows ∙ names-moved l.unit F (λ u. refl) us) board.roll;
      labels = subst (λ (now : List Label). AreLabels now new.labels.items new.stale) (sym same)
          (subst (λ (ls : List Label). AreLabels (inputs us) ls new.stale) (sym labels)
          (subst (λ (p : Option ℕ). AreLabels (inputs us) old.labels.items p) (sym stale) board.labels));
    }
