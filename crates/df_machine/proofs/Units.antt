-- What the tables tell of the units that exist.
use Rattle.std.proofs.Common.{◌≡◌, List, length, Option, Some, None, false, map, not, option_map, ap, sym, ◌∙◌}
use Rattle.df_label.proofs.SetFacts.{same_elements}
use Rattle.df_label.specs.Ascending.{IsAscending}
use Rattle.df_rules.specs.Deliveries.{deliveries}
use Rattle.df_rules.specs.Start.{rows}
use Rattle.df_local.specs.code.LocalState.{LocalState}
use Rattle.df_start.specs.Begun.{begun}
use Rattle.df_start.specs.declared.start.RootStart.{RootStart}
use Rattle.df_roll.specs.Roll.{names_in}
use Rattle.df_tables.specs.Board.{IsBoard, TellsOf, managed_of}
use Rattle.df_tables.specs.Table.{find}
use Rattle.df_tables.specs.declared.board.Board.{Board}
use Rattle.df_tables.specs.declared.units.Unit.{Unit}
use Rattle.df_tables.proofs.Tells.{named_at, none_at, row_at}
use Rattle.df_unit.proofs.OrderFacts.{unit_cmp_exact}
use Rattle.df_unit.specs.OwnState.{OwnState}
use Rattle.df_unit.specs.Rows.{is_nil}
use Rattle.df_unit.specs.UnitOrder.{unit_cmp}
use Rattle.df_unit.specs.declared.commit.Given.{Given}
use Rattle.df_unit.specs.declared.entry.Entry.{Entry}
use Rattle.df_unit.specs.declared.name.UnitName.{UnitName}
use Rattle.df_machine.specs.Journal.{IsRoll, contamination_in, firsts, has_delivery_in, is_due, left_in, local_of, number_left}

module _ (start : List RootStart) (past : List Entry) (b : Board) (board : IsBoard b) (tells : TellsOf (map begun start) past b) where
  abbrev us : List Unit
  us = b.rows.items

  -- what is found is the unit's own state
  pub local_at : (a : UnitName) (o : Option Unit) → o ≡ find a us → option_map (λ (u : Unit). u.local) o ≡ local_of (start, past) a
  local_at a None e = ap (option_map (λ (st : OwnState). let l : LocalState = record { unit = a; own = st } in l)) (sym (none_at rows (firsts start) past us b.events b.index (managed_of b) tells.agrees a (sym e)))
  local_at a (Some u) e =
      let row = row_at rows (firsts start) past us b.events b.index (managed_of b) tells.agrees a u (sym e) in
      ap (λ (n : UnitName). let l : LocalState = record { unit = n; own = u.local.own } in Some l) row.0.unit
      ∙ ap (option_map (λ (st : OwnState). let l : LocalState = record { unit = a; own = st } in l)) (sym row.1)

  -- the contamination in what is found is the unit's
  pub contamination_at : (a : UnitName) (o : Option Unit) → o ≡ find a us → option_map (λ (u : Unit). u.local.own.contamination) o ≡ contamination_in (start, past) a
  contamination_at a None e = ap (option_map (λ (st : OwnState). st.contamination)) (sym (none_at rows (firsts start) past us b.events b.index (managed_of b) tells.agrees a (sym e)))
  contamination_at a (Some u) e =
      let row = row_at rows (firsts start) past us b.events b.index (managed_of b) tells.agrees a u (sym e) in
      ap (option_map (λ (st : OwnState). st.contamination)) (sym row.1)

  -- what is left in a unit's row is left to the unit
  pub due_at : (a : UnitName) (u : Unit) → find a us ≡ Some u → not (is_nil u.line.left) ≡ has_delivery_in (start, past) a
  due_at a u e =
      let row = row_at rows (firsts start) past us b.events b.index (managed_of b) tells.agrees a u e in
      ap (λ (ds : List Given). not (is_nil ds)) row.0.left
      ∙ ap (λ (o : Option OwnState). is_due o (deliveries rows (firsts start) past a)) (sym row.1)

  -- nothing is left to who has no row
  pub due_none : (a : UnitName) → find a us ≡ None → false ≡ has_delivery_in (start, past) a
  due_none a e = ap (λ (o : Option OwnState). is_due o (deliveries rows (firsts start) past a)) (sym (none_at rows (firsts start) past us b.events b.index (managed_of b) tells.agrees a e))

  -- as many are left to a unit as in its row
  pub left_at : (a : UnitName) (u : Unit) → find a us ≡ Some u → length u.line.left ≡ left_in (start, past) a
  left_at a u e =
      let row = row_at rows (firsts start) past us b.events b.index (managed_of b) tells.agrees a u e in
      ap length row.0.left
      ∙ ap (λ (o : Option OwnState). number_left o (deliveries rows (firsts start) past a)) (sym row.1)

  pub left_none : (a : UnitName) → find a us ≡ None → 0 ≡ left_in (start, past) a
  left_none a e = ap (λ (o : Option OwnState). number_left o (deliveries rows (firsts start) past a)) (sym (none_at rows (firsts start) past us b.events b.index (managed_of b) tells.agrees a e))

  module _ (order : IsAscending unit_cmp (names_in b.roll.seats)) where
    -- the names of the seats are those of the units that exist, in their order
    pub roll_of : IsRoll (start, past) (names_in b.roll.seats)
    roll_of = record { order = order; units = λ n. named_at rows (firsts start) past us b.events b.index (managed_of b) tells.agrees n b.roll.seats board.roll }

    -- and there is no other such list
    pub roll_is : (names : List UnitName) → IsRoll (start, past) names → names_in b.roll.seats ≡ names
    roll_is names roll = same_elements unit_cmp unit_cmp_exact (names_in b.roll.seats) names order roll.order (λ n. named_at rows (firsts start) past us b.events b.index (managed_of b) tells.agrees n b.roll.seats board.roll ∙ sym (roll.units n))
