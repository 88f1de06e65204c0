-- What the tables tell when a run is booked.
use Rattle.std.proofs.Common.{◌≡◌, List, ◌++◌, Option, Some, None, map, option_map, reverse, refl, ap, sym, subst, ◌∙◌}
use Rattle.df_label.specs.declared.label.Label.{Label}
use Rattle.df_label.specs.declared.privilege.Privilege.{Privilege}
use Rattle.df_local.specs.code.LocalState.{LocalState}
use Rattle.df_local_run.specs.code.Parts.{IsRun, present_of}
use Rattle.df_local_run.specs.Runs.{LeadTo}
use Rattle.df_local_run.specs.declared.parts.RunParts.{RunParts}
use Rattle.df_rules.specs.Legal.{Legal}
use Rattle.df_rules.specs.Own.{own}
use Rattle.df_rules.specs.Start.{rows}
use Rattle.df_start.specs.Begun.{begun}
use Rattle.df_start.specs.declared.start.RootStart.{RootStart}
use Rattle.df_tables.specs.Board.{IsBoard, IsKept, TellsOf, answer_on, managed_of}
use Rattle.df_tables.specs.Runs.{IsSwapped, ReadsAs}
use Rattle.df_tables.specs.Table.{find}
use Rattle.df_tables.specs.declared.board.Board.{Board}
use Rattle.df_tables.specs.declared.units.Unit.{Unit}
use Rattle.df_tables.proofs.Alike.{AreOwned, owned_back, told_alike}
use Rattle.df_tables.proofs.Booked.{answer_is}
use Rattle.df_tables.proofs.Tells.{none_at, row_at}
use Rattle.df_unit.specs.OwnState.{OwnState}
use Rattle.df_unit.specs.declared.call.Call.{Call}
use Rattle.df_unit.specs.declared.entry.Effect.{Effect}
use Rattle.df_unit.specs.declared.entry.Entry.{Entry}
use Rattle.df_unit.specs.declared.name.UnitName.{UnitName}
use Rattle.df_unit.specs.declared.reply.Reply.{Reply}
use Rattle.df_machine.specs.Journal.{answer_in, firsts, local_of}
use Rattle.df_machine.proofs.Runs.{GoesOn, run_on}
use Rattle.df_machine.proofs.Units.{local_at}

module _ (start : List RootStart) (past : List Entry) where
  -- the unit is there with the own state from which a current run began
  pub owned_as : (l : LocalState) → local_of (start, past) l.unit ≡ Some l → own rows (firsts start) past l.unit ≡ Some l.own
  owned_as l is = by (own rows (firsts start) past l.unit) is
    where
      by : (o : Option OwnState) → option_map (λ (st : OwnState). let m : LocalState = record { unit = l.unit; own = st } in m) o ≡ Some l → o ≡ Some l.own
      by None e = absurd (let z : ⊥ = cc in z)
      by (Some st) e = ap (option_map (λ (m : LocalState). m.own)) e

  -- an own state with the label of the unit's reads as the unit's row
  pub reads_as : (b : Board) (l : LocalState) (st : OwnState) → TellsOf (map begun start) past b → own rows (firsts start) past l.unit ≡ Some st → l.own.input ≡ st.input → ReadsAs l (find l.unit b.rows.items)
  reads_as b l st tells owned input = by (find l.unit b.rows.items) refl
    where
      by : (o : Option Unit) → find l.unit b.rows.items ≡ o → ReadsAs l o
      by None e =
          let gone = none_at rows (firsts start) past b.rows.items b.events b.index (managed_of b) tells.agrees l.unit e in
          absurd (let z : ⊥ = cc in z)
      by (Some u) e =
          let row = (row_at rows (firsts start) past b.rows.items b.events b.index (managed_of b) tells.agrees l.unit u e).1 in
          let is : st ≡ u.local.own = cc in
          input ∙ ap (λ (x : OwnState). x.input) is

  -- what the unit's row had is the unit's own state
  pub was_own : (b : Board) (n : UnitName) (st : OwnState) (was : LocalState) → IsBoard b → TellsOf (map begun start) past b → own rows (firsts start) past n ≡ Some st → option_map (λ (u : Unit). u.local) (find n b.rows.items) ≡ Some was →
      was ≡ (let l : LocalState = record { unit = n; own = st } in l)
  was_own b n st was board tells owned is =
      let l : LocalState = record { unit = n; own = st } in
      let both : Some was ≡ Some l = sym is ∙ local_at start past b board tells n (find n b.rows.items) refl ∙ ap (option_map (λ (x : OwnState). let m : LocalState = record { unit = n; own = x } in m)) owned in
      cc

  module _ (base present : LocalState) (later : List Entry) (on : GoesOn (map begun start) base present past later) where
    -- the present reads as the unit's row, and the unit's row had the base
    pub reads_on : (b : Board) → TellsOf (map begun start) past b → ReadsAs present (find present.unit b.rows.items)
    reads_on b tells = reads_as b present base.own tells (subst (λ (n : UnitName). own rows (firsts start) past n ≡ Some base.own) (sym on.unit) on.owned.before) on.input

    pub was_base : (b : Board) (was : LocalState) → IsBoard b → TellsOf (map begun start) past b → option_map (λ (u : Unit). u.local) (find present.unit b.rows.items) ≡ Some was → was ≡ base
    was_base b was board tells is = was_own b base.unit base.own was board tells on.owned.before (subst (λ (n : UnitName). option_map (λ (u : Unit). u.local) (find n b.rows.items) ≡ Some was) on.unit is)

    -- with the present in the unit's row the tables tell of the later journal
    pub told_on : (b b' : Board) → IsSwapped present b b' → TellsOf (map begun start) past b → TellsOf (map begun start) later b'
    told_on b b' swapped tells =
        told_alike (map begun start) past later present base.own b b' (subst (λ (u : UnitName). AreOwned rows (firsts start) u past later base.own present.own) (sym on.unit) on.owned) on.legal swapped tells

    -- and with the base in it again of the first
    pub told_back : Legal rows (firsts start) past → (b b' : Board) → IsSwapped base b b' → TellsOf (map begun start) later b → TellsOf (map begun start) past b'
    told_back legal b b' swapped tells = told_alike (map begun start) later past base present.own b b' (owned_back rows (firsts start) base.unit past later base.own present.own on.owned) legal swapped tells

-- and then the base reads as the unit's row, and the unit's row had the present
module _ (start : List RootStart) (past later : List Entry) (base present : LocalState) (on : GoesOn (map begun start) base present past later) where
  pub reads_back : (b : Board) → TellsOf (map begun start) later b → ReadsAs base (find base.unit b.rows.items)
  reads_back b tells = reads_as start later b base present.own tells on.owned.after (sym on.input)

  pub was_present : (b : Board) (was : LocalState) → IsBoard b → TellsOf (map begun start) later b → option_map (λ (u : Unit). u.local) (find base.unit b.rows.items) ≡ Some was → was ≡ present
  was_present b was board tells is =
      was_own start later b base.unit present.own was board tells on.owned.after is
      ∙ ap (λ (n : UnitName). let l : LocalState = record { unit = n; own = present.own } in l) (sym on.unit)

-- a current run before it is booked
pub record IsBegun (start : List RootStart) (past : List Entry) (b : Board) (base present : LocalState) (es : List Entry) : Type 0 where
  pub board : IsBoard b
  pub tells : TellsOf (map begun start) past b
  pub current : local_of (start, past) base.unit ≡ Some base
  pub run : LeadTo es base present

pub begun_by : (start : List RootStart) (past : List Entry) (b : Board) (p : RunParts) (present : LocalState) → IsBoard b
    → TellsOf (map begun start) past b → local_of (start, past) p.base.unit ≡ Some p.base → IsRun p → p.present ≡ Some present
    → IsBegun start past b p.base present p.entries.items
begun_by start past b p present board tells current run is = record {
  board = board;
  tells = tells;
  current = current;
  run = subst (λ (o : Option LocalState). LeadTo p.entries.items p.base (present_of p.base o)) is run.run;
}

module _ (start : List RootStart) (past : List Entry) (b : Board) (base present : LocalState) (es : List Entry) (begins : IsBegun start past b base present es) where
  abbrev starts : List (Label × List Privilege)
  starts = map begun start

  abbrev later : List Entry
  later = reverse es ++ past

  on : GoesOn starts base present past later
  on = run_on starts es base present past begins.run begins.tells.agrees.legal (owned_as start past base begins.current)

  -- the present may be put into the unit's row
  pub may_swap : ReadsAs present (find present.unit b.rows.items)
  may_swap = reads_on start past base present later on b begins.tells

  module _ (b1 : Board) (was : LocalState) (swapped : IsSwapped present b b1) (had : option_map (λ (u : Unit). u.local) (find present.unit b.rows.items) ≡ Some was) where
    pub had_base : was ≡ base
    had_base = was_base start past base present later on b was begins.board begins.tells had

    -- and then the tables tell of the run
    pub tells_run : TellsOf starts later b1
    tells_run = told_on start past base present later on b b1 swapped begins.tells

    -- so they answer behind the run as the rules do
    pub answers_run : (name : UnitName) (call : Call) (r : Reply) (f : Effect) → answer_on b1 name call ≡ (r, f) → (let p : Reply × Effect = (r, f) in p) ≡ answer_in (start, later) name call
    answers_run name call r f is = sym is ∙ answer_is starts later b1 tells_run name call

    -- where the call isn't taken in, what the row had may be put back
    module _ (b2 : Board) (board : IsBoard b2) (kept : IsKept b1 b2) where
      pub may_swap_back : ReadsAs was (find was.unit b2.rows.items)
      may_swap_back = subst (λ (l : LocalState). ReadsAs l (find l.unit b2.rows.items)) (sym had_base) (reads_back start past later base present on b2 (kept starts later tells_run))

      module _ (b3 : Board) (again : LocalState) (back : IsSwapped was b2 b3) (had_then : option_map (λ (u : Unit). u.local) (find was.unit b2.rows.items) ≡ Some again) where
        pub had_present : again ≡ present
        had_present =
            was_present start past later base present on b2 again board (kept starts later tells_run)
            (subst (λ (l : LocalState). option_map (λ (u : Unit). u.local) (find l.unit b2.rows.items) ≡ Some again) had_base had_then)

        -- and the run be put together again
        pub leads_still : LeadTo es base again
        leads_still = subst (λ (l : LocalState). LeadTo es base l) (sym had_present) begins.run

        pub tells_before : TellsOf starts past b3
        tells_before =
            told_back start past base present later on begins.tells.agrees.legal b2 b3 (subst (λ (l : LocalState). IsSwapped l b2 b3) had_base back) (kept starts later tells_run)
