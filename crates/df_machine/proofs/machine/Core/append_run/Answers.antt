use Rattle.std.proofs.Common.{◌≡◌, ◌+◌, ◌≤◌, List, ◌++◌, map, reverse, sym, subst, ◌∙◌, arith, vec_len, vec_capacity}
use Rattle.df_start.specs.Begun.{begun}
use Rattle.df_tables.specs.Board.{TellsOf}
use Rattle.df_unit.specs.declared.entry.Entry.{Entry}
use Rattle.df_machine.proofs.Booking.{IsBegun, begun_by, may_swap, tells_run}
use Rattle.df_machine.proofs.Journal.{appended_ok, journal_on}
use Rattle.df_machine.proofs.machine.Core.append_run.Goals as goal

pub swap-requires-clause-reads : goal.swap-requires-clause-reads
swap-requires-clause-reads c =
    let start = c.self.inside.start in
    let past = reverse c.self.inside.journal.items in
    let b = c.self.inside.tables.board in
    let p = c.args.parts.now in
    let present = c.in-Some.present in
    let current = rw (← c.self.view_is) at c.requires.current in
    let begins : IsBegun start past b p.base present p.entries.items =
    begun_by start past b p present c.self.invariant.board c.self.invariant.tells current c.requires.run (sym c.in-Some.ensures.value) in
    may_swap start past b p.base present p.entries.items begins

pub invariant_of-self-2 : goal.invariant_of-self-2
invariant_of-self-2 c =
    let start = c.self.inside.start in
    let past = reverse c.self.inside.journal.items in
    let b = c.self.inside.tables.board in
    let p = c.args.parts.now in
    let present = c.in-Some.present in
    let current = rw (← c.self.view_is) at c.requires.current in
    let begins : IsBegun start past b p.base present p.entries.items =
    begun_by start past b p present c.self.invariant.board c.self.invariant.tells current c.requires.run (sym c.in-Some.ensures.value) in
    let js = c.reserve.new.self in
    let room : vec_len js + vec_len p.entries ≤ vec_capacity js = omega (arith, c.len.ensures, p.entries.ok.0, c.in_ok-reserve.ensures.ok) in
    let ended : reverse c.append-done.new.self.items ≡ reverse p.entries.items ++ past =
    journal_on c.self.inside.journal.items js.items c.append-done.new.self.items p.entries.items
    c.reserve.ensures.items
    (c.append-done.ensures.items ∙ appended_ok c.append-done.result (js.items ++ p.entries.items) js.items
    (c.append-done.ensures.succeeds room)) in record {
      board = c.swap.ensures.board;
      tells = subst (λ (j : List Entry). TellsOf (map begun start) j c.swap.new.self) (sym ended)
          (tells_run start past b p.base present p.entries.items begins c.swap.new.self c.swap.result c.swap.ensures.swapped c.swap.ensures.before);
    }
