use Rattle.std.proofs.Common.{◌≡◌, ◌+◌, ◌≤◌, List, ◌∷◌, ◌++◌, map, reverse, ap, sym, subst, ◌∙◌, arith, vec_len, vec_capacity}
use Rattle.df_local_run.specs.code.Parts.{present_of, state_of}
use Rattle.df_start.specs.Begun.{begun}
use Rattle.df_tables.specs.Board.{TellsOf}
use Rattle.df_unit.specs.declared.entry.Effect.{Effect}
use Rattle.df_unit.specs.declared.entry.Entry.{Entry}
use Rattle.df_unit.specs.declared.entry.Entry.TheVariants.{Done}
use Rattle.df_unit.specs.declared.name.UnitName.{UnitName}
use Rattle.df_unit.specs.declared.reply.Reply.{Reply}
use Rattle.df_machine.specs.Booking.{with_run}
use Rattle.df_machine.specs.Journal.{State, answer_in, appended}
use Rattle.df_machine.proofs.Booking.{IsBegun, answers_run, begun_by, had_present, leads_still, may_swap, may_swap_back, tells_before, tells_run}
use Rattle.df_machine.proofs.Journal.{appended_ok, journal_then}
use Rattle.df_machine.proofs.machine.Core.book_parts.Goals as goal
use Rattle.df_machine.proofs.machine.Core.book_parts.Goals.{After-unwrap-present}

-- the run before it is booked
begins : (c : After-unwrap-present) → IsBegun c.self.inside.start (reverse c.self.inside.journal.items) c.self.inside.tables.board
    c.args.parts.now.base c.unwrap-present.result c.args.parts.now.entries.items
begins c =
    let current = rw (← c.self.view_is) at c.requires.current in
    begun_by c.self.inside.start (reverse c.self.inside.journal.items) c.self.inside.tables.board c.args.parts.now c.unwrap-present.result
    c.self.invariant.board c.self.invariant.tells current c.requires.run (sym c.take.ensures.value ∙ c.unwrap-present.ensures)

pub swap-before-requires-clause-reads : goal.swap-before-requires-clause-reads
swap-before-requires-clause-reads c = may_swap _ _ _ _ _ _ (begins (goal.at.swap-before-requires-clause-reads c).After-unwrap-present)

pub swap-requires-clause-reads : goal.swap-requires-clause-reads
swap-requires-clause-reads c =
    may_swap_back _ _ _ _ _ _ (begins (goal.at.swap-requires-clause-reads c).After-unwrap-present)
    c.swap-before.new.self c.swap-before.result c.swap-before.ensures.swapped c.swap-before.ensures.before
    c.take_in.new.board c.take_in.ensures.board c.in_default-take_in.ensures.told

pub invariant_of-self-in_default-take_in : goal.invariant_of-self-in_default-take_in
invariant_of-self-in_default-take_in c = record {
  board = c.swap.ensures.board;
  tells = subst (λ (j : List Entry). TellsOf (map begun c.self.inside.start) (reverse j) c.swap.new.self) (sym c.make_room.ensures.journal)
      (tells_before _ _ _ _ _ _ (begins (goal.at.invariant_of-self-in_default-take_in c).After-unwrap-present)
      c.swap-before.new.self c.swap-before.result c.swap-before.ensures.swapped c.swap-before.ensures.before
      c.take_in.new.board c.take_in.ensures.board c.in_default-take_in.ensures.told
      c.swap.new.self c.swap.result c.swap.ensures.swapped c.swap.ensures.before);
}

pub returns-in_default-take_in-clause-run : goal.returns-in_default-take_in-clause-run
returns-in_default-take_in-clause-run c = record {
  run = leads_still _ _ _ _ _ _ (begins (goal.at.returns-in_default-take_in-clause-run c).After-unwrap-present)
      c.swap-before.new.self c.swap-before.result c.swap-before.ensures.swapped c.swap-before.ensures.before
      c.take_in.new.board c.take_in.ensures.board c.in_default-take_in.ensures.told
      c.swap.new.self c.swap.result c.swap.ensures.swapped c.swap.ensures.before;
  copied = λ e. absurd (let z : ⊥ = cc in z);
}

pub returns-in_default-take_in-clause-state : goal.returns-in_default-take_in-clause-state
returns-in_default-take_in-clause-state c =
    let p = c.args.parts.now in
    let again = had_present _ _ _ _ _ _ (begins (goal.at.returns-in_default-take_in-clause-state c).After-unwrap-present)
    c.swap-before.new.self c.swap-before.result c.swap-before.ensures.swapped c.swap-before.ensures.before
    c.take_in.new.board c.take_in.ensures.board c.in_default-take_in.ensures.told
    c.swap.new.self c.swap.result c.swap.ensures.swapped c.swap.ensures.before in
    let same = again ∙ ap (present_of p.base) (sym c.unwrap-present.ensures ∙ c.take.ensures.value) in
    λ i. record { base = p.base; present = same i; entries = p.entries.items }

-- the journal with the entries at its end
ended : (c : goal.After-push_reserved) → reverse c.push_reserved.new.self.items
    ≡ Done c.in-Ok.actor c.args.call c.in-Ok-take_in.taken.reply c.in-Ok-take_in.taken.effect
    ∷ (reverse c.args.parts.now.entries.items ++ reverse c.self.inside.journal.items)
ended c =
    let es = c.args.parts.now.entries in
    let js = c.make_room.new.journal in
    let room : vec_len js + vec_len es ≤ vec_capacity js = omega (arith, es.ok.0, c.in-Ok.ensures.room) in
    journal_then c.self.inside.journal.items js.items c.append-done.new.self.items c.push_reserved.new.self.items es.items
    c.in-Ok.actor c.args.call c.in-Ok-take_in.taken.reply c.in-Ok-take_in.taken.effect c.make_room.ensures.journal
    (c.append-done.ensures.items ∙ appended_ok c.append-done.result (js.items ++ es.items) js.items (c.append-done.ensures.succeeds room))
    c.push_reserved.ensures.items

pub invariant_of-self-2 : goal.invariant_of-self-2
invariant_of-self-2 c =
    let begun_here = begins (goal.at.invariant_of-self-2 c).After-unwrap-present in
    let later = reverse c.args.parts.now.entries.items ++ reverse c.self.inside.journal.items in record {
      board = c.take_in.ensures.board;
      tells = subst (λ (j : List Entry). TellsOf (map begun c.self.inside.start) j c.take_in.new.board)
          (sym (ended c))
          (c.in-Ok-take_in.ensures.booked (map begun c.self.inside.start) later (tells_run _ _ _ _ _ _ begun_here
          c.swap-before.new.self c.swap-before.result c.swap-before.ensures.swapped c.swap-before.ensures.before));
    }

-- what the tables answered is what the rules do
answered : (c : goal.After-push_reserved)
    → IsBegun c.self.inside.start (reverse c.self.inside.journal.items) c.self.inside.tables.board c.args.parts.now.base
    c.unwrap-present.result c.args.parts.now.entries.items → (let p : Reply × Effect = (c.in-Ok-take_in.taken.reply, c.in-Ok-take_in.taken.effect) in p)
    ≡ answer_in (c.self.inside.start, reverse c.args.parts.now.entries.items ++ reverse c.self.inside.journal.items) c.in-Ok.actor c.args.call
answered c begun_here =
    answers_run _ _ _ _ _ _ begun_here
    c.swap-before.new.self c.swap-before.result c.swap-before.ensures.swapped c.swap-before.ensures.before
    c.in-Ok.actor c.args.call c.in-Ok-take_in.taken.reply c.in-Ok-take_in.taken.effect c.in-Ok-take_in.ensures.answer

pub returns-clause-entries : goal.returns-clause-entries
returns-clause-entries c =
    let start = c.self.inside.start in
    let p = c.args.parts.now in
    let later : List Entry = reverse p.entries.items ++ reverse c.self.inside.journal.items in
    ap (λ (j : List Entry). let v : State = (start, j) in v) (ended c)
    ∙ ap (λ (q : Reply × Effect). let v : State = (start, Done c.in-Ok.actor c.args.call q.0 q.1 ∷ later) in v)
    (answered c (begins (goal.at.returns-clause-entries c).After-unwrap-present))
    ∙ ap (λ (n : UnitName). appended n c.args.call (start, later)) c.in-Ok.ensures.name
    ∙ ap (λ (v : State). appended p.base.unit c.args.call (with_run (state_of p) v)) c.self.view_is

pub returns-clause-reply : goal.returns-clause-reply
returns-clause-reply c =
    let p = c.args.parts.now in
    let later : List Entry = reverse p.entries.items ++ reverse c.self.inside.journal.items in
    c.in-Ok-take_in.ensures.kept
    ∙ ap (λ (q : Reply × Effect). q.0) (answered c (begins (goal.at.returns-clause-reply c).After-unwrap-present))
    ∙ ap (λ (n : UnitName). (answer_in (c.self.inside.start, later) n c.args.call).0) c.in-Ok.ensures.name
    ∙ ap (λ (v : State). (answer_in (with_run (state_of p) v) p.base.unit c.args.call).0) c.self.view_is
