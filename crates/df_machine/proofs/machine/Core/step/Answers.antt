use Rattle.std.proofs.Common.{◌≡◌, List, ◌∷◌, map, reverse, ap, sym, subst, ◌∙◌}
use Rattle.df_start.specs.Begun.{begun}
use Rattle.df_tables.specs.Board.{TellsOf}
use Rattle.df_tables.proofs.Booked.{answer_is}
use Rattle.df_unit.specs.declared.entry.Effect.{Effect}
use Rattle.df_unit.specs.declared.entry.Entry.{Entry}
use Rattle.df_unit.specs.declared.entry.Entry.TheVariants.{Done}
use Rattle.df_unit.specs.declared.reply.Reply.{Reply}
use Rattle.df_machine.specs.Journal.{State, answer_in, appended}
use Rattle.df_machine.specs.Tables.{AgreesWith}
use Rattle.df_machine.proofs.Journal.{journal_more}
use Rattle.df_machine.proofs.machine.Core.step.Goals as goal

pub invariant_of-self : goal.invariant_of-self
invariant_of-self c =
    subst (λ (j : List Entry). AgreesWith (c.self.inside.start, reverse j) c.self.inside.tables) (sym c.make_room_for.ensures.journal) c.self.invariant

pub invariant_of-self-in_default-take_in : goal.invariant_of-self-in_default-take_in
invariant_of-self-in_default-take_in c =
    let starts = map begun c.self.inside.start in
    let past = reverse c.self.inside.journal.items in record {
      board = c.take_in.ensures.board;
      tells = subst (λ (j : List Entry). TellsOf starts (reverse j) c.take_in.new.board) (sym c.make_room_for.ensures.journal) (c.in_default-take_in.ensures.told starts past c.self.invariant.tells);
    }

-- the journal with the entry at its end
now : (c : goal.After-push_reserved) → reverse c.push_reserved.new.self.items ≡ Done c.args.actor.now c.args.call c.in-Ok-take_in.taken.reply c.in-Ok-take_in.taken.effect ∷ reverse c.self.inside.journal.items
now c =
    let taken = c.in-Ok-take_in.taken in
    journal_more c.self.inside.journal.items c.make_room_for.new.journal.items c.push_reserved.new.self.items c.in-Ok.name c.args.actor.now c.args.call taken.reply taken.effect c.make_room_for.ensures.journal c.push_reserved.ensures.items c.in-Ok.ensures.name

pub invariant_of-self-2 : goal.invariant_of-self-2
invariant_of-self-2 c =
    let starts = map begun c.self.inside.start in
    let past = reverse c.self.inside.journal.items in record {
      board = c.take_in.ensures.board;
      tells = subst (λ (j : List Entry). TellsOf starts j c.take_in.new.board) (sym (now c)) (c.in-Ok-take_in.ensures.booked starts past c.self.invariant.tells);
    }

-- what the tables answered is what the rules do
answered : (c : goal.After-push_reserved) → (let p : Reply × Effect = (c.in-Ok-take_in.taken.reply, c.in-Ok-take_in.taken.effect) in p) ≡ answer_in (c.self.inside.start, reverse c.self.inside.journal.items) c.args.actor.now c.args.call
answered c =
    sym c.in-Ok-take_in.ensures.answer
    ∙ answer_is (map begun c.self.inside.start) (reverse c.self.inside.journal.items) c.self.inside.tables.board c.self.invariant.tells c.args.actor.now c.args.call

pub returns-clause-entry : goal.returns-clause-entry
returns-clause-entry c =
    let past = reverse c.self.inside.journal.items in
    ap (λ (j : List Entry). let v : State = (c.self.inside.start, j) in v) (now c)
    ∙ ap (λ (q : Reply × Effect). let v : State = (c.self.inside.start, Done c.args.actor.now c.args.call q.0 q.1 ∷ past) in v) (answered c)
    ∙ ap (appended c.args.actor.now c.args.call) c.self.view_is

pub returns-clause-reply : goal.returns-clause-reply
returns-clause-reply c =
    c.in-Ok-take_in.ensures.kept
    ∙ ap (λ (q : Reply × Effect). q.0) (answered c)
    ∙ ap (λ (v : State). (answer_in v c.args.actor.now c.args.call).0) c.self.view_is
