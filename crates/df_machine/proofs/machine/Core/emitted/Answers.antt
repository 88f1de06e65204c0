use Rattle.std.proofs.Common.{List, reverse, sym, subst}
use Rattle.df_unit.specs.declared.entry.Entry.{Entry}
use Rattle.df_unit.specs.declared.entry.Entry.TheVariants.{Emitted}
use Rattle.df_machine.specs.Tables.{AgreesWith}
use Rattle.df_machine.proofs.Journal.{journal_grown}
use Rattle.df_machine.proofs.machine.Core.emitted.Goals as goal

pub invariant_of-self : goal.invariant_of-self
invariant_of-self c =
    subst (λ (j : List Entry). AgreesWith (c.self.inside.start, reverse j) c.self.inside.tables) (sym c.reserve.ensures.items) c.self.invariant

pub emitted-requires : goal.emitted-requires
emitted-requires c = ((c.self.inside.start, reverse c.self.inside.journal.items), c.self.invariant)

pub invariant_of-self-in_default-emitted : goal.invariant_of-self-in_default-emitted
invariant_of-self-in_default-emitted c =
    let past = reverse c.self.inside.journal.items in
    subst (λ (j : List Entry). AgreesWith (c.self.inside.start, reverse j) c.emitted.new.self) (sym c.reserve.ensures.items)
    (c.in_default-emitted.ensures.kept (c.self.inside.start, past) c.self.invariant)

pub invariant_of-self-2 : goal.invariant_of-self-2
invariant_of-self-2 c =
    let past = reverse c.self.inside.journal.items in
    let now = journal_grown c.self.inside.journal.items c.reserve.new.self.items c.push_reserved.new.self.items (Emitted c.args.commit) c.reserve.ensures.items
    c.push_reserved.ensures.items in
    subst (λ (j : List Entry). AgreesWith (c.self.inside.start, j) c.emitted.new.self) (sym now)
    (c.in-Ok-emitted.ensures.entry (c.self.inside.start, past) c.self.invariant)
