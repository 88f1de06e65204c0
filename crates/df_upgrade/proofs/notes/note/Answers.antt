use Rattle.std.proofs.Common.{List, reverse, sym, subst}
use Rattle.df_machine.specs.Journal.{firsts}
use Rattle.df_rules.specs.Legal.{Legal}
use Rattle.df_rules.specs.Start.{rows}
use Rattle.df_unit.specs.declared.entry.Entry.{Entry}
use Rattle.df_check.proofs.Judged.{legal_not_wrong}
use Rattle.df_upgrade.proofs.notes.note.Goals as goal

pub unreachable-requires : goal.unreachable-requires
unreachable-requires c =
    let start = c.args.start.now in
    let wrong = rw c.in-Wrong.is at c.in_ok-notes.ensures in
    let legal = subst (λ (es : List Entry). Legal rows (firsts start) (reverse es)) (sym c.in_ok-entries.ensures) c.requires in
    legal_not_wrong start c.in_ok-entries.entries.items c.in-Wrong.place c.in-Wrong.expected legal wrong
