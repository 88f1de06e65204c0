use Rattle.std.proofs.Common.{◌≡◌, ◌++◌, List, length}
use Rattle.df_unit.specs.declared.entry.Entry.{Entry}
use Rattle.df_upgrade.proofs.Kept.{IsSoFar}
use Rattle.df_upgrade.proofs.notes.judge_and_note.Given as goal

abbrev pub invariant-entries : goal.invariant-entries
invariant-entries l = (done : List Entry) × IsSoFar l.fn.start done l.tables l.notes.items
    × (done ++ l.left.items ≡ l.fn.journal.items)

abbrev pub decreases-entries : goal.decreases-entries
decreases-entries l = length l.left.items
