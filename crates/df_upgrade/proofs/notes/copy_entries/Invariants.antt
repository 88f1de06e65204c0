use Rattle.std.proofs.Common.{◌≡◌, take}
use Rattle.df_upgrade.proofs.notes.copy_entries.Given as goal

-- copied so far
abbrev pub invariant-loop-kept : goal.invariant-loop-kept
invariant-loop-kept l = l.copies.items ≡ take l.kept-index l.journal
