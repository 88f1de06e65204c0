use Rattle.df_journal_file.proofs.Names.{map, ◌≡◌}
use Rattle.df_journal_file.proofs.file.entries_of.Given as goal

-- the entries so far
abbrev pub invariant-noted : goal.invariant-noted
invariant-noted l = l.entries.items ≡ map (λ n. n.entry) l.yielded
