use Rattle.df_journal_text.proofs.Names.{◌≤◌, vec_len}
use Rattle.df_journal_text.proofs.notes.reach.Given as goal

abbrev pub invariant-loop : goal.invariant-loop
invariant-loop l = l.counter ≤ vec_len l.notes
