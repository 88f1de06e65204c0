use Rattle.df_roll.proofs.Names.{◌≤◌, vec_len}
use Rattle.df_roll.proofs.chunks.stock.Given as goal

abbrev pub invariant-loop : goal.invariant-loop
invariant-loop l = l.counter ≤ vec_len l.spare
