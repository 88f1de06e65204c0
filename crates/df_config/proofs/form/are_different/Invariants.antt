use Rattle.std.proofs.Common.{◌≡◌, drop}
use Rattle.df_config.specs.ConfigForm.{are_different}
use Rattle.df_config.proofs.form.are_different.Given as goal

abbrev pub invariant-loop-i : goal.invariant-loop-i
invariant-loop-i l = are_different (drop l.i l.numbers) ≡ are_different l.numbers
