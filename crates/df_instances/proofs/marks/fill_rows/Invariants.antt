use Rattle.std.proofs.Common.{◌≡◌, ◌+◌, ◌-◌, ℕ}
use Rattle.std.specs.Prelude.{vec_len, vec_capacity}
use Rattle.df_instances.specs.Marks.{handed_at}
use Rattle.df_instances.proofs.marks.fill_rows.Given as goal

abbrev pub invariant-rows : goal.invariant-rows
invariant-rows l = record {
  same : (e : ℕ) → handed_at l.handed.items e ≡ handed_at l.initial.handed.items e;
  capacity : vec_capacity l.handed ≡ vec_capacity l.initial.handed;
}

abbrev pub decreases-rows : goal.decreases-rows
decreases-rows l = (l.event + 1) - vec_len l.handed
