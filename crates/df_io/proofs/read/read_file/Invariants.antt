use Rattle.std.proofs.Common.{ℕ, length, ◌+◌, ◌-◌, ◌≡◌, ◌≤◌, List, take}
use Rattle.std.specs.Prelude.{IfSome}
use Rattle.df_io.specs.Limits.{longest_file}
use Rattle.df_io.proofs.read.read_file.Given as goal

abbrev pub invariant-loop-count : goal.invariant-loop-count
invariant-loop-count g l = record {
  within : l.bytes.len ≤ longest_file;
  read : IfSome (g.F.Shelf.bytes l.initial.shelf l.name) (λ bs. (l.bytes.items ≡ take l.bytes.len bs) × (l.bytes.len ≤ length bs));
  same : (n : List ℕ) → g.F.Shelf.bytes l.shelf n ≡ g.F.Shelf.bytes l.initial.shelf n;
  never_falls : g.F.Shelf.faults l.initial.shelf ≤ g.F.Shelf.faults l.shelf;
}

abbrev pub decreases-loop-count : goal.decreases-loop-count
decreases-loop-count g l = longest_file + 1 - l.bytes.len
