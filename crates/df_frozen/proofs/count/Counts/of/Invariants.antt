use Rattle.std.proofs.Common.{◌≡◌, ◌+◌, ◌<◌, ◌^◌, max}
use Rattle.df_frozen.specs.Plain.{node_count, byte_count, depth}
use Rattle.df_frozen.specs.code.Counting.{rows_of, rows_node_count, rows_byte_count, rows_depth, rows_steps}
use Rattle.df_frozen.specs.Limits.{counted}
use Rattle.df_frozen.specs.Value.{plain}
use Rattle.df_frozen.proofs.count.Counts.of.Given as goal

abbrev pub invariant-loop-values : goal.invariant-loop-values
invariant-loop-values l = record {
  nodes : counted (l.counts.nodes + rows_node_count (rows_of l.rows.items)) ≡ counted (node_count (plain l.value));
  bytes : counted (l.counts.bytes + rows_byte_count (rows_of l.rows.items)) ≡ counted (byte_count (plain l.value));
  depth : counted (max l.counts.depth (rows_depth (rows_of l.rows.items))) ≡ counted (depth (plain l.value));
  node_fits : l.counts.nodes < 2 ^ 64;
  byte_fits : l.counts.bytes < 2 ^ 64;
  depth_fits : l.counts.depth < 2 ^ 64;
}

abbrev pub decreases-loop-values : goal.decreases-loop-values
decreases-loop-values l = rows_steps (rows_of l.rows.items)
