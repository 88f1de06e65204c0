use Rattle.df_local.proofs.Names.{accounted_as, kept_root, root}
use Rattle.df_local.proofs.local.Local.of_root.Goals as goal

pub begun-requires : goal.begun-requires
begun-requires c =
    let label = c.args.label in
    let reading = c.in_ok-reading.ensures in
    let writing = c.at-writing.ensures in
    accounted_as (root label c.args.privileges) _ _ _ _ _ (kept_root label c.args.privileges) reading.input writing.output reading.contamination writing.dropped writing.endorsed
