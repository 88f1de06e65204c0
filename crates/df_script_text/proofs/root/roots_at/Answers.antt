use Rattle.df_script_text.proofs.Names.{◌≡◌, length, arith}
use Rattle.df_script_text.proofs.Stops.{roots_more}
use Rattle.df_script_text.proofs.root.roots_at.Goals as goal

pub roots-preserved : goal.roots-preserved
roots-preserved c =
    let count : c.len.result ≡ length c.roots.roots.items = omega (arith, c.len.ensures, c.roots.roots.ok.0) in
    roots_more _ _ _ _ _ _ _ _ count c.roots.invariant (rw c.in-Some.is at c.in_ok-root.ensures.read) c.in_ok-push.ensures.items
