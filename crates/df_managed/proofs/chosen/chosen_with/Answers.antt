use Rattle.df_managed.proofs.Choosing.{goes_on}
use Rattle.df_managed.proofs.chosen.chosen_with.Goals as goal

pub returns-clause-goes_on : goal.returns-clause-goes_on
returns-clause-goes_on c rest t =
    let is_stale = rw (c.as_slice.ensures.value, c.as_slice-2.ensures.value) at c.in_ok-stale.ensures in
    let is_fresh = rw (c.as_slice-3.ensures.value, c.as_slice-4.ensures.value) at c.in_ok-fresh.ensures.same in
    goes_on c.args.clause.now rest c.args.integrity.now t c.args.old.now c.args.added.now c.args.chosen.now.stale.items c.args.chosen.now.fresh.items _ _ _ _
    c.in_ok-kept.ensures c.in_ok-new.ensures is_stale is_fresh
