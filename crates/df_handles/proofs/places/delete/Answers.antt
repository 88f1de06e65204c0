use Rattle.df_handles.proofs.Names.{arith, on_ok_weaker, on_err_weaker, deleted_in}
use Rattle.df_handles.proofs.Slots.{kept_shown, changed_shown}
use Rattle.df_handles.proofs.places.delete.Goals as goal

pub returns-then-place-len-clause-ok : goal.returns-then-place-len-clause-ok
returns-then-place-len-clause-ok c =
    on_ok_weaker c.delete.result
    (changed_shown c.args.slots.now.items c.args.h c.index_mut.result.now c.delete.new.self (deleted_in c.args.spot) (omega arith) c.index_mut.ensures.value)
    c.delete.ensures.ok

pub returns-then-place-len-clause-unchanged : goal.returns-then-place-len-clause-unchanged
returns-then-place-len-clause-unchanged c =
    on_err_weaker c.delete.result (kept_shown c.args.slots.now.items c.args.h c.index_mut.result.now c.delete.new.self c.index_mut.ensures.value) c.delete.ensures.unchanged
