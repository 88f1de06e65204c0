use Rattle.df_handles.proofs.Names.{arith, on_ok_weaker, on_err_weaker, attached_in, spot}
use Rattle.df_handles.proofs.Slots.{kept_shown, changed_shown}
use Rattle.df_handles.proofs.places.attach.Goals as goal

pub returns-then-place-len-clause-ok : goal.returns-then-place-len-clause-ok
returns-then-place-len-clause-ok c =
    on_ok_weaker c.attach.result
    (changed_shown c.args.slots.now.items c.args.h c.index_mut.result.now c.attach.new.self (attached_in (spot c.args.name.now c.args.label.now) c.args.p.now) (omega arith) c.index_mut.ensures.value)
    c.attach.ensures.ok

pub returns-then-place-len-clause-unchanged : goal.returns-then-place-len-clause-unchanged
returns-then-place-len-clause-unchanged c =
    on_err_weaker c.attach.result (kept_shown c.args.slots.now.items c.args.h c.index_mut.result.now c.attach.new.self c.index_mut.ensures.value) c.attach.ensures.unchanged
