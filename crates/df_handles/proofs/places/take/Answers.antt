use Rattle.df_handles.proofs.Names.{Option, Handle, set, ap, sym, ◌∙◌, arith, length-map, map-set, on_ok_weaker, on_err_weaker, shown, all_shown}
use Rattle.df_handles.specs.Commits.{committed}
use Rattle.df_handles.proofs.OpenHandles.{none_behind}
use Rattle.df_handles.proofs.Slots.{kept_shown}
use Rattle.df_handles.proofs.places.take.Goals as goal

pub returns-then-place-len-clause-closed : goal.returns-then-place-len-clause-closed
returns-then-place-len-clause-closed c =
    on_ok_weaker c.take.result
    (λ closed. map-set shown c.args.slots.now.items c.args.h c.take.new.self ∙ ap (set (all_shown c.args.slots.now.items) c.args.h) closed)
    c.take.ensures.closed

pub returns-then-place-len-clause-unchanged : goal.returns-then-place-len-clause-unchanged
returns-then-place-len-clause-unchanged c =
    on_err_weaker c.take.result (kept_shown c.args.slots.now.items c.args.h c.index_mut.result.now c.take.new.self c.index_mut.ensures.value) c.take.ensures.unchanged

pub returns-clause-effect : goal.returns-clause-effect
returns-clause-effect c =
    let slots = c.args.slots.now.items in
    sym (ap (λ (d : Option Handle). committed c.args.output.now d c.args.to.now) (none_behind (all_shown slots) c.args.h (omega (arith, length-map slots shown))))
