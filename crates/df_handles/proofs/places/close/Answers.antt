use Rattle.df_handles.proofs.Names.{set, ap, ◌∙◌, map-set, shown, all_shown}
use Rattle.df_handles.proofs.places.close.Goals as goal

pub returns-then-place-len : goal.returns-then-place-len
returns-then-place-len c =
    map-set shown c.args.slots.now.items c.args.h c.close.new.self ∙ ap (set (all_shown c.args.slots.now.items) c.args.h) c.close.ensures
