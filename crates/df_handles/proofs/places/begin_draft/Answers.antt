use Rattle.df_handles.proofs.Names.{◌≡◌, ap, ◌∙◌, [], false, arith, length-map, on_err_weaker, on_ok_weaker, least_free, all_shown, begun, shown}
use Rattle.df_handles.specs.code.Slot.{event_of}
use Rattle.df_handles.proofs.OpenHandles.{opened_end}
use Rattle.df_handles.proofs.Slots.{kept_shown, opened_shown}
use Rattle.df_handles.proofs.places.begin_draft.Goals as goal

pub returns-then-h-len-clause-ok : goal.returns-then-h-len-clause-ok
returns-then-h-len-clause-ok c =
    let slots = c.args.slots.now.items in
    let e : c.least_free-h.result ≡ least_free (all_shown slots) = c.least_free-h.ensures.least ∙ ap (λ slots. least_free (all_shown slots)) c.as_slice.ensures.value in
    let draft = begun false (event_of c.args.unit.now c.args.number) [] in
    on_ok_weaker c.begin_draft.result (λ is. opened_shown slots c.least_free-h.result c.begin_draft.new.self draft e (omega arith) is) c.begin_draft.ensures.ok

pub returns-then-h-len-clause-unchanged : goal.returns-then-h-len-clause-unchanged
returns-then-h-len-clause-unchanged c =
    on_err_weaker c.begin_draft.result (λ is. kept_shown c.args.slots.now.items c.least_free-h.result c.index_mut.result.now c.begin_draft.new.self c.index_mut.ensures.value is) c.begin_draft.ensures.unchanged

pub returns-clause-ok : goal.returns-clause-ok
returns-clause-ok c =
    let old = all_shown c.args.slots.now.items in
    let e : c.least_free-h.result ≡ least_free old = c.least_free-h.ensures.least ∙ ap (λ slots. least_free (all_shown slots)) c.as_slice.ensures.value in
    let draft = begun false (event_of c.args.unit.now c.args.number) [] in
    let full = opened_end draft old (omega (arith, e, length-map c.args.slots.now.items shown)) in
    on_ok_weaker c.push_draft.result (λ is. is ∙ full) c.push_draft.ensures.ok
