use Rattle.df_handles.proofs.Names.{◌≡◌, ap, ◌∙◌, true, arith, length-map, on_ok_weaker, least_free, all_shown, begun, shown}
use Rattle.df_handles.proofs.OpenHandles.{opened_end}
use Rattle.df_handles.proofs.Slots.{opened_shown}
use Rattle.df_handles.proofs.places.begin_view.Goals as goal

pub returns-then-h-len-clause-ok : goal.returns-then-h-len-clause-ok
returns-then-h-len-clause-ok c =
    let e : c.least_free-h.result ≡ least_free (all_shown c.args.slots.now.items) = c.least_free-h.ensures.least ∙ ap (λ slots. least_free (all_shown slots)) c.as_slice.ensures.value in
    opened_shown c.args.slots.now.items c.least_free-h.result c.begin_view.new.self (begun true c.args.event c.args.seen) e (omega arith) c.begin_view.ensures

pub returns-clause-ok : goal.returns-clause-ok
returns-clause-ok c =
    let old = all_shown c.args.slots.now.items in
    let e : c.least_free-h.result ≡ least_free old = c.least_free-h.ensures.least ∙ ap (λ slots. least_free (all_shown slots)) c.as_slice.ensures.value in
    let full = opened_end (begun true c.args.event c.args.seen) old (omega (arith, e, length-map c.args.slots.now.items shown)) in
    on_ok_weaker c.push_begun.result (λ is. is ∙ full) c.push_begun.ensures.ok
