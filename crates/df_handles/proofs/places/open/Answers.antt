use Rattle.df_handles.proofs.Names.{◌≡◌, ap, ◌∙◌, arith, least_free, all_shown}
use Rattle.df_handles.proofs.Slots.{opened_shown, opened_pushed}
use Rattle.df_handles.proofs.places.open.Goals as goal

pub returns-then-h-len-clause-ok : goal.returns-then-h-len-clause-ok
returns-then-h-len-clause-ok c =
    let e : c.least_free-h.result ≡ least_free (all_shown c.args.slots.now.items) = c.least_free-h.ensures.least ∙ ap (λ slots. least_free (all_shown slots)) c.as_slice.ensures.value in
    opened_shown c.args.slots.now.items c.least_free-h.result c.hold.new.self c.args.handle e (omega arith) c.hold.ensures

pub returns-clause-ok : goal.returns-clause-ok
returns-clause-ok c =
    let e : c.least_free-h.result ≡ least_free (all_shown c.args.slots.now.items) = c.least_free-h.ensures.least ∙ ap (λ slots. least_free (all_shown slots)) c.as_slice.ensures.value in
    ap all_shown c.in_ok-push.ensures.items ∙ opened_pushed c.args.slots.now.items c.of.result c.args.handle (omega (arith, e)) c.of.ensures
