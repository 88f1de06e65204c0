use Rattle.df_handles.proofs.Names.{◌∙◌, ap, sym, arith, is_at, Part, spot, is_visible}
use Rattle.df_handles.proofs.Views.{seen_any}
use Rattle.df_handles.proofs.edits.has_seen.Goals as goal

pub returns-then-is_at : goal.returns-then-is_at
returns-then-is_at c =
    let input = c.args.input.now in
    let named = c.args.named.now in
    let d = spot c.args.name.now c.args.label.now in
    let there = ap (λ (part : Part). is_at part d) (sym c.part.ensures) ∙ sym c.is_at.ensures ∙ c.if-is_at.true in
    let here = seen_any input named d c.args.seen.now c.loop-part.part-index c.part-item.result (omega arith) c.part-item.is there in
    c.is_visible.ensures ∙ ap (is_visible input named) c.part-then-is_at.ensures ∙ sym here
