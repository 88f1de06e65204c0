use Rattle.df_handles.proofs.Names.{◌∙◌, ap, sym, is_at, length, Part, spot, is_visible}
use Rattle.df_handles.proofs.Views.{seen_any}
use Rattle.df_handles.proofs.edits.has_next_or_other.Goals as goal

pub returns-in-Some : goal.returns-in-Some
returns-in-Some c =
    let input = c.args.input.now in
    let named = c.args.named.now in
    let d = spot c.args.name.now c.args.label.now in
    let there = ap (λ (part : Part). is_at part d) (sym c.part.ensures) ∙ sym c.is_at.ensures ∙ c.if-is_at.true in
    let found = rw c.in-Some.is at c.get.ensures.lookup in
    let next = seen_any input named d c.args.seen.now (length named) c.in-Some.next.now found.3.0 found.1 there in
    c.is_visible.ensures ∙ ap (is_visible input named) c.part-in-Some.ensures ∙ sym next
