use Rattle.std.proofs.Common.{◌≡◌, ◌∙◌, ap, sym, arith, drop, length}
use Rattle.df_frozen.specs.code.Copying.{first}
use Rattle.df_frozen.specs.Entries.{values}
use Rattle.df_frozen.specs.Value.{plain}
use Rattle.df_frozen.proofs.Copies.{first-seen, first-read, values-named}
use Rattle.df_frozen.proofs.copy.Layer.next.Goals as goal

pub returns-in-Items : goal.returns-in-Items
returns-in-Items c =
    let n : c.len.result ≡ length c.in-Items.made.items = grind (arith, c.len.ensures, c.in-Items.made.ok) in
    rw c.in-Items.is (first-read c.as_slice.result.now c.len.result c.get.result c.get.ensures.lookup ∙ ap (λ l. first (drop c.len.result l)) c.as_slice.ensures ∙ ap (λ k. first (drop k c.in-Items.from.now)) n)

pub returns-in-Some : goal.returns-in-Some
returns-in-Some c =
    let n : c.len-in-Map.result ≡ length c.in-Map.made.items = grind (arith, c.len-in-Map.ensures, c.in-Map.made.ok) in
    let es = c.as_slice-in-Map.result.now in
    let at = c.in-Some.ensures.lookup in
    let seen = first-seen (λ x. plain x.1) es c.len-in-Map.result c.in-Some.entry.now at.3.0 (at.3.1 c.in-Some.entry.now) in
    rw c.in-Map.is (sym seen ∙ ap (λ l. first (drop c.len-in-Map.result l)) (sym (values-named es) ∙ ap values c.as_slice-in-Map.ensures.value) ∙ ap (λ k. first (drop k (values c.in-Map.from.now))) n)
