use Rattle.df_lint.proofs.Names.{◌≡◌, ℕ, ◌<◌, List, ◌++◌, length, ap, sym, subst, ◌∙◌, length-map, IsLeast, begun, lint_lines, AreTagsOf, cells_at, found, rows_of, Cell, Roots}
use Rattle.df_lint.proofs.CellRows.{length-rows_of}
use Rattle.df_lint.proofs.Least.{row_many}
use Rattle.df_lint.proofs.Lines.{text_of_rows}
use Rattle.df_lint.proofs.table.Lint.text.Goals as goal

pub append_rows-requires-clause-many : goal.append_rows-requires-clause-many
append_rows-requires-clause-many c =
    subst (λ (rs : List (List Cell)). (k : ℕ) → k < length rs → length (cells_at rs k) ≡ length c.as_slice.result.now) (sym c.as_slice-2.ensures.value)
    (λ k lt. row_many c.self.inside.roots.items c.self.inside.tags c.self.inside.rows.items k c.self.invariant.table lt ∙ ap length (sym c.as_slice.ensures.value))

pub returns : goal.returns
returns c =
    let rows = c.self.inside.rows.items in
    let tags = c.self.inside.tags in
    let seen_tags = c.as_slice.result.now in
    let seen_rows = c.as_slice-2.result.now in
    let table = c.self.invariant.table in
    let least : IsLeast c.args.self.now (found (rows_of tags rows)) = subst (λ (s : Roots). IsLeast s (found (rows_of tags rows))) c.self.view_is c.self.invariant.least in
    let are : AreTagsOf c.args.self.now tags = subst (λ (s : Roots). AreTagsOf s tags) c.self.view_is c.self.invariant.tags_are in
    let many : length (rows_of tags rows) ≡ length c.args.self.now = length-rows_of tags rows ∙ table.count ∙ sym (length-map c.self.inside.roots.items begun) ∙ ap length c.self.view_is in
    let lines : c.append_rows.new.to.items ≡ lint_lines (found (rows_of tags rows)) tags (length (rows_of tags rows)) =
    c.in_ok-append_rows.ensures ∙ ap (λ (t : List ℕ). t ++ lint_lines (found (rows_of seen_tags seen_rows)) seen_tags (length seen_rows)) c.new-text.ensures.items
    ∙ ap (λ (ts : List (List ℕ)). lint_lines (found (rows_of ts seen_rows)) ts (length seen_rows)) c.as_slice.ensures.value
    ∙ ap (λ (rs : List (List Cell)). lint_lines (found (rows_of tags rs)) tags (length rs)) c.as_slice-2.ensures.value
    ∙ ap (lint_lines (found (rows_of tags rows)) tags) (sym (length-rows_of tags rows)) in
    text_of_rows c.args.self.now tags (rows_of tags rows) c.append_rows.new.to.items are table.ascending least many lines
