use Rattle.df_lint.proofs.Names.{◌≡◌, ℕ, ◌<◌, List, length, map, ap, subst, sym, ◌∙◌, slice_index_or, never, IsAscending, tag_cmp, begun, RootStart, AreTagsOf, cells_at, first_cells, IsTable, rows_of, IsSpread}
use Rattle.df_lint.proofs.CellRows.{length-rows_of}
use Rattle.df_lint.proofs.Least.{first_privileges, first_table, rows_are_least}
use Rattle.df_lint.proofs.find.lint.Goals as goal

tags_kept : (roots seen : List RootStart) (tags : List (List ℕ)) → seen ≡ roots → AreTagsOf (map begun seen) tags → AreTagsOf (map begun roots) tags
tags_kept roots seen tags e are = subst (λ (rs : List RootStart). AreTagsOf (map begun rs) tags) e are

pub spread-requires : goal.spread-requires
spread-requires c =
    let roots = c.in_ok-roots.roots.items in
    let tags = c.in_ok-tags.tags in
    let first = c.in_ok-rows.rows.items in
    let are = tags_kept roots c.as_slice-2.result.now tags c.as_slice-2.ensures.value c.in_ok-tags.ensures in
    let many : length first ≡ length roots = c.in_ok-rows.ensures.count ∙ ap length c.as_slice-3.ensures.value in
    let firsts : (k : ℕ) (d : RootStart) → k < length roots → cells_at first k ≡ first_cells tags k (slice_index_or roots k d) =
    subst (λ (rs : List RootStart). (k : ℕ) (d : RootStart) → k < length rs → cells_at first k ≡ first_cells tags k (slice_index_or rs k d)) c.as_slice-3.ensures.value c.in_ok-rows.ensures.rows in
    let up : IsAscending tag_cmp tags = c.as_slice-5.ensures.ascending in
    subst (λ (ts : List (List ℕ)). IsTable c.as_slice-4.result.now ts first) (sym c.as_slice-5.ensures.value)
    (subst (λ (rs : List RootStart). IsTable rs tags first) (sym c.as_slice-4.ensures.value) (first_table roots tags first are up many firsts))

pub new-requires : goal.new-requires
new-requires c =
    let roots = c.in_ok-roots.roots.items in
    let tags = c.in_ok-tags.tags in
    let first = c.in_ok-rows.rows.items in
    let rows = c.spread.new.rows.items in
    let are = tags_kept roots c.as_slice-2.result.now tags c.as_slice-2.ensures.value c.in_ok-tags.ensures in
    let many : length first ≡ length roots = c.in_ok-rows.ensures.count ∙ ap length c.as_slice-3.ensures.value in
    let firsts : (k : ℕ) (d : RootStart) → k < length roots → cells_at first k ≡ first_cells tags k (slice_index_or roots k d) =
    subst (λ (rs : List RootStart). (k : ℕ) (d : RootStart) → k < length rs → cells_at first k ≡ first_cells tags k (slice_index_or rs k d)) c.as_slice-3.ensures.value c.in_ok-rows.ensures.rows in
    let up : IsAscending tag_cmp tags = c.as_slice-5.ensures.ascending in
    let spread : IsSpread roots (rows_of tags first) (rows_of tags rows) = subst (λ (ts : List (List ℕ)). IsSpread roots (rows_of ts first) (rows_of ts rows)) c.as_slice-5.ensures.value
    (subst (λ (rs : List RootStart). IsSpread rs (rows_of c.as_slice-5.result.now first) (rows_of c.as_slice-5.result.now rows)) c.as_slice-4.ensures.value c.in_ok-spread.ensures.spread) in
    let table : IsTable roots tags rows = subst (λ (ts : List (List ℕ)). IsTable roots ts rows) c.as_slice-5.ensures.value
    (subst (λ (rs : List RootStart). IsTable rs c.as_slice-5.result.now rows) c.as_slice-4.ensures.value c.in_ok-spread.ensures.table) in
    record {
      table = table;
      tags_are = are;
      least = rows_are_least roots tags (rows_of tags first) (rows_of tags rows) are (length-rows_of tags first ∙ many) (first_privileges roots tags first are up many firsts) spread;
    }

pub returns-clause-never : goal.returns-clause-never
returns-clause-never c = never c.new.result
