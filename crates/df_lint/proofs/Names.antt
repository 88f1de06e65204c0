-- The names that most proofs here cite, passed on from one place. Declares nothing.
pub use Rattle.df_family.proofs.BoundJournal.{never}
pub use Rattle.df_family.specs.Family.{begins_with, names, root_names}
pub use Rattle.df_family.specs.May.{IsClosed, IsLeast, MayHold, Relation, can_write}
pub use Rattle.df_label.proofs.PrivilegeFacts.{privilege_eq-Decides}
pub use Rattle.df_label.proofs.TagSetFacts.{contains-union, contains-with, tag_cmp_exact, tag_eq-exact, tag_eq-itself}
pub use Rattle.df_label.specs.Ascending.{IsAscending, IsBelow}
pub use Rattle.df_label.specs.Privilege.{privilege_eq, right_cmp}
pub use Rattle.df_label.specs.Tag.{maker_of, tag_cmp, tag_eq}
pub use Rattle.df_label.specs.TagSet.{contains, union, with}
pub use Rattle.df_label.specs.declared.label.Label.{Label}
pub use Rattle.df_label.specs.declared.privilege.Privilege.{Privilege}
pub use Rattle.df_label.specs.declared.privilege.Right.{Right}
pub use Rattle.df_label.specs.declared.privilege.Right.TheVariants.{Minus, MinusAuth, Plus, PlusAuth}
pub use Rattle.df_lint.specs.LintText.{IsLintText, lint_line, lint_lines, tag_lines}
pub use Rattle.df_lint.specs.Tags.{AreTagsOf}
pub use Rattle.df_lint.specs.code.Cells.{Grows, IsRow, attaches, blank, cell_at, cells_at, gives, has, is_bar, no_bar, pass_row, passed, pick, row_of}
pub use Rattle.df_lint.specs.code.First.{first_cell, first_cells, first_has}
pub use Rattle.df_lint.specs.code.Passing.{Gains, IsPassedOn, row_can_write, row_passes, row_reaches}
pub use Rattle.df_lint.specs.code.Rows.{IsFirstRow, IsGivenBy, IsTable, Settles, found, row_at, rows_of}
pub use Rattle.df_lint.specs.code.Spread.{AreWithin, Extends, HasRows, IsSeen, IsSeenBy, IsSettled, IsSpread, PassesOn, lacks, missing, work}
pub use Rattle.df_lint.specs.declared.cell.Cell.{Cell}
pub use Rattle.df_priv.specs.Needed.{auth_of, needed, needed_to_attach}
pub use Rattle.df_priv.specs.declared.need.Act.TheVariants.{Add, Del}
pub use Rattle.df_rules.specs.Always.{Roots}
pub use Rattle.df_start.specs.Begun.{begun}
pub use Rattle.df_start.specs.declared.start.RootStart.{RootStart}
pub use Rattle.std.proofs.Common.{Bool, Err, List, Option, Some, [], ap, append_assoc, arith, cond, false, get_or, inl, inr, length, map, not, option_to_list, refl, subst, suc, sym, take, true, zero, ℕ, ◌&&◌, ◌++◌, ◌+◌, ◌<◌, ◌==◌, ◌||◌, ◌∙◌, ◌∷◌, ◌≡◌, ◌≢◌, ◌≤◌, ◌⊎◌}
pub use Rattle.std.proofs.lemmas.Bool.{and_from, and_parts, eqb-false, eqb-true, or_cases, or_left, or_parts, or_right}
pub use Rattle.std.proofs.lemmas.List.{append-nil, get_or-set_other, length-append, length-map, length-set, take_all, take_more}
pub use Rattle.std.proofs.lemmas.List.Elements.{Contains-append_left, Contains-push, Contains-push_cases}
pub use Rattle.std.specs.List.{Contains, filter, flat_map, list_all, list_any}
pub use Rattle.std.specs.Ordering.{is_eq, ordering_then}
pub use Rattle.std.specs.Prelude.{slice_get, slice_index_or, slice_set}
pub use Rattle.std.specs.declared.cmp.Ordering.{Ordering}
pub use Rattle.std.specs.declared.cmp.Ordering.TheVariants.{Equal, Greater, Less}
pub use borrow.Author.Count.{below_more}
