-- The names that most proofs here cite, passed on from one place. Declares nothing.
pub use Rattle.df_handles.specs.Visible.{is_visible, named_in}
pub use Rattle.df_handles.specs.code.Slot.{all_shown, begun, drafted_in, shown}
pub use Rattle.df_handles.specs.code.Views.{has_seen, shown_in, visible_in}
pub use Rattle.df_part.specs.Contents.{is_at, is_deleted}
pub use Rattle.df_part.specs.declared.part.Part.{Part}
pub use Rattle.df_unit.specs.Drafts.{attach, attached_in, cloned, deleted_in, has_at, relabelled, spot, visible, visible_named}
pub use Rattle.df_unit.specs.Handles.{changed_at, handle_at, least_free, open_count, opened, replaced}
pub use Rattle.df_unit.specs.declared.handle.Handle.{Handle}
pub use Rattle.std.proofs.Common.{Bool, List, None, OnOk, Option, Some, [], add-one, ap, arith, drop, drop-cons, false, get_or, length, map, not, refl, set, subst, suc, sym, take, true, zero, ℕ, ◌&&◌, ◌++◌, ◌+◌, ◌<◌, ◌||◌, ◌∙◌, ◌∷◌, ◌≡◌, ◌≤◌}
pub use Rattle.std.proofs.lemmas.List.{get_or-map, length-map, map-append, map-set}
pub use Rattle.std.proofs.lemmas.Result.{on_err_weaker, on_ok_weaker}
pub use Rattle.std.specs.List.{filter, list_any}
