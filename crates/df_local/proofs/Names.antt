-- The names that most proofs here cite, passed on from one place. Declares nothing.
pub use Rattle.df_handles.specs.Visible.{named_in}
pub use Rattle.df_label.specs.Label.{join}
pub use Rattle.df_label.specs.declared.label.Label.{Label}
pub use Rattle.df_local.specs.Births.{IsAccounted, record_of}
pub use Rattle.df_local.specs.Locally.{with_own}
pub use Rattle.df_local.specs.code.LocalState.{LocalState}
pub use Rattle.df_local.specs.code.Shown.{brought, holding, privileges_of}
pub use Rattle.df_unit.proofs.KeptRows.{accounted_as, kept_in_out, kept_out, kept_root}
pub use Rattle.df_unit.specs.Beginnings.{begin, beginning, fixed_of, readable_at, root}
pub use Rattle.df_unit.specs.KeptFact.{IsKept}
pub use Rattle.df_unit.specs.OwnState.{Fixed, OwnState}
pub use Rattle.df_unit.specs.Rows.{after, at_handle, changed, found, is_accepted, is_nil, out_changed, reply}
pub use Rattle.df_unit.specs.declared.call.Call.{Call}
pub use Rattle.df_unit.specs.declared.entry.Effect.{Effect}
pub use Rattle.df_unit.specs.declared.reply.Reply.{Reply}
pub use Rattle.std.proofs.Common.{List, None, OnOk, Option, Some, [], ap, inl, inr, length, refl, subst, sym, take, true, ℕ, ◌++◌, ◌∙◌, ◌∷◌, ◌≡◌}
