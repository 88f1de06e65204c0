-- The names that most proofs here cite, passed on from one place. Declares nothing.
pub use Rattle.df_family.specs.Family.{begins_with, is_of, names, root_names}
pub use Rattle.df_family.specs.May.{IsClosed, MayHold, Relation, can_reach, can_write}
pub use Rattle.df_filter.specs.declared.clause.Clause.{Clause}
pub use Rattle.df_label.specs.Label.{flows_to}
pub use Rattle.df_label.specs.Privilege.{privilege_eq}
pub use Rattle.df_label.specs.Tag.{maker_of, number_of, tag_eq}
pub use Rattle.df_label.specs.TagSet.{contains, meet}
pub use Rattle.df_label.specs.declared.label.Label.{Label}
pub use Rattle.df_label.specs.declared.privilege.Privilege.{Privilege}
pub use Rattle.df_part.specs.Contents.{apply, is_at, is_deleted, spared}
pub use Rattle.df_part.specs.declared.part.Part.{Part}
pub use Rattle.df_priv.specs.Held.{grant, grant_all, holds}
pub use Rattle.df_priv.specs.Needed.{needed, needed_to_attach}
pub use Rattle.df_priv.specs.declared.need.Act.TheVariants.{Add, Del}
pub use Rattle.df_rules.specs.Always.{Roots}
pub use Rattle.df_rules.specs.Start.{root_of, roots, rows}
pub use Rattle.df_unit.specs.Beginnings.{begin, child, fixed_of, readable_at}
pub use Rattle.df_unit.specs.Handles.{draft_of, handle_at, opened, replaced, view_of}
pub use Rattle.df_unit.specs.OwnState.{Fixed, OwnState}
pub use Rattle.df_unit.specs.Rows.{after, at_handle, changed, effect, first_given, found, half_changed, is_accepted, is_instance, is_nil, lacking_authority, lacking_tag, next_event, next_tag, path_of, published, released, reply, sources, taken_in, unless_lacking, where_held}
pub use Rattle.df_unit.specs.declared.call.Call.{Call}
pub use Rattle.df_unit.specs.declared.call.Call.TheVariants.{AddPart, AttachPrivilege, ChangeInOut, ChangeOutLabel, CloneEvent, CreateEvent, CreateTag, DelPart, DropEvent, Get, Instantiate, Publish, ReadPart, Release, Subscribe, SubscribeManaged}
pub use Rattle.df_unit.specs.declared.commit.Given.{Given}
pub use Rattle.df_unit.specs.declared.entry.Effect.{Effect}
pub use Rattle.df_unit.specs.declared.handle.Handle.{Handle}
pub use Rattle.df_unit.specs.declared.name.UnitName.{UnitName}
pub use Rattle.df_unit.specs.declared.reply.Reply.{Reply}
pub use Rattle.std.proofs.Common.{Bool, List, None, Option, Some, [], ap, arith, cond, false, inl, inr, length, not, refl, subst, suc, sym, take, true, zero, ℕ, ◌&&◌, ◌++◌, ◌-◌, ◌||◌, ◌∙◌, ◌∷◌, ◌≡◌, ◌⊎◌}
pub use Rattle.std.proofs.lemmas.Bool.{and_from, and_parts, eq-eqb, eqb-true, or_cases, or_left, or_right}
pub use Rattle.std.specs.List.{filter, flat_map, list_all, list_any}
pub use Rattle.std.specs.Option.{option_and_then, option_map, option_or}
pub use Rattle.std.specs.Prelude.{drop, is_some, map, nat_le, slice_get, slice_set, ⊤}
