-- The names that most proofs here cite, passed on from one place. Declares nothing.
pub use Rattle.df_filter.specs.declared.clause.Clause.{Clause}
pub use Rattle.df_frozen.specs.Plain.{Plain, entries, entry, int, no_entries, words}
pub use Rattle.df_label.proofs.LabelFacts.{flows_to-from_parts, flows_to-join_left, flows_to-join_right, flows_to-parts, flows_to-refl, flows_to-trans, label_eq-Decides}
pub use Rattle.df_label.proofs.TagSetFacts.{contains-included, is_subset-refl, is_subset-trans, is_subset-union_left, is_subset-union_right, is_subset-with, meet-is_subset_right, tag_set_eq-Decides}
pub use Rattle.df_label.specs.Label.{flows_to, label_eq}
pub use Rattle.df_label.specs.Tag.{maker_of, number_of}
pub use Rattle.df_label.specs.TagSet.{contains, is_subset, meet, tag_set_eq, union, with}
pub use Rattle.df_label.specs.declared.label.Label.{Label}
pub use Rattle.df_label.specs.declared.privilege.Privilege.{Privilege}
pub use Rattle.df_part.specs.Contents.{apply, is_at, is_deleted, spared}
pub use Rattle.df_part.specs.Part.{cut}
pub use Rattle.df_part.specs.declared.edit.Spot.{Spot}
pub use Rattle.df_part.specs.declared.part.Part.{Part}
pub use Rattle.df_priv.specs.Held.{grant, grant_all, holds}
pub use Rattle.df_priv.specs.declared.need.Act.{Act}
pub use Rattle.df_priv.specs.declared.need.Act.TheVariants.{Add, Del}
pub use Rattle.df_priv.specs.declared.need.Half.{Half}
pub use Rattle.df_rules.specs.Choices.{fits, gives, matches, serves}
pub use Rattle.df_rules.specs.Commits.{commit_in, commit_of, committed, contents, cut_commit, cut_spots, given_in}
pub use Rattle.df_rules.specs.Deliveries.{deliveries, deliveries_instance, deliveries_plain, instance_news, offer, plain_news, was_handed}
pub use Rattle.df_rules.specs.Exercised.{ChangesBy, HasOwnChange, HasPlainChange, IsExercised, IsMaking, before_fixed}
pub use Rattle.df_rules.specs.Laws.{IsChange, Laws, ReleaseLaws, TakingLaws}
pub use Rattle.df_rules.specs.Legal.{IsRight, IsUnaided, Legal, answer, answer_of, answered, calls_of, left, run}
pub use Rattle.df_rules.specs.Own.{born, fixed, fixed_by, is_given, made_by, own, own_instance, own_plain, root_at, stepped}
pub use Rattle.df_rules.specs.Purge.{Keeps, echo, emitted, is_within, left_of, purge, stays}
pub use Rattle.df_rules.specs.Received.{Receives, received}
pub use Rattle.df_rules.specs.Rules.{Rules}
pub use Rattle.df_rules.specs.Start.{root_of, roots, rows}
pub use Rattle.df_rules.specs.Subscriptions.{ComesBefore, subscribed_by, subscriptions}
pub use Rattle.df_unit.proofs.SameFacts.{same_event_decides, same_name-exact}
pub use Rattle.df_unit.specs.Beginnings.{begin, child, child_input, child_secrets, fixed_of, fixes, makes, readable_at}
pub use Rattle.df_unit.specs.Drafts.{raised, relabelled}
pub use Rattle.df_unit.specs.Handles.{handle_at, is_full, least_free}
pub use Rattle.df_unit.specs.KeptFact.{IsKept}
pub use Rattle.df_unit.specs.Name.{same, same_event}
pub use Rattle.df_unit.specs.OwnState.{Fixed, OwnState}
pub use Rattle.df_unit.specs.Rows.{after, at_handle, changed, effect, first_given, found, half_changed, handed, is_accepted, is_instance, is_nil, next_tag, now_dropped, now_endorsed, published, refused_write, released, reply, subscribes, taken_in, unwritable, where_held}
pub use Rattle.df_unit.specs.declared.call.Call.{Call}
pub use Rattle.df_unit.specs.declared.call.Call.TheVariants.{AddPart, AttachPrivilege, ChangeInOut, ChangeOutLabel, CloneEvent, CreateEvent, CreateTag, DelPart, Get, Instantiate, Publish, ReadPart, Release, Subscribe, SubscribeManaged}
pub use Rattle.df_unit.specs.declared.commit.Commit.{Commit}
pub use Rattle.df_unit.specs.declared.commit.Given.{Given}
pub use Rattle.df_unit.specs.declared.entry.Effect.{Effect}
pub use Rattle.df_unit.specs.declared.entry.Entry.{Entry}
pub use Rattle.df_unit.specs.declared.entry.Entry.TheVariants.{Done, Emitted}
pub use Rattle.df_unit.specs.declared.handle.Handle.{Handle}
pub use Rattle.df_unit.specs.declared.name.EventName.{EventName}
pub use Rattle.df_unit.specs.declared.name.UnitName.{UnitName}
pub use Rattle.df_unit.specs.declared.name.UnitName.TheVariants.{Managed, Root}
pub use Rattle.df_unit.specs.declared.reply.Reply.{Reply}
pub use Rattle.std.proofs.Common.{All, Bool, List, None, Option, Some, [], ap, arith, codes, cond, false, inl, inr, not, pos, refl, subst, suc, sym, true, zero, ℕ, ◌&&◌, ◌++◌, ◌+◌, ◌<◌, ◌||◌, ◌∙◌, ◌∷◌, ◌≡◌, ◌≤◌, ◌⊎◌}
pub use Rattle.std.proofs.lemmas.Bool.{and_from, and_parts, and_right, eq-eqb, eqb-true, or_cases, or_from, or_left, or_right}
pub use Rattle.std.proofs.lemmas.List.{append-nil, append_assoc, length-append, reverse-append, reverse-reverse}
pub use Rattle.std.proofs.lemmas.List.Elements.{Contains-append_cases, Contains-append_left, Contains-append_right, Contains-push, Contains-push_cases, filter-append}
pub use Rattle.std.proofs.lemmas.List.Folds.{list_any-append}
pub use Rattle.std.specs.List.{AllPairs, Contains, filter, flat_map, list_all, list_any}
pub use Rattle.std.specs.Option.{option_and_then, option_map, option_or}
pub use Rattle.std.specs.Prelude.{drop, is_some, length, option_to_list, replicate, reverse, slice_get, ⊤, ◌==◌, ◌≢◌}
