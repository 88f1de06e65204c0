-- The names that most proofs here cite, passed on from one place. Declares nothing.
pub use Rattle.df_filter.specs.declared.clause.Clause.{Clause}
pub use Rattle.df_index.specs.Due.{IsDue, Pair, adds_readable, has_pair, is_due, is_due_at, pair_cmp}
pub use Rattle.df_index.specs.IndexState.{IsReceiver, handed_at}
pub use Rattle.df_index.specs.declared.subscription.Subscription.{Subscription}
pub use Rattle.df_instances.specs.Chosen.{AreChosen, instance_cmp}
pub use Rattle.df_instances.specs.Marks.{MarksState, has_place, is_ready}
pub use Rattle.df_instances.specs.Named.{AreNumbered, has_name, is_named_at, is_of, kept_in}
pub use Rattle.df_instances.specs.declared.instances.Instance.{Instance}
pub use Rattle.df_instances.specs.declared.subscription.ManagedSubscription.{ManagedSubscription}
pub use Rattle.df_label.specs.Ascending.{IsAscending, IsBelow, contains_by}
pub use Rattle.df_label.specs.Tag.{maker_of, number_of}
pub use Rattle.df_label.specs.declared.label.Label.{Label}
pub use Rattle.df_label.specs.declared.privilege.Privilege.{Privilege}
pub use Rattle.df_local.specs.Births.{record_of}
pub use Rattle.df_local.specs.Brief.{MakesBriefly, accepted_reply, brief_call}
pub use Rattle.df_local.specs.Locally.{IsMadeAlone, counted, is_alone, row_answer, with_own}
pub use Rattle.df_local.specs.code.LocalState.{LocalState}
pub use Rattle.df_local.specs.declared.answer.Answer.{Answer}
pub use Rattle.df_memory.specs.declared.NoMemory.{NoMemory}
pub use Rattle.df_part.specs.Contents.{apply, spared}
pub use Rattle.df_part.specs.Part.{cut, readable}
pub use Rattle.df_part.specs.declared.edit.Spot.{Spot}
pub use Rattle.df_part.specs.declared.part.Part.{Part}
pub use Rattle.df_roll.specs.Roll.{RollState, names_in, seat_of}
pub use Rattle.df_roll.specs.declared.seat.Seat.{Seat}
pub use Rattle.df_rules.proofs.Agreement.{born_none, or_none}
pub use Rattle.df_rules.proofs.TakingRows.{row_taking_laws}
pub use Rattle.df_rules.specs.Choices.{matches}
pub use Rattle.df_rules.specs.Commits.{commit_in, commit_of, committed, contents}
pub use Rattle.df_rules.specs.Deliveries.{deliveries, deliveries_instance, deliveries_plain, instance_news, offer, plain_news, was_handed}
pub use Rattle.df_rules.specs.Laws.{TakingLaws}
pub use Rattle.df_rules.specs.Legal.{IsRight, Legal, answer, answer_of, left}
pub use Rattle.df_rules.specs.Own.{born, exists, fixed, fixed_by, is_given, made_by, own, own_instance, own_plain, root_at, stepped}
pub use Rattle.df_rules.specs.Rules.{Rules}
pub use Rattle.df_rules.specs.Start.{root_of, roots, rows}
pub use Rattle.df_rules.specs.Subscriptions.{ComesBefore, subscribed_by, subscriptions}
pub use Rattle.df_tables.specs.Agree.{Agrees, AreApart, AreWithin, FilterIndex, IsRow, IsSeat, IsWhole, MakesNoManaged, MakesNoUnit, ManagedState, enrols, is_marked, is_told, subscribed_at, subscriptions_at}
pub use Rattle.df_tables.specs.Births.{IsEnrolled, IsNewborn, all_new, child_row, if_new, instance_row, rows_in}
pub use Rattle.df_tables.specs.Board.{AreMarked, AreReceivers, HasRoom, IsBoard, IsBooked, IsChildBoard, IsEmitted, IsHandedBoard, IsKept, IsMade, IsMarkedBoard, IsMovedBoard, IsOpenedBoard, IsReady, IsRenewed, IsRollOf, IsShutBoard, MakesAlone, MakesClosing, TakesClosed, TellsOf, answer_from, answer_on, is_brought, managed_by, managed_of, place_on, receivers_by, receivers_of, row_by, row_on}
pub use Rattle.df_tables.specs.Calls.{AreCalled, birth_of, births_by, name_at, names_at, pair_at, pair_of, pairs_by, places_by, places_from}
pub use Rattle.df_tables.specs.EventPlaces.{Near, Others, Strays, key_by, key_of, numbers_cmp, place_at, root_number, same_key, slot, slot_in}
pub use Rattle.df_tables.specs.Events.{IsOpened, IsPlaced, blank, event_place, place_by, root_event}
pub use Rattle.df_tables.specs.Hand.{IsAnsweredAt, IsCalm, IsClosedAt, IsGiven, IsGivenAt, IsMadeAt, IsNews, TellsAt, each, given_to, modify, news_at, pairs_of, quiet_row, settled_row, shut_row, shut_where, staged_row, with_news}
pub use Rattle.df_tables.specs.Labels.{AreLabels, inputs}
pub use Rattle.df_tables.specs.Line.{LineState, settled}
pub use Rattle.df_tables.specs.Moves.{IsAnswered, child_by, closed_by, is_in_out, managed_sub_by}
pub use Rattle.df_tables.specs.Runs.{IsSwapped, ReadsAs}
pub use Rattle.df_tables.specs.Table.{IsInOrder, find, first_row, moved_at, moved_row, names_of, parts_of, place_of, rows_from, taken}
pub use Rattle.df_tables.specs.declared.births.Newborn.{Newborn}
pub use Rattle.df_tables.specs.declared.board.Board.{Board}
pub use Rattle.df_tables.specs.declared.commits.Ready.{Ready}
pub use Rattle.df_tables.specs.declared.event_places.Key.{Key}
pub use Rattle.df_tables.specs.declared.events.EventRow.{EventRow}
pub use Rattle.df_tables.specs.declared.units.Unit.{Unit}
pub use Rattle.df_unit.proofs.SameFacts.{same_event_decides, same_name-exact, same_name_decides}
pub use Rattle.df_unit.specs.Beginnings.{child, fixed_of, fixes, readable_at}
pub use Rattle.df_unit.specs.Name.{same, same_event}
pub use Rattle.df_unit.specs.OwnState.{Fixed, OwnState}
pub use Rattle.df_unit.specs.Rows.{after, changed, first_given, handed, is_accepted, is_instance, is_nil, reply, subscribes}
pub use Rattle.df_unit.specs.UnitOrder.{unit_cmp}
pub use Rattle.df_unit.specs.UnitOrderLaws.{unit_cmp_ties, unit_cmp_total}
pub use Rattle.df_unit.specs.declared.call.Call.{Call}
pub use Rattle.df_unit.specs.declared.call.Call.TheVariants.{ChangeInOut, Get, Instantiate, Publish, Subscribe, SubscribeManaged}
pub use Rattle.df_unit.specs.declared.commit.Commit.{Commit}
pub use Rattle.df_unit.specs.declared.commit.Given.{Given}
pub use Rattle.df_unit.specs.declared.entry.Effect.{Effect}
pub use Rattle.df_unit.specs.declared.entry.Entry.{Entry}
pub use Rattle.df_unit.specs.declared.entry.Entry.TheVariants.{Done, Emitted}
pub use Rattle.df_unit.specs.declared.name.EventName.{EventName}
pub use Rattle.df_unit.specs.declared.name.UnitName.{UnitName}
pub use Rattle.df_unit.specs.declared.name.UnitName.TheVariants.{Managed, Root}
pub use Rattle.df_unit.specs.declared.reply.Reply.{Reply}
pub use Rattle.df_unit.specs.declared.reply.Reply.TheVariants.{Sub}
pub use Rattle.std.proofs.Common.{All, Bool, Err, IfOk, List, None, Ok, OnErr, Option, Result, Some, [], add-one, ap, append_assoc, arith, drop, eq-eqb, false, get_or, if◌then◌else◌, inl, inr, is_some, length, length-append, map, nat_eq, not, option_map, refl, set, slice_get, subst, suc, sym, take, true, zero, ℕ, ◌&&◌, ◌++◌, ◌+◌, ◌-◌, ◌<◌, ◌==◌, ◌||◌, ◌↔◌, ◌∙◌, ◌∷◌, ◌≡◌, ◌≤◌}
pub use Rattle.std.proofs.Math.Bool.{and-false, and-true, not-not, or-false, or-true}
pub use Rattle.std.proofs.Math.Seq.{drop-nil, get_or-append_seam, take-append_seam}
pub use Rattle.std.proofs.lemmas.Bool.{and_from, and_left, and_parts, and_right, both_ways, eqb-false, eqb-true, false_from_ne_true, le-ltb, lt-ltb, ltb-false, ne_eqb, or_from, or_right}
pub use Rattle.std.proofs.lemmas.List.{append-nil, at_drop_all, drop-append-le, drop_all, flat_map_more, get_or-map, get_or_append_left, get_or_default, get_or_past, length-map, length-set, map-append, same_lists, set-append_left, set-get_or, take_all, take_more, with_items_is}
pub use Rattle.std.proofs.lemmas.List.Elements.{All-append, All-cons, All-from_recursion, All-head, All-nil, All-push, All-tail, filter-append}
pub use Rattle.std.proofs.lemmas.List.Folds.{Any-from_list_any, find_at, list_any-append, list_any_at, list_any_none}
pub use Rattle.std.proofs.lemmas.Option.{get_or_from_slice_get, same_Some, slice_get-get_or, slice_get-map, slice_get_past, slice_get_read, slice_get_within}
pub use Rattle.std.proofs.lemmas.Result.{IfOk-weaker, on_err_weaker, on_ok_weaker}
pub use Rattle.std.proofs.lemmas.Slice.Eq.{bytes_eq-Decides}
pub use Rattle.std.specs.Cmp.{both_tied, nat_cmp_is, nat_cmp_total, tied_itself, unsigned_ties}
pub use Rattle.std.specs.Cmp.Lexicographic.{pointwise}
pub use Rattle.std.specs.Global.{Vec}
pub use Rattle.std.specs.List.{AllByRecursion, AllPairs, Contains, filter, flat_map, list_any, position_or_len}
pub use Rattle.std.specs.List.Sorted.{IsStrictlySortedBy}
pub use Rattle.std.specs.Option.{option_and_then, option_or}
pub use Rattle.std.specs.Ordering.{is_eq, nat_cmp, ordering_then}
pub use Rattle.std.specs.Prelude.{IfSome, OnOk, is_none, nat_le, nat_lt, option_to_list, vec_len, ⊤}
pub use Rattle.std.specs.Vec.{with_items}
pub use Rattle.std.specs.Vec.Iter.{into_iter_items, into_iter_len}
pub use Rattle.std.specs.declared.cmp.Ordering.{Ordering}
pub use Rattle.std.specs.declared.cmp.Ordering.TheVariants.{Equal, Greater, Less}
