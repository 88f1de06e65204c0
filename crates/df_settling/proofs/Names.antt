-- The names that most proofs here cite, passed on from one place. Declares nothing.
pub use Rattle.df_book.specs.Submitting.{Picked, Submitted, behind_one, best, better_of, if_left, is_better, lesser, matched, meets, met, rested, resting_after, submitted}
pub use Rattle.df_book.specs.declared.order.Order.{Order}
pub use Rattle.df_book.specs.declared.trade.Trade.{Trade}
pub use Rattle.df_config.specs.ConfigForm.{IsConfig, IsPair, IsTrader}
pub use Rattle.df_config.specs.declared.config.Config.{Config}
pub use Rattle.df_config.specs.declared.pair.PairRow.{PairRow}
pub use Rattle.df_config.specs.declared.trader.TraderRow.{TraderRow}
pub use Rattle.df_filter.specs.declared.clause.Clause.{Clause}
pub use Rattle.df_floor.specs.Brains.{floor_brains}
pub use Rattle.df_floor.specs.Starting.{floor_start, monitor_root, plain_root, releasing_root, trader_root}
pub use Rattle.df_floor_units.specs.Broking.{number_of, order_of, submitted_to, takes, trade_event, trade_parts}
pub use Rattle.df_floor_units.specs.Floor.{Goes, Mind, adding, adds, begins, calls, did, follow_of, handed, is_release, is_subscription, moved, opened_next, reading, reads, told, wanted_at}
pub use Rattle.df_floor_units.specs.Hearing.{acted_heard, acted_kind, first_of, heard_match, heard_of, heard_offer, heard_parties, heard_quote, heard_signal, heard_trade, quote_in, reads_of, signal_at}
pub use Rattle.df_floor_units.specs.Opening.{broker_opening, monitor_opening, opening, present, regulator_opening, release_of, trader_opening, watcher_opening}
pub use Rattle.df_floor_units.specs.Telling.{broker_parts, parts_of, passed_heard, passed_kind, passed_place, tick_parts}
pub use Rattle.df_floor_units.specs.declared.heard.Heard.{Heard}
pub use Rattle.df_floor_units.specs.declared.kind.Kind.{Kind}
pub use Rattle.df_floor_units.specs.declared.stage.Stage.{Stage}
pub use Rattle.df_label.specs.Tag.{maker_of, tag_eq}
pub use Rattle.df_label.specs.declared.label.Label.{Label}
pub use Rattle.df_messages.specs.Drafts.{broker_tag, endorsed, exchange_tag, floor_tag, match_draft, offer_draft, public, regulator_tag, secret, tick_draft, trader_tag, warning_draft}
pub use Rattle.df_messages.specs.Messages.{match_in, number_in, offer_in, parties_in}
pub use Rattle.df_messages.specs.declared.draft.Draft.{Draft}
pub use Rattle.df_messages.specs.declared.message.Match.{Match}
pub use Rattle.df_messages.specs.declared.message.Offer.{Offer}
pub use Rattle.df_part.specs.Contents.{apply, spared}
pub use Rattle.df_part.specs.Part.{cut}
pub use Rattle.df_part.specs.declared.edit.Spot.{Spot}
pub use Rattle.df_part.specs.declared.part.Part.{Part}
pub use Rattle.df_rules.specs.Choices.{gives, matches, serves}
pub use Rattle.df_rules.specs.Commits.{commit_in, commit_of, committed, contents, given_in}
pub use Rattle.df_rules.specs.Deliveries.{deliveries, deliveries_instance, deliveries_plain, instance_news, offer, plain_news, was_handed}
pub use Rattle.df_rules.specs.Follows.{Calls, Follows, IsWanted, Replied, Start, Wait, Want, began_with, has_entry, last_of, replies_of, state_after, wanted}
pub use Rattle.df_rules.specs.Legal.{IsUnaided, Legal, answer, answer_of, left}
pub use Rattle.df_rules.specs.Own.{born, fixed, is_given, made_by, own, own_instance, own_plain, root_at, stepped}
pub use Rattle.df_rules.specs.Start.{root_of, roots, rows}
pub use Rattle.df_rules.specs.Subscriptions.{subscriptions}
pub use Rattle.df_settling.specs.Counts.{IsOfFloor, KeepCounts, entries_of, fill_count, handed_to, instance_name, match_count, orders_resting, root_name, trader_entries, trades_made}
pub use Rattle.df_settling.specs.Running.{asked, asked_of, run_of, with_get, with_want}
pub use Rattle.df_settling.specs.Settling.{IsFloorJournal, first_states, floor_brain, monitor_count, settling_bound}
pub use Rattle.df_settling.specs.Trades.{first_broker, if_taken, offer_shown, orders_taken, trade_count}
pub use Rattle.df_start.specs.Begun.{begun}
pub use Rattle.df_start.specs.declared.start.RootStart.{RootStart}
pub use Rattle.df_ticks.specs.declared.tick.Tick.{Tick}
pub use Rattle.df_unit.proofs.SameFacts.{same_name-exact, same_name_decides}
pub use Rattle.df_unit.specs.Drafts.{new_part, raised, relabel, relabelled, shown, visible_named}
pub use Rattle.df_unit.specs.Handles.{changed_at, draft_of, handle_at, is_full, least_free, opened, replaced, view_of}
pub use Rattle.df_unit.specs.Limits.{most_numbers, most_parts, most_subs}
pub use Rattle.df_unit.specs.Name.{same, same_event}
pub use Rattle.df_unit.specs.OwnState.{Fixed, OwnState}
pub use Rattle.df_unit.specs.Rows.{after, at_handle, effect, first_given, half_changed, is_accepted, is_instance, is_nil, published, reply, subscribed, subscribes}
pub use Rattle.df_unit.specs.declared.call.Call.{Call}
pub use Rattle.df_unit.specs.declared.call.Call.TheVariants.{AddPart, ChangeOutLabel, CreateEvent, DropEvent, Get, Publish, ReadPart, Subscribe, SubscribeManaged}
pub use Rattle.df_unit.specs.declared.commit.Commit.{Commit}
pub use Rattle.df_unit.specs.declared.commit.Given.{Given}
pub use Rattle.df_unit.specs.declared.entry.Effect.{Effect}
pub use Rattle.df_unit.specs.declared.entry.Entry.{Entry}
pub use Rattle.df_unit.specs.declared.entry.Entry.TheVariants.{Done, Emitted}
pub use Rattle.df_unit.specs.declared.handle.Handle.{Handle}
pub use Rattle.df_unit.specs.declared.name.EventName.{EventName}
pub use Rattle.df_unit.specs.declared.name.UnitName.{UnitName}
pub use Rattle.df_unit.specs.declared.name.UnitName.TheVariants.{Managed, Root}
pub use Rattle.df_unit.specs.declared.parts.PartRead.{PartRead}
pub use Rattle.df_unit.specs.declared.reply.Reply.{Reply}
pub use Rattle.std.proofs.Common.{Bool, List, None, Option, Some, [], add-mul, add-one, add_comm, ap, append-nil, append_assoc, arith, codes, cond, drop, eq-eqb, eqb-true, false, fold, get_or, inl, inr, is_some, length, length-append, length-take-le, lt-ltb, ltb-false, ltb-true, map, mul-le-mul_right, ne_eqb, not, pos, refl, subst, suc, suc-mul, sym, take, true, true≢false, zero, ℕ, ℤ, ◌&&◌, ◌*◌, ◌++◌, ◌+◌, ◌-◌, ◌<◌, ◌||◌, ◌∙◌, ◌∷◌, ◌≡◌, ◌≢◌, ◌≤◌, ◌⊎◌}
pub use Rattle.std.proofs.lemmas.List.{length-map, map-append}
pub use Rattle.std.proofs.lemmas.Option.{slice_get-get_or, slice_get-map, slice_get_within}
pub use Rattle.std.specs.List.{filter, flat_map, list_all, list_any}
pub use Rattle.std.specs.Option.{option_and_then, option_map, option_or}
pub use Rattle.std.specs.Prelude.{All, int_lt, nat_le, nat_lt, option_to_list, slice_get, slice_set, ◌-ℤ◌, ◌==◌}
