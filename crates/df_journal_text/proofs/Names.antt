-- The names that most proofs here cite, passed on from one place. Declares nothing.
pub use Rattle.df_filter_text.specs.Filter.{filter_text}
pub use Rattle.df_filter_text.specs.Fits.{IsFilter}
pub use Rattle.df_filter_text.specs.ReadFilter.{filter_at}
pub use Rattle.df_format.proofs.Backs.{Back, all_back}
pub use Rattle.df_format.proofs.Laws.{failed_is, bind_ok, not_both, ok_is, told}
pub use Rattle.df_format.proofs.Several.{Several, all_none, all_step, all_stop}
pub use Rattle.df_format.proofs.Texts.{text_again, text_found}
pub use Rattle.df_format.proofs.Tokens.{nowhere, nowhere_is_local}
pub use Rattle.df_format.specs.Reading.{Bad, Low, Read, Stop, all_at, as_at, behind_at, closed_at, maybe_at, text_at, then_at, while_at, with_front, ◌>>=◌}
pub use Rattle.df_frozen.specs.Name.{is_name}
pub use Rattle.df_frozen.specs.Plain.{Plain}
pub use Rattle.df_journal_text.specs.Call.{act_text, call_words, half_text}
pub use Rattle.df_journal_text.specs.Entry.{call_line, edit_text, effect_text, entry_text, given_text, note_text, noted_text, part_line, read_line, reads_text, spot_line}
pub use Rattle.df_journal_text.specs.Fits.{ArePrivileges, IsAnswer, IsBare, IsCall, IsCalled, IsCommit, IsEdit, IsEffectOf, IsEntry, IsEvent, IsJournal, IsNoteOf, IsNoted, IsPart, IsPartRead, IsReply, IsRoot, IsSpot, IsUnit}
pub use Rattle.df_journal_text.specs.Large.{IsLargeCall, IsLargeWord, IsTooLarge}
pub use Rattle.df_journal_text.specs.Line.{line, spaced, word}
pub use Rattle.df_journal_text.specs.Name.{event_text, unit_text}
pub use Rattle.df_journal_text.specs.ReadCall.{act_at, add_of, added_at, braced_at, call_at, change_at, half_at, last_kinds, named_kinds, plain_kinds, spot_at}
pub use Rattle.df_journal_text.specs.ReadEntry.{EndsJournal, IsUnmarked, all_marked_at, begins_entry, call_line_at, commit_at, deleted_at, done_at, done_of, edit_at, effect_at, journal_at, marked_at, note_at, noted_at, part_at, part_read_at, shown_at}
pub use Rattle.df_journal_text.specs.ReadName.{event_at, instance_at, unit_at, unit_of}
pub use Rattle.df_journal_text.specs.ReadReply.{last_replies, long_at, refusing_replies, reply_at, reply_kinds}
pub use Rattle.df_journal_text.specs.ReadWords.{ascend, ascending, bare_at, begins_pair, each_privilege_at, keyed, kinds_at, line_at, named_at, privileges_at, word_at}
pub use Rattle.df_journal_text.specs.Reply.{reply_words}
pub use Rattle.df_journal_text.specs.Start.{journal_text, root_line, roots_text, start_text}
pub use Rattle.df_journal_text.specs.code.Judging.{BeginsWith, EndsCall, IsNoLine, IsStopped, IsUnspelled, IsWhole, Tells, TellsLine, answer_at, behind_add, call_text, ended, line_fault, reply_text, value_fault}
pub use Rattle.df_journal_text.specs.code.KnownLabel.{IsKnown}
pub use Rattle.df_journal_text.specs.code.Outcome.{answer_text}
pub use Rattle.df_journal_text.specs.declared.line_fault.LineFault.{LineFault}
pub use Rattle.df_label.proofs.PrivilegeFacts.{privilege_cmp_exact}
pub use Rattle.df_label.specs.Ascending.{IsAscending, IsBelow}
pub use Rattle.df_label.specs.Privilege.{privilege_cmp}
pub use Rattle.df_label.specs.declared.label.Label.{Label}
pub use Rattle.df_label.specs.declared.privilege.Privilege.{Privilege}
pub use Rattle.df_part.specs.declared.part.Part.{Part}
pub use Rattle.df_priv.specs.declared.need.Act.{Act}
pub use Rattle.df_priv.specs.declared.need.Act.TheVariants.{Add, Del}
pub use Rattle.df_priv.specs.declared.need.Half.{Half}
pub use Rattle.df_priv.specs.declared.need.Half.TheVariants.{I, S}
pub use Rattle.df_start.specs.declared.start.RootStart.{RootStart}
pub use Rattle.df_unit.specs.declared.call.Call.{Call}
pub use Rattle.df_unit.specs.declared.call.Call.TheVariants.{AddPart, AttachPrivilege, ChangeInOut, ChangeOutLabel, CloneEvent, CreateEvent, CreateTag, DelPart, DropEvent, Get, Instantiate, Publish, ReadPart, Release, Subscribe, SubscribeManaged}
pub use Rattle.df_unit.specs.declared.commit.Commit.{Commit}
pub use Rattle.df_unit.specs.declared.entry.Effect.{Effect}
pub use Rattle.df_unit.specs.declared.entry.Entry.TheVariants.{Done, Emitted}
pub use Rattle.df_unit.specs.declared.name.UnitName.{UnitName}
pub use Rattle.df_unit.specs.declared.name.UnitName.TheVariants.{Managed, Root}
pub use Rattle.df_unit.specs.declared.parts.PartRead.{PartRead}
pub use Rattle.df_unit.specs.declared.reply.Reply.{Reply}
pub use Rattle.df_unit.specs.declared.reply.Reply.TheVariants.{Handle}
pub use Rattle.df_value_text.proofs.Backs.{EndsPath, braced_back, digits_back, label_back, name_back, number_back, path_back, privilege_back, short_back, tag_back, value_back}
pub use Rattle.df_value_text.proofs.LabelLaws.{label_format, privilege_format, privilege_goes}
pub use Rattle.df_value_text.proofs.Loops.{fails_by}
pub use Rattle.df_value_text.proofs.ValueLaws.{value_format, value_goes}
pub use Rattle.df_value_text.specs.Fits.{IsLabel, IsPrivilege, IsSpelled, IsTag, IsTagSet, IsValue}
pub use Rattle.df_value_text.specs.Label.{label_text, path_text, privilege_text, tag_text, tags_text}
pub use Rattle.df_value_text.specs.Number.{begins_with}
pub use Rattle.df_value_text.specs.ReadLabel.{label_at, privilege_at}
pub use Rattle.df_value_text.specs.ReadName.{name_at}
pub use Rattle.df_value_text.specs.ReadTag.{begins_digit, numbers_at, short_at, tag_at, tags_at}
pub use Rattle.df_value_text.specs.ReadValue.{value_at}
pub use Rattle.df_value_text.specs.Value.{value_text}
pub use Rattle.df_value_text.specs.code.Answer.{Fails, Gives, IsFound, IsRead, IsSyntaxAt}
pub use Rattle.df_value_text.specs.code.WordEnd.{EndsWord}
pub use Rattle.df_value_text.specs.declared.refused.Fault.{Fault}
pub use Rattle.std.proofs.Common.{Bool, Err, List, None, Ok, Option, Result, Some, [], ap, append-nil, append_assoc, arith, codes, decimal, drop, eq-eqb, eqb, false, get_or, inl, inr, length, length-append, length-drop, map, refl, subst, suc, sym, take, true, vec_len, zero, ℕ, ◌++◌, ◌+◌, ◌-◌, ◌<◌, ◌^◌, ◌||◌, ◌∙◌, ◌∷◌, ◌≡◌, ◌≢◌, ◌≤◌}
pub use Rattle.std.proofs.lemmas.Bool.{and_parts, eqb-true, false≢true, true≢false}
pub use Rattle.std.proofs.lemmas.Fmt.{decimal_digit}
pub use Rattle.std.proofs.lemmas.List.{append_cancel_right, drop-drop, drop_all, take-append-le, take_all, take_more}
pub use Rattle.std.proofs.lemmas.List.Concat.{flat_map-append}
pub use Rattle.std.proofs.lemmas.List.Elements.{All-from_recursion, recursion_from_All}
pub use Rattle.std.specs.Char.{is_ascii_digit}
pub use Rattle.std.specs.List.{All, AllByRecursion, flat_map, starts_with}
pub use Rattle.std.specs.Ordering.{is_lt}
pub use Rattle.std.specs.declared.cmp.Ordering.TheVariants.{Equal, Greater, Less}
