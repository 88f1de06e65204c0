-- The names that most proofs here cite, passed on from one place. Declares nothing.
pub use Rattle.df_format.proofs.Choices.{MaybeFits, Refuses, byte_refuses, either_by, either_of, maybe_format, maybe_goes, reads_begin}
pub use Rattle.df_format.proofs.ItemSteps.{Shrinks, format_shrinks, item_failed, item_read, more_step, no_more, onto, regroup}
pub use Rattle.df_format.proofs.Items.{Follow, ItemsFit, LastEnds, Leads, Parts, items_again, items_format, items_goes, items_told, last_behind, last_ends_at, last_goes, last_of, last_split}
pub use Rattle.df_format.proofs.Joins.{behind_format, closed_format, same_read, viewed}
pub use Rattle.df_format.proofs.Laws.{failed_is, stuck_at, both_false, can_go_on, chosen, ends_never, err_is, first_bad, is_read, never, no_longer, not_both, ok_is, stands, told, viable_map, viable_of}
pub use Rattle.df_format.proofs.Longest.{Whole, goes_on, is_longest, longest_read, same_split, whole_format}
pub use Rattle.df_format.proofs.Several.{Each, all_none, all_step, all_stop, each_format, each_several}
pub use Rattle.df_format.proofs.Texts.{IsText, own, text_format, text_found}
pub use Rattle.df_format.proofs.Thens.{ThenFits, then_format, then_goes, then_second_format}
pub use Rattle.df_format.proofs.Tokens.{Links, Of, any_low, chain_at, chain_format, enclosed, first_at, first_format, first_stays, first_stops, fitting, itself, led, low_as, made, nowhere, nowhere_is_local, passing, passing_format, told_as}
pub use Rattle.df_format.specs.Format.{Ends, Format, Found, IsLocal, Stuck}
pub use Rattle.df_format.specs.Grammar.{CanGoOn, FirstBad, IsLongest, Stands}
pub use Rattle.df_format.specs.Reading.{Bad, Low, Read, Stop, all_at, as_at, behind_at, closed_at, decoded, either_at, items_at, more_of, one_at, starts, text_at, then_at, with_front, ◌>>=◌}
pub use Rattle.df_format.specs.Spelling.{items_spell, maybe_spell, more_spell, then_spell}
pub use Rattle.df_frozen.specs.Limits.{IsWithinLimits, longest_name, most_bytes, most_depth, most_nodes}
pub use Rattle.df_frozen.specs.Name.{is_letter, is_name, is_name_byte, name_cmp}
pub use Rattle.df_frozen.specs.Plain.{Pairs, Plain, Plains, byte_count, bytes, depth, entries, entries_byte_count, entries_depth, entries_node_count, entry, from_list, from_pairs, int, item, items, items_byte_count, items_depth, items_node_count, no_entries, no_items, node_count, words}
pub use Rattle.df_frozen.specs.Value.{named, plain, plain_all}
pub use Rattle.df_label.specs.Ascending.{IsAscending}
pub use Rattle.df_label.specs.Tag.{tag_cmp}
pub use Rattle.df_label.specs.declared.label.Label.{Label}
pub use Rattle.df_label.specs.declared.privilege.Privilege.{Privilege}
pub use Rattle.df_label.specs.declared.privilege.Right.{Right}
pub use Rattle.df_label.specs.declared.privilege.Right.TheVariants.{Minus, MinusAuth, Plus, PlusAuth}
pub use Rattle.df_value_text.specs.Counting.{AreCountsOf, AreWithin, FirstOver, IsCounted, IsOver, NeverOver, begins, behind, character, closed, closes, counts_of, nested, next, start, walk, walked, weight}
pub use Rattle.df_value_text.specs.Fits.{AreBehind, AreEntries, AreNumbers, AreSpelled, AreTags, IsLabel, IsPrivilege, IsSpelled, IsTag, IsTagSet, IsValue}
pub use Rattle.df_value_text.specs.Join.{joined}
pub use Rattle.df_value_text.specs.Label.{label_text, path_text, privilege_text, right_text, tag_text, tags_text}
pub use Rattle.df_value_text.specs.Number.{begins_with, digits_at, number_at}
pub use Rattle.df_value_text.specs.Order.{IsLowTag, LowInLabel, StandsLow}
pub use Rattle.df_value_text.specs.OrderNames.{AreOpen, IsOpen, LowInValue, LowWithin, MayFollow, NameStandsLow, Open, entries_led, in_list, in_map, open_text, values_led}
pub use Rattle.df_value_text.specs.ReadBytes.{AreBytes, bytes_at, hex_byte, hex_value, is_hex, pairs_at, two_at}
pub use Rattle.df_value_text.specs.ReadEscape.{ascii_at, control_at, escape_at, is_control, is_high, is_low, is_plain, is_quoted, kept}
pub use Rattle.df_value_text.specs.ReadLabel.{auth_at, label_at, label_of, minus_of, plus_of, privilege_at, privilege_of, right_at}
pub use Rattle.df_value_text.specs.ReadName.{name_at, name_bytes}
pub use Rattle.df_value_text.specs.ReadTag.{begins_digit, ended, leads_at, leads_number, leads_tag, listed, longest_at, next_at, numbers_at, optional, short_at, some_tags_at, tag_at, tags_at}
pub use Rattle.df_value_text.specs.ReadValue.{ended_at, entry_at, given_at, greatest, higher, higher_at, leads_entry, leads_value, leaf_at, list_at, list_of, map_at, map_of, next_entry_at, node_at, none_listed, value_at}
pub use Rattle.df_value_text.specs.ReadWhole.{IsWhole, minus, positive_at, whole_at}
pub use Rattle.df_value_text.specs.ReadWide.{is_between, is_lead, least_second, led_at, most_second, trail_at, trail_length, wide_at}
pub use Rattle.df_value_text.specs.ReadWords.{alone, begins_char, char_at, chars_at, words_at}
pub use Rattle.df_value_text.specs.Value.{entries_text, entry_text, escaped, hex, hex_digit, items_text, value_text, words_text}
pub use Rattle.df_value_text.specs.ValueFault.{FirstBadValue, FirstLow, FirstLowName, FirstTooLarge, IsTooLargeAt, IsWithinBefore, NamesTooLarge, NamesValueFault, NoLowBefore, TellsSyntaxAt, up_to}
pub use Rattle.df_value_text.specs.code.Answer.{Fails, IsFound, IsRead, IsSyntaxAt, refusal}
pub use Rattle.df_value_text.specs.code.Short.{open_count, plain_run}
pub use Rattle.df_value_text.specs.code.WordEnd.{EndsWord, IsBreak}
pub use Rattle.df_value_text.specs.declared.counting.Walk.{Walk}
pub use Rattle.df_value_text.specs.declared.place.Place.{Place}
pub use Rattle.df_value_text.specs.declared.refused.Fault.{Fault}
pub use Rattle.df_value_text.specs.declared.refused.TextRefused.{TextRefused}
pub use Rattle.std.proofs.Common.{Bool, Err, List, None, Ok, Option, Result, Some, [], add-one, ap, append_assoc, arith, cond, decimal, drop, eq-eqb, eqb, false, get_or, inl, inr, length, length-append, length-drop, map, max, min, nat_lt, negsuc, not, pos, refl, rules, subst, suc, sym, take, true, zero, ℕ, ℤ, ◌%◌, ◌&&◌, ◌*◌, ◌++◌, ◌+◌, ◌-◌, ◌/◌, ◌<◌, ◌^◌, ◌||◌, ◌∙◌, ◌∷◌, ◌≡◌, ◌≤◌, ◌⊎◌}
pub use Rattle.std.proofs.Math.Seq.{drop-append_seam, drop-cons, get_or-append_seam, take-append_seam}
pub use Rattle.std.proofs.Math.Utf8.{encodes, low_scalar, scalar, scalars}
pub use Rattle.std.proofs.lemmas.Bool.{and_parts, eqb-true, lt-ltb, ltb-true}
pub use Rattle.std.proofs.lemmas.Bool.Decides.{nat_tests}
pub use Rattle.std.proofs.lemmas.Fmt.{decimal_by_steps, decimal_digit, decimal_step}
pub use Rattle.std.proofs.lemmas.Grind.{flat_map-append}
pub use Rattle.std.proofs.lemmas.List.{append-nil, append_cancel_left, append_cancel_right, drop-append-le, drop-drop, drop_all, drop_more, length-map, length-take-le, length_push, take-append-drop, take_more}
pub use Rattle.std.specs.Char.{is_ascii_digit}
pub use Rattle.std.specs.Cmp.{nat_cmp_is, nat_cmp_total, tied_itself}
pub use Rattle.std.specs.Cmp.Lexicographic.{nat_list_cmp_total}
pub use Rattle.std.specs.Fmt.{signed_decimal}
pub use Rattle.std.specs.List.{AllByRecursion, concat, flat_map, list_all}
pub use Rattle.std.specs.Ordering.{is_lt, nat_cmp, ordering_reverse}
pub use Rattle.std.specs.Prelude.{All, IfErr, IfOk, IsUtf8, codes, nat_le, ◌==◌, ◌↔◌}
pub use Rattle.std.specs.declared.cmp.Ordering.{Ordering}
pub use Rattle.std.specs.declared.cmp.Ordering.TheVariants.{Equal, Greater, Less}
