-- The names that most proofs here cite, passed on from one place. Declares nothing.
pub use Rattle.df_format.proofs.Laws.{failed_is, ok_is, told}
pub use Rattle.df_format.specs.Reading.{Read, as_at, behind_at, text_at, then_at}
pub use Rattle.df_frozen.specs.Name.{is_letter, is_name, is_name_byte}
pub use Rattle.df_journal_text.proofs.CallBacks.{call_back}
pub use Rattle.df_journal_text.proofs.Frames.{unended}
pub use Rattle.df_journal_text.proofs.Founds.{Finds, finds_as, finds_behind, finds_then, finds_word, kinds_find, label_finds, privileges_finds, short_finds, unit_finds}
pub use Rattle.df_journal_text.proofs.NameBacks.{unit_word}
pub use Rattle.df_journal_text.proofs.WordBacks.{braced, ends_spaced, label_word, line-rest, privileges_back, word_back}
pub use Rattle.df_journal_text.specs.Call.{act_text, call_words, half_text}
pub use Rattle.df_journal_text.specs.Fits.{IsCall, IsRoot, IsUnit}
pub use Rattle.df_journal_text.specs.Large.{IsLargeCall, IsLargeCalled}
pub use Rattle.df_journal_text.specs.Line.{spaced, word}
pub use Rattle.df_journal_text.specs.Name.{unit_text}
pub use Rattle.df_journal_text.specs.ReadName.{unit_at}
pub use Rattle.df_journal_text.specs.Start.{root_line, root_text, roots_text, start_text}
pub use Rattle.df_journal_text.specs.code.Judging.{EndsCall, IsNoLine, TellsLine, call_text}
pub use Rattle.df_lines.proofs.FirstBad.{names_line, refused_as}
pub use Rattle.df_lines.proofs.Rows.{IsFed, IsRow, Leads, Like, leads, leads_as, leads_on, row_leads, row_some, row_stop, stop_here, stops_as}
pub use Rattle.df_lines.specs.FirstBad.{Begins}
pub use Rattle.df_lines.specs.Lines.{IsLine, ended, lines_text}
pub use Rattle.df_lines.specs.Refused.{NamesBadLine}
pub use Rattle.df_lines.specs.code.Stops.{IsKind, IsStop, StopsAt, StopsBy}
pub use Rattle.df_lines.specs.declared.fault.FileFault.{FileFault}
pub use Rattle.df_script_text.specs.Called.{IsCallAt}
pub use Rattle.df_script_text.specs.Common.{common_line, root_call}
pub use Rattle.df_script_text.specs.Reader.{HasRead, HasReadUpTo, ReaderState}
pub use Rattle.df_script_text.specs.Script.{IsScript, IsScriptLine, IsScriptText, script_line, script_text}
pub use Rattle.df_script_text.specs.TooLarge.{IsTooLargeIn}
pub use Rattle.df_script_text.specs.code.Lines.{call_line, head_lines, numbered, root_line_at, script_lines}
pub use Rattle.df_script_text.specs.code.Languages.{CallsFrom, HeadFrom}
pub use Rattle.df_script_text.specs.code.Stops.{ArePassed, AreRootsAt, IsCallLine, IsFirstAt, IsHeadLine, RootsStop, StopsCall, StopsFirst, StopsRoot, TellsRoot, fault_of}
pub use Rattle.df_script_text.specs.declared.line.ScriptLine.{ScriptLine}
pub use Rattle.df_start.specs.declared.start.RootStart.{RootStart}
pub use Rattle.df_unit.specs.declared.call.Call.{Call}
pub use Rattle.df_unit.specs.declared.name.UnitName.{UnitName}
pub use Rattle.df_unit.specs.declared.name.UnitName.TheVariants.{Managed, Root}
pub use Rattle.df_value_text.specs.Fits.{AreBehind, AreEntries, AreNumbers, AreSpelled, AreTags, IsLabel, IsPrivilege, IsSpelled, IsTag, IsTagSet, IsValue}
pub use Rattle.df_value_text.specs.Label.{label_text, path_text, privilege_text, right_text, tag_text, tags_text}
pub use Rattle.df_value_text.specs.Number.{begins_with}
pub use Rattle.df_value_text.specs.ReadWhole.{IsWhole}
pub use Rattle.std.proofs.Common.{Bool, Err, List, None, Ok, Option, Some, [], add-zero, ap, append-nil, append_assoc, arith, codes, cond, decimal, drop, false, inl, inr, length, length-append, length-drop, lit<, map, nat_eq, nat_lt, negsuc, pos, refl, rules, subst, suc, sym, take, true, zero-add, ℕ, ℤ, ◌%◌, ◌++◌, ◌+◌, ◌-◌, ◌/◌, ◌<◌, ◌^◌, ◌||◌, ◌↔◌, ◌∙◌, ◌∷◌, ◌≡◌, ◌≤◌, ◌⊎◌}
pub use Rattle.std.proofs.lemmas.Bool.Decides.{nat_tests}
pub use Rattle.std.proofs.lemmas.List.{append_cancel_left, flat_map_more}
pub use Rattle.std.proofs.lemmas.List.Concat.{flat_map-append}
pub use Rattle.std.proofs.lemmas.List.Elements.{All-append, All-cons, All-head, All-nil, All-push, All-tail, All-weaker, recursion_from_All}
pub use Rattle.std.proofs.lemmas.List.Folds.{list_all-append}
pub use Rattle.std.proofs.lemmas.Result.{IfErr-weaker, IfOk-weaker}
pub use Rattle.std.specs.Fmt.{signed_decimal}
pub use Rattle.std.specs.List.{All, AllByRecursion, flat_map, join_with_byte, list_all}
