-- The names that most proofs here cite, passed on from one place. Declares nothing.
pub use Rattle.df_format.proofs.Laws.{ok_is}
pub use Rattle.df_journal_file.specs.Below.{event_line, note_line}
pub use Rattle.df_journal_file.specs.Cursor.{CursorState, HasPassed, front_text}
pub use Rattle.df_journal_file.specs.Either.{First, IsEitherText, IsFirstOf, IsJournalOf, IsSecondOf, Journal, Second, journal_by, journal_in}
pub use Rattle.df_journal_file.specs.Journal.{ChangesSome, EditsSome, EndsFile, HasNote, IsNotedText, IsPlainText, IsRead, IsWholeEntry, ShowsSome}
pub use Rattle.df_journal_file.specs.TooLarge.{IsCallFront, IsLargeIn, IsPartFront, IsShownFront, IsValueFront}
pub use Rattle.df_journal_file.specs.code.Entries.{IsNoteBy, IsShownBy, IsSomeCommit, IsSomeEffectOf, IsWholeBy, bare_of, commit_lines}
pub use Rattle.df_journal_file.specs.code.Files.{AreLeft, IsEitherFirst, IsFirstAt, IsText, IsWanted, StopsFirst, answered, first_of}
pub use Rattle.df_journal_file.specs.code.Languages.{AddsFrom, BehindSome, CommitFrom, DoneFrom, EditFrom, EffectFrom, EntriesFrom, GivenFrom, HandedFrom, HeadFrom, IsHanding, Many, NoteFrom, NotesNone, ReadFrom, ShownFrom, ShowsNone, Then}
pub use Rattle.df_journal_file.specs.code.Places.{AreMarked, ArePassed, IsHere, IsLineHere, MarkedStop, StopsLine, TellsAt, finished}
pub use Rattle.df_journal_file.specs.code.Stops.{Onto, StopsIn}
pub use Rattle.df_journal_text.proofs.Frames.{unended}
pub use Rattle.df_journal_text.proofs.JournalBacks.{journal_back, more_first, unit_first}
pub use Rattle.df_journal_text.proofs.LineTells.{answer_text, called, called_line, part_text, shown_text}
pub use Rattle.df_journal_text.proofs.Wholes.{WholeLine, told}
pub use Rattle.df_journal_text.specs.Call.{call_words}
pub use Rattle.df_journal_text.specs.Entry.{call_line, effect_text, entry_text, note_text, noted_text, part_line, read_line, reads_text, spot_line}
pub use Rattle.df_journal_text.specs.Fits.{ArePrivileges, AreRoots, IsAnswer, IsCalled, IsCommit, IsEffectOf, IsEntry, IsEvent, IsJournal, IsNoteOf, IsNoted, IsPart, IsPartRead, IsReply, IsSpot}
pub use Rattle.df_journal_text.specs.Large.{IsLargeCalled, IsLargePart, IsLargeShown, IsLargeWord}
pub use Rattle.df_journal_text.specs.Line.{line, spaced, word}
pub use Rattle.df_journal_text.specs.Name.{event_text, unit_text}
pub use Rattle.df_journal_text.specs.ReadWords.{begins_pair, word_at}
pub use Rattle.df_journal_text.specs.Reply.{reply_words}
pub use Rattle.df_journal_text.specs.Start.{root_text, start_text}
pub use Rattle.df_label.specs.declared.label.Label.{Label}
pub use Rattle.df_lines.specs.FirstBad.{Begins, IsFirstBad}
pub use Rattle.df_lines.specs.Lines.{EndsLine, IsLine, ended, lines_text}
pub use Rattle.df_lines.specs.code.Stops.{IsSpelled, StopsAt}
pub use Rattle.df_lines.specs.declared.fault.FileFault.{FileFault}
pub use Rattle.df_lines.specs.declared.fault.FileFault.TheVariants.{Bad}
pub use Rattle.df_part.specs.declared.edit.Spot.{Spot}
pub use Rattle.df_part.specs.declared.part.Part.{Part}
pub use Rattle.df_script_text.proofs.Files.{regroup, roots_stand, run}
pub use Rattle.df_script_text.proofs.Splits.{Avoids, Avoids-line, Avoids-text, Avoids-words}
pub use Rattle.df_script_text.proofs.Values.{IsLine-value, IsLine-word}
pub use Rattle.df_script_text.proofs.Words.{AreWords-privileges, is_word, is_word-actor, is_word-append, is_word-decimal, is_word-label, is_word-name, is_word-privilege, is_word-tag, number_word}
pub use Rattle.df_script_text.specs.code.Stops.{AreRootsAt, RootsStop}
pub use Rattle.df_start.specs.declared.start.RootStart.{RootStart}
pub use Rattle.df_unit.specs.declared.call.Call.{Call}
pub use Rattle.df_unit.specs.declared.entry.Entry.{Entry}
pub use Rattle.df_unit.specs.declared.entry.Entry.TheVariants.{Done, Emitted}
pub use Rattle.df_unit.specs.declared.entry.Noted.{Noted}
pub use Rattle.df_unit.specs.declared.name.EventName.{EventName}
pub use Rattle.df_unit.specs.declared.name.UnitName.{UnitName}
pub use Rattle.df_unit.specs.declared.name.UnitName.TheVariants.{Root}
pub use Rattle.df_unit.specs.declared.parts.PartRead.{PartRead}
pub use Rattle.df_unit.specs.declared.reply.Reply.{Reply}
pub use Rattle.df_value_text.specs.Fits.{IsLabel, IsPrivilege, IsValue}
pub use Rattle.df_value_text.specs.Label.{label_text, privilege_text}
pub use Rattle.df_value_text.specs.Number.{begins_with}
pub use Rattle.df_value_text.specs.ReadTag.{begins_digit}
pub use Rattle.df_value_text.specs.Value.{value_text}
pub use Rattle.std.proofs.Common.{Bool, Err, IfErr, IfOk, IsTrue, List, None, Ok, Option, Result, Some, [], ap, append-nil, append_assoc, arith, codes, decimal, drop, eqb, false, inl, inr, length, length-append, length-drop, lit<, lit≤, map, pos, refl, rules, subst, suc, sym, true, ℕ, ◌&&◌, ◌++◌, ◌+◌, ◌-◌, ◌<◌, ◌^◌, ◌↔◌, ◌∙◌, ◌∷◌, ◌≡◌, ◌≤◌, ◌⊎◌}
pub use Rattle.std.proofs.lemmas.Bool.Decides.{Decides-eqb, nat_tests}
pub use Rattle.std.proofs.lemmas.List.{append_cancel_left, drop-drop, drop_all, flat_map_more, map-id}
pub use Rattle.std.proofs.lemmas.List.Concat.{flat_map-append}
pub use Rattle.std.proofs.lemmas.List.Elements.{All-cons, All-head, All-map, All-nil, All-push, All-tail, All-weaker, recursion_from_All}
pub use Rattle.std.specs.Char.{is_ascii_digit}
pub use Rattle.std.specs.List.{All, AllByRecursion, flat_map, starts_with}
