-- The names that most proofs here cite, passed on from one place. Declares nothing.
pub use Rattle.df_audit.specs.Audit.{Explains, IsCheckOf, IsCheckOfFirst, IsCheckOfSecond, IsPurgeOf, IsRightJournal, IsUpgradeOf, IsWhyOf, IsWrongAt, OfJournal, Purges, Upgrades, entries_at, entries_in, past_in, roots_in, valid_text, wrong_text}
pub use Rattle.df_audit.specs.Made.{Enters, EntersNoted, MakesCall}
pub use Rattle.df_audit.specs.code.Calling.{AppendsCall, Keeps, label_in, left_in, noted_call, read_call, shown_by, stays_in}
pub use Rattle.df_audit.specs.code.Passing.{ComesTo, EndsRight, HasComeTo, IsJudged, IsMade, IsSoFar, PassesOne, TakesKept, TakesNote, TakesOne, front_of, wanted_of, wanted_text}
pub use Rattle.df_audit.specs.code.Picking.{AreGrounds, ExplainsNoted}
pub use Rattle.df_audit.specs.declared.audit.Audit.{Audit}
pub use Rattle.df_audit.specs.declared.audit.Finding.{Finding}
pub use Rattle.df_audit.specs.declared.audit.Finding.TheVariants.{NoPlace, Right, Wrong}
pub use Rattle.df_audit.specs.declared.pass.Wanted.{Wanted}
pub use Rattle.df_journal_file.specs.Cursor.{CursorState, HasPassed}
pub use Rattle.df_journal_file.specs.Either.{First, IsJournalOf, Journal, Second, journal_by, journal_in}
pub use Rattle.df_journal_text.specs.Entry.{effect_text, entry_text, note_text, noted_text, reads_text}
pub use Rattle.df_journal_text.specs.Start.{head_text, journal_text}
pub use Rattle.df_label.specs.declared.label.Label.{Label}
pub use Rattle.df_machine.specs.Journal.{State, answer_in, contamination_in, firsts}
pub use Rattle.df_machine.specs.Tables.{AgreesWith, IsStep, Stays, place_in}
pub use Rattle.df_machine.specs.declared.tables.Tables.{Tables}
pub use Rattle.df_replay.proofs.Notes.{noted_past, right_notes}
pub use Rattle.df_replay.specs.Noted.{AreRight, contamination_of, noted, noted_in, past_of}
pub use Rattle.df_rules.specs.Legal.{Legal, answered}
pub use Rattle.df_rules.specs.Purge.{purge}
pub use Rattle.df_rules.specs.Start.{roots, rows}
pub use Rattle.df_start.specs.declared.start.RootStart.{RootStart}
pub use Rattle.df_unit.specs.declared.call.Call.{Call}
pub use Rattle.df_unit.specs.declared.entry.Effect.{Effect}
pub use Rattle.df_unit.specs.declared.entry.Entry.{Entry}
pub use Rattle.df_unit.specs.declared.entry.Entry.TheVariants.{Done}
pub use Rattle.df_unit.specs.declared.entry.Noted.{Noted}
pub use Rattle.df_unit.specs.declared.name.UnitName.TheVariants.{Root}
pub use Rattle.df_unit.specs.declared.reply.Reply.{Reply}
pub use Rattle.df_why.specs.Grounds.{IsClosed, IsGrounds, at_places, set_of}
pub use Rattle.std.proofs.Common.{Bool, Err, IfOk, IfSome, List, None, Ok, OnOk, Option, Result, Some, [], ap, append-nil, append_assoc, arith, codes, drop, false, get_or, inl, inr, length, length-append, map, refl, reverse, subst, sym, take, true, ℕ, ◌++◌, ◌+◌, ◌-◌, ◌<◌, ◌^◌, ◌||◌, ◌∙◌, ◌∷◌, ◌≡◌, ◌⊎◌}
pub use Rattle.std.proofs.lemmas.List.{drop-append-le, drop_all, flat_map_more, length-map, map-append, reverse-append, reverse-reverse, take-append-le, take_all, take_more}
pub use Rattle.std.proofs.lemmas.Result.{IfOk-weaker, on_ok_weaker}
pub use Rattle.std.specs.List.{All, flat_map}
