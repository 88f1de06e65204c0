-- The names that most proofs here cite, passed on from one place. Declares nothing.
pub use Rattle.df_disk.proofs.Heads.{length-count, length-record}
pub use Rattle.df_disk.specs.Records.{IsEmpty, opened, record_text}
pub use Rattle.df_image.specs.Image.{BreaksAt, IsDamagedAt, IsKept, IsNext, KeepsJournal, LacksEntry, LacksStart, State, entry_record, records_of, start_record}
pub use Rattle.df_journal_file.specs.Journal.{EndsFile, IsPlainJournal, IsWholeEntry, plain_text}
pub use Rattle.df_journal_text.specs.Fits.{AreRoots, IsJournal, IsNoteOf, IsNoted, IsRoot}
pub use Rattle.df_journal_text.specs.Line.{line}
pub use Rattle.df_start.specs.declared.start.RootStart.{RootStart}
pub use Rattle.df_unit.specs.declared.entry.Entry.{Entry}
pub use Rattle.std.proofs.Common.{Err, List, None, Ok, Option, Result, Some, [], ap, append_assoc, arith, drop, inl, inr, length, length-append, refl, reverse, subst, sym, take, ℕ, ⊎_elim, ◌++◌, ◌+◌, ◌<◌, ◌^◌, ◌∙◌, ◌∷◌, ◌≡◌, ◌≢◌, ◌⊎◌}
pub use Rattle.std.proofs.lemmas.List.{append-nil, append_cancel_left, drop_at, map-append, reverse-append, reverse-reverse, take_at}
pub use Rattle.std.proofs.lemmas.List.Elements.{All-from_recursion, All-nil, All-push, recursion_from_All}
pub use Rattle.std.specs.List.{All, AllByRecursion}
pub use Rattle.std.specs.Prelude.{IfOk, IsSome, OnOk, codes, map, option_to_list, ◌↔◌}
