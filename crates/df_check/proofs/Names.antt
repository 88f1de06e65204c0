-- The names that most proofs here cite, passed on from one place. Declares nothing.
pub use Rattle.df_check.specs.Check.{IsFirstWrong, Judges, TellsOther}
pub use Rattle.df_check.specs.CheckNoted.{JudgesNoted, TellsOtherNoted, noted_for}
pub use Rattle.df_check.specs.declared.noted.NotedVerdict.TheVariants.{Valid, Wrong}
pub use Rattle.df_machine.specs.Journal.{State, firsts}
pub use Rattle.df_machine.specs.Tables.{AgreesWith}
pub use Rattle.df_machine.specs.declared.tables.Tables.{Tables}
pub use Rattle.df_replay.proofs.Right.{is_right, right_is, same_contamination}
pub use Rattle.df_replay.specs.Noted.{AreRight, noted, noted_in, past_of}
pub use Rattle.df_replay.specs.Replay.{Compares, entry_for, replayed}
pub use Rattle.df_rules.proofs.Places.{legal_at}
pub use Rattle.df_rules.specs.Legal.{Legal}
pub use Rattle.df_rules.specs.Start.{rows}
pub use Rattle.df_start.specs.declared.start.RootStart.{RootStart}
pub use Rattle.df_unit.specs.declared.entry.Entry.{Entry}
pub use Rattle.df_unit.specs.declared.entry.Noted.{Noted}
pub use Rattle.std.proofs.Common.{List, Option, Some, [], ap, append_assoc, arith, drop, get_or, length, length-append, map, refl, reverse, slice_get, subst, sym, take, ℕ, ◌++◌, ◌+◌, ◌<◌, ◌↔◌, ◌∙◌, ◌∷◌, ◌≡◌, ◌≤◌}
pub use Rattle.std.proofs.lemmas.List.{drop_more, length-map, length-reverse, length-take-le, map-append, reverse-append, take-append-drop, take_all, take_more}
