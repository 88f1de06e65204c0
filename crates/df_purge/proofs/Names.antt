-- The names that most proofs here cite, passed on from one place. Declares nothing.
pub use Rattle.df_label.specs.declared.label.Label.{Label}
pub use Rattle.df_machine.specs.Journal.{State, contamination_in, firsts}
pub use Rattle.df_machine.specs.Tables.{AgreesWith}
pub use Rattle.df_purge.specs.code.Left.{emitted_noted, is_noted_within, left_noted}
pub use Rattle.df_replay.specs.Noted.{AreRight, contamination_of, noted, noted_in, past_of}
pub use Rattle.df_replay.specs.Replay.{entry_for, replayed}
pub use Rattle.df_rules.proofs.PurgeKeeps.{purge_keeps, purge_legal}
pub use Rattle.df_rules.proofs.RowLaws.{row_laws}
pub use Rattle.df_rules.specs.Commits.{commit_of, cut_spots}
pub use Rattle.df_rules.specs.Own.{own}
pub use Rattle.df_rules.specs.Purge.{Keeps, echo, emitted, is_within, left_of, purge, stays}
pub use Rattle.df_rules.specs.Start.{rows}
pub use Rattle.df_start.specs.Begun.{begun}
pub use Rattle.df_start.specs.declared.start.RootStart.{RootStart}
pub use Rattle.df_unit.specs.declared.commit.Commit.{Commit}
pub use Rattle.df_unit.specs.declared.entry.Entry.{Entry}
pub use Rattle.df_unit.specs.declared.entry.Entry.TheVariants.{Done, Emitted}
pub use Rattle.std.proofs.Common.{Bool, List, None, Option, Some, [], ap, append-nil, drop, false, get_or, if◌then◌else◌, length, map, refl, reverse, subst, sym, take, true, ℕ, ◌++◌, ◌+◌, ◌<◌, ◌∙◌, ◌∷◌, ◌≡◌, ◌≤◌}
pub use Rattle.std.proofs.lemmas.List.{drop_more, reverse-append, take-append-drop, take_all}
pub use Rattle.std.specs.List.{flat_map}
