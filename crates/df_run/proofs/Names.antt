-- The names that most proofs here cite, passed on from one place. Declares nothing.
pub use Rattle.df_audit.specs.Audit.{Explains, HasPlace, IsCheckOf, IsPurgeOf, IsRightJournal, IsUpgradeOf, IsWhyOf, IsWrongAt, LacksPlace, OfJournal, Purges, TellsCount, TellsPlace, Upgrades, past_in}
pub use Rattle.df_config.specs.ConfigFile.{IsConfigFile, IsRightRefusal}
pub use Rattle.df_config.specs.declared.config.Config.{Config}
pub use Rattle.df_floor_run.specs.FloorRun.{EndsWith, IsFloorRun, IsWorkedRun, fresh_crew}
pub use Rattle.df_floor_run.specs.declared.run.FloorEnd.{FloorEnd}
pub use Rattle.df_journal_file.specs.Either.{First, IsEitherText, IsJournalOf, Journal, Second}
pub use Rattle.df_label.specs.declared.label.Label.{Label}
pub use Rattle.df_lines.specs.Refused.{NamesBadLine}
pub use Rattle.df_records.proofs.OneReading.{a_file_is_good, told_is_one}
pub use Rattle.df_run.specs.Floor.{FollowsPurged, IsCutAt, IsFloorPast, MayBeCutAt, OfFloor, RunsFloor, Settles, SettlesAnyhow, WorksFloor}
pub use Rattle.df_run.specs.Making.{IsOfFloor, IsWritten, Stops, StopsAt, TellsFloor, TellsWork, end_of_floor, status_of}
pub use Rattle.df_run.specs.Outcome.{AskPlainly, AsksNothing, BadInputIsDue, BadInputIsExact, BlamesFile, DoesInput, IfAllTold, IfAsked, IfTold, IsCutOff, IsHindered, IsOfACommand, IsOutcome, IsTextOfSome, IsToldBad, IsToldLong, NoPlaceIsDue, NoPlaceIsExact, OfRead, OfTold, Reaches, TooLongIsDue, TooLongIsExact, UnsettledIsDue, UnsettledIsExact, UsageIsExact, WereRead, WriteFaultIsDue, Writes, WrongIsDue, WrongIsExact, told_at}
pub use Rattle.df_run.specs.Tasks.{BlamesBytes, IsCutInput, IsInput, IsNoPlaceInput, IsOrders, IsRightInput, IsText, IsUnsettledInput, IsWrongInput, OfOne, OfTwo, RefusesInput, end_of, told_of}
pub use Rattle.df_run.specs.declared.status.BadKind.{BadKind}
pub use Rattle.df_run.specs.declared.status.Status.{Status}
pub use Rattle.df_run.specs.declared.tasks.End.{End}
pub use Rattle.df_script_text.specs.Reader.{HasRead, ReaderState}
pub use Rattle.df_script_text.specs.Script.{IsScriptText}
pub use Rattle.df_script_text.specs.TooLarge.{IsTooLargeIn}
pub use Rattle.df_settling.specs.Settling.{IsFloorJournal, first_states, floor_brain, settling_bound}
pub use Rattle.df_ticks.specs.TickFile.{IsTickFile, header, tick_of}
pub use Rattle.df_ticks.specs.declared.tick.Tick.{Tick}
pub use Rattle.df_words.specs.Words.{Ask, files_of, texts}
pub use Rattle.df_words.specs.declared.command.Command.{Command}
pub use Rattle.df_words.specs.declared.command.Command.TheVariants.{Auction, Check, Floor, FloorWorkers, Gen, Lint, Load, Purge, Steps, Upgrade, Why}
pub use Rattle.std.proofs.Common.{IfErr, IfOk, List, None, Option, Some, [], ap, arith, inl, inr, length, map, refl, slice_get, subst, suc, sym, zero, ℕ, ◌++◌, ◌+◌, ◌-◌, ◌<◌, ◌∙◌, ◌∷◌, ◌≡◌, ◌≤◌, ◌⊎◌}
pub use Rattle.std.proofs.lemmas.Result.{err_from_is_err_and}
pub use Rattle.std.specs.Prelude.{⊤, ◌↔◌}
