-- The names that most proofs here cite, passed on from one place. Declares nothing.
pub use Rattle.df_booking.specs.CrewState.{CrewState, mind_in, want_by, want_in}
pub use Rattle.df_booking.specs.Manned.{IsFollowed}
pub use Rattle.df_booking.specs.Turns.{asked, asked_by, is_local_want, turn_of, turned}
pub use Rattle.df_config.specs.ConfigForm.{AreNumbers, IsConfig, IsPair, IsTrader}
pub use Rattle.df_config.specs.declared.config.Config.{Config}
pub use Rattle.df_crew.proofs.Growing.{more_longer, more_refl, more_trans}
pub use Rattle.df_crew.specs.Growing.{IsMore}
pub use Rattle.df_crew.specs.Seen.{origin_of, seen_of}
pub use Rattle.df_floor.proofs.Paired.{paired}
pub use Rattle.df_floor.specs.Brains.{floor_brains}
pub use Rattle.df_floor_run.specs.FloorRun.{EndsWith, IsFloorCrew, IsFloorRun, IsWorkedRun, RunsTo, fresh_crew, run_text}
pub use Rattle.df_floor_run.specs.Load.{IsLoadText, load_config, load_pair, load_pairs, load_trader, load_traders}
pub use Rattle.df_floor_run.specs.code.Running.{GoesOn, Ran, TellsReport, TellsRun, TellsWorked, Worked, end_of}
pub use Rattle.df_floor_run.specs.declared.run.FloorEnd.{FloorEnd}
pub use Rattle.df_floor_units.specs.Floor.{Mind, begins}
pub use Rattle.df_journal_text.specs.Entry.{entry_text, noted_text}
pub use Rattle.df_machine.specs.Journal.{IsRoll, State, appended, firsts, has_delivery_in}
pub use Rattle.df_machine.specs.Tables.{AgreesWith}
pub use Rattle.df_plain_floor.specs.PlainRun.{ArePasses, IsAtLimit, IsOpening, IsPass, IsPlainRun, IsQuiet, IsTurn, Opened, Repeated, is_full, root_name, take_turn, take_turns}
pub use Rattle.df_plain_floor.specs.declared.run.Ended.{Ended}
pub use Rattle.df_replay.specs.Noted.{noted, noted_in}
pub use Rattle.df_replay.specs.Replay.{entry_for, replayed}
pub use Rattle.df_rules.proofs.Growth.{grown_after, own_grows}
pub use Rattle.df_rules.specs.Follows.{Brain, Calls, Follows, IsWanted, Opens, OthersWait, Start, Wait, Want, has_entry, is_of, last_of, replies_of, state_after, wanted}
pub use Rattle.df_rules.specs.Legal.{IsUnaided, Legal, answer, answered, left}
pub use Rattle.df_rules.specs.Own.{exists, made_by, own, own_plain, stepped}
pub use Rattle.df_rules.specs.Start.{root_of, rows}
pub use Rattle.df_settling.specs.Settling.{IsFloorJournal, first_states, floor_brain, most_entries}
pub use Rattle.df_start.specs.declared.start.RootStart.{RootStart}
pub use Rattle.df_ticks.specs.declared.tick.Tick.{Tick}
pub use Rattle.df_unit.proofs.SameFacts.{same_name-exact}
pub use Rattle.df_unit.specs.Name.{same}
pub use Rattle.df_unit.specs.OwnState.{OwnState}
pub use Rattle.df_unit.specs.declared.call.Call.{Call}
pub use Rattle.df_unit.specs.declared.entry.Entry.{Entry}
pub use Rattle.df_unit.specs.declared.name.UnitName.{UnitName}
pub use Rattle.df_unit.specs.declared.name.UnitName.TheVariants.{Managed, Root}
pub use Rattle.df_unit.specs.declared.reply.Reply.{Reply}
pub use Rattle.std.proofs.Common.{Bool, List, None, Option, Some, [], ap, arith, codes, cond, drop, false, get_or, inl, inr, length, map, pos, refl, reverse, subst, suc, sym, take, true, true≢false, zero, ℕ, ◌++◌, ◌+◌, ◌<◌, ◌||◌, ◌∙◌, ◌∷◌, ◌≡◌, ◌≢◌, ◌≤◌, ◌⊎◌}
pub use Rattle.std.proofs.Crossing.{crosses}
pub use Rattle.std.proofs.lemmas.Result.{IfOk-weaker, on_ok_weaker}
pub use Rattle.std.specs.Option.{option_and_then, option_map, option_or}
pub use Rattle.std.specs.Prelude.{All, Err, IfOk, Ok, Result, bytes_eq, is_some, pred, slice_get, ◌↔◌}
pub use denote.Param.Send.{IsSend, IsSync, sendable}
pub use mathlib.Core.List.{IsPrefix}
