-- The names that most proofs here cite, passed on from one place. Declares nothing.
pub use Rattle.df_booking.specs.Booked.{IsCurrent, booked}
pub use Rattle.df_crew.proofs.HasEntry.{entry_before, entry_behind, entry_reverse}
pub use Rattle.df_crew.proofs.Others.{begun_current, current_kept, local_named}
pub use Rattle.df_crew.specs.Locally.{IsBegun}
pub use Rattle.df_crew.specs.Resting.{IsResting}
pub use Rattle.df_crew.specs.Seen.{core_at, crew_at, seen_of}
pub use Rattle.df_crew.specs.declared.origin.Origin.{Origin}
pub use Rattle.df_desk.proofs.Prefixes.{prefix_refl, prefix_trans}
pub use Rattle.df_desk.specs.Pass.{DeskId, IsFree, PassState}
pub use Rattle.df_hub.specs.Steps.{IsBooked, IsCounted}
pub use Rattle.df_rules.specs.Follows.{Brain, Calls, Last, Wait, Want, brain_of, has_entry}
pub use Rattle.df_turn.specs.Locally.{TurnState, most_local}
pub use Rattle.df_unit.specs.OwnState.{OwnState}
pub use Rattle.df_unit.specs.declared.entry.Entry.{Entry}
pub use Rattle.df_unit.specs.declared.name.UnitName.{UnitName}
pub use Rattle.df_workers.specs.Serving.{AreServed, HasMoved, HaveRun, IsServed}
pub use Rattle.df_workers.specs.code.Came.{AreServedOf, Grew, HasWorked, IsFirst, IsNext, UnlessOver, came_then, is_over, next_by, next_of, next_turn}
pub use Rattle.df_workers.specs.code.Gathered.{CameOf, Each, HasCame, HaveWorked, IsHired, IsRound}
pub use Rattle.df_workers.specs.declared.came.Came.{Came}
pub use Rattle.df_workers.specs.declared.came.Came.TheVariants.{Full, Moved, NoMemory, Still}
pub use Rattle.df_workers.specs.declared.step.Next.TheVariants.{Ends, Goes}
pub use Rattle.std.proofs.Common.{All, Bool, Err, List, None, Ok, Option, Result, Some, [], ap, append-nil, append_assoc, arith, cond, drop, false, inl, inr, length, length-append, option_to_list, refl, subst, suc, sym, take, true, vec_len, zero, ℕ, ◌%◌, ◌++◌, ◌+◌, ◌-◌, ◌<◌, ◌||◌, ◌∙◌, ◌∷◌, ◌≡◌, ◌≤◌, ◌⊎◌}
pub use Rattle.std.proofs.lemmas.Bool.Decides.{nat_tests}
pub use Rattle.std.proofs.lemmas.List.{length-reverse, nil_from_length, reverse-append, reverse-reverse}
pub use Rattle.std.specs.Prelude.{IfOk, is_some, nat_le, reverse, slice_get, slice_index_or, ◌==◌}
pub use denote.Param.Send.{IsSend, IsSync, arg_send, param_send, sendable, shr_sync}
pub use mathlib.Core.List.{IsPrefix}
