-- The names that most proofs here cite, passed on from one place. Declares nothing.
pub use Rattle.df_booking.proofs.Manning.{turned_is, under_way}
pub use Rattle.df_booking.specs.Booked.{IsCurrent, booked}
pub use Rattle.df_booking.specs.CrewState.{CrewState, mind_in, want_by, want_in}
pub use Rattle.df_booking.specs.Manned.{IsFollowed, IsManned, IsMind, seed_name}
pub use Rattle.df_booking.specs.Minds.{mind_from, mind_of}
pub use Rattle.df_booking.specs.Turns.{asked, asked_by, is_local_want, turn_of, turned}
pub use Rattle.df_booking.specs.code.Renewal.{IsUnderWay, shared_of}
pub use Rattle.df_crew.specs.Growing.{IsMore}
pub use Rattle.df_crew.specs.Resting.{IsResting}
pub use Rattle.df_crew.specs.Seen.{core_at, crew_at, origin_of, seen_of}
pub use Rattle.df_crew.specs.declared.origin.Origin.{Origin}
pub use Rattle.df_kept.specs.Kept.{IsPlace, KeptState, kept_at}
pub use Rattle.df_label.specs.Ascending.{contains_by}
pub use Rattle.df_label.specs.Tag.{maker_of, number_of}
pub use Rattle.df_local.specs.code.LocalState.{LocalState}
pub use Rattle.df_machine.specs.Journal.{IsRoll, State, appended, firsts, has_delivery_in, is_due, local_of}
pub use Rattle.df_rules.specs.Follows.{Brain, Calls, Follows, IsAtRest, Last, Quiet, Wait, Want, began_with, brain_of, has_entry, is_of, last_of, replies_of, root_began, state_after, wanted}
pub use Rattle.df_rules.specs.Own.{born, fixed, made_by, own, own_instance, own_plain, root_at, stepped}
pub use Rattle.df_rules.specs.Start.{rows}
pub use Rattle.df_start.specs.declared.start.RootStart.{RootStart}
pub use Rattle.df_turn.specs.Locally.{TurnState, most_local}
pub use Rattle.df_turn.specs.code.Going.{IsEnded, IsGoing}
pub use Rattle.df_unit.proofs.SameFacts.{same_name-exact}
pub use Rattle.df_unit.specs.OwnState.{OwnState}
pub use Rattle.df_unit.specs.Rows.{after, is_nil}
pub use Rattle.df_unit.specs.UnitOrder.{unit_cmp}
pub use Rattle.df_unit.specs.UnitOrderLaws.{unit_cmp_ties}
pub use Rattle.df_unit.specs.declared.call.Call.{Call}
pub use Rattle.df_unit.specs.declared.entry.Entry.{Entry}
pub use Rattle.df_unit.specs.declared.entry.Entry.TheVariants.{Done, Emitted}
pub use Rattle.df_unit.specs.declared.name.UnitName.{UnitName}
pub use Rattle.df_unit.specs.declared.name.UnitName.TheVariants.{Managed, Root}
pub use Rattle.std.proofs.Common.{Bool, Bor, Err, List, None, Ok, Option, Result, Some, [], ap, arith, cond, drop, false, get_or, inl, inr, is_eq, length, length-append, map, refl, rules, subst, suc, sym, take, true, zero, ℕ, ◌++◌, ◌+◌, ◌-◌, ◌<◌, ◌^◌, ◌||◌, ◌∙◌, ◌∷◌, ◌≡◌, ◌≤◌, ◌⊎◌}
pub use Rattle.std.proofs.lemmas.Bool.{or_cases}
pub use Rattle.std.proofs.lemmas.List.{drop_at, length-drop, length-reverse, reverse-append, reverse-reverse, take_all}
pub use Rattle.std.specs.List.{list_any}
pub use Rattle.std.specs.Option.{option_map, option_or}
pub use Rattle.std.specs.Prelude.{IfErr, IsSome, OnErr, OnOk, is_some, not, option_copied, reverse, slice_get, ⊤}
pub use mathlib.Core.List.{IsPrefix}
