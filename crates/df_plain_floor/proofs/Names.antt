-- The names that most proofs here cite, passed on from one place. Declares nothing.
pub use Rattle.df_booking.specs.CrewState.{CrewState}
pub use Rattle.df_booking.specs.Turns.{turned}
pub use Rattle.df_crew.proofs.Growing.{more_longer, more_refl, more_same, more_trans, turn_more}
pub use Rattle.df_crew.specs.Growing.{IsMore}
pub use Rattle.df_machine.specs.Journal.{IsRoll, State, firsts, local_of}
pub use Rattle.df_plain_floor.specs.Grown.{AreTurns, HasBrain, IsAppending}
pub use Rattle.df_plain_floor.specs.PlainRun.{IsAtLimit, IsPass, IsQuiet, IsTurn, Opened, Repeated, RunsOut, is_full, take_turn, take_turns}
pub use Rattle.df_rules.specs.Follows.{Brain, brain_of}
pub use Rattle.df_unit.specs.declared.name.UnitName.{UnitName}
pub use Rattle.std.proofs.Common.{Bool, Err, List, Ok, Option, Result, Some, [], add-one, ap, arith, cond, drop, drop-cons, eqb, false, get_or, inl, inr, length, not, refl, subst, suc, sym, true, zero, ℕ, ◌++◌, ◌+◌, ◌-◌, ◌<◌, ◌↔◌, ◌∙◌, ◌∷◌, ◌≡◌, ◌≤◌, ◌⊎◌}
pub use Rattle.std.specs.Prelude.{IfOk, OnErr, OnOk, is_some, nat_eq, slice_get}
