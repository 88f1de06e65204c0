-- The names that most proofs here cite, passed on from one place. Declares nothing.
pub use Rattle.df_format.specs.Format.{Cause, Ends, Format, Found, IsLocal, IsViable, Stuck, place}
pub use Rattle.df_format.specs.Grammar.{CanGoOn, FirstBad, IsLongest, Stands}
pub use Rattle.df_format.specs.Reading.{Bad, Low, Read, Stop, all_at, as_at, behind_at, closed_at, decoded, either_at, items_at, maybe_at, more_at, more_of, one_at, starts, text_at, then_at, while_at, with_front, ◌>>=◌}
pub use Rattle.std.proofs.Common.{Bool, Err, List, None, Ok, Option, Result, Some, [], ap, append-nil, append_assoc, arith, cond, eq-eqb, eqb, false, inl, inr, length, length-append, refl, subst, suc, sym, true, zero, ℕ, ◌++◌, ◌<◌, ◌∙◌, ◌∷◌, ◌≡◌, ◌≤◌, ◌⊎◌}
pub use Rattle.std.specs.List.{AllByRecursion, flat_map}
