-- The names that most proofs here cite, passed on from one place. Declares nothing.
pub use Rattle.df_label.specs.Ascending.{IsAscending, IsBelow}
pub use Rattle.df_roll.specs.Chunks.{AreFilled, AreOrdered, IsAbove, IsPut, first_cmp, joined, place_in}
pub use Rattle.df_roll.specs.Roll.{RollState, names_in, seat_of}
pub use Rattle.df_roll.specs.declared.seat.Seat.{Seat}
pub use Rattle.df_unit.proofs.OrderFacts.{unit_cmp_exact}
pub use Rattle.df_unit.specs.Name.{same}
pub use Rattle.df_unit.specs.UnitOrder.{unit_cmp}
pub use Rattle.df_unit.specs.UnitOrderLaws.{unit_cmp_ties}
pub use Rattle.df_unit.specs.declared.name.UnitName.{UnitName}
pub use Rattle.std.proofs.Common.{Bool, Err, IfErr, IfOk, List, None, Ok, Option, Result, Some, [], ap, arith, drop, false, get_or, if◌then◌else◌, length, refl, reverse, rules, set, subst, suc, sym, take, true, vec_capacity, vec_len, zero, ℕ, ◌*◌, ◌++◌, ◌+◌, ◌-◌, ◌<◌, ◌∙◌, ◌∷◌, ◌≡◌, ◌≤◌}
pub use Rattle.std.proofs.lemmas.Fn.{always_returns_same}
pub use Rattle.std.proofs.lemmas.List.{append_assoc, at_drop_more, get_or-append-add, get_or_append_left, length-append, length-map, map-append}
pub use Rattle.std.proofs.lemmas.List.Edits.{insert-append_left, insert-append_right}
pub use Rattle.std.specs.List.{insert}
pub use Rattle.std.specs.List.Sorted.{IsBinarySearchResult, IsNonDecreasingBy, IsPartitionPoint, IsSearchInRange}
pub use Rattle.std.specs.Option.{option_or}
pub use Rattle.std.specs.Ordering.{is_eq, ordering_index}
pub use Rattle.std.specs.Prelude.{is_some, slice_get, slice_index_or}
pub use Rattle.std.specs.declared.cmp.Ordering.TheVariants.{Equal, Greater, Less}
