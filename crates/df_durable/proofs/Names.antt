-- The names that most proofs here cite, passed on from one place. Declares nothing.
pub use Rattle.df_disk.specs.Disk.{IsSettled, LeavesOnly, NoMore}
pub use Rattle.df_disk.specs.Records.{IsAtRest, IsEmpty, Keeps, KeepsOrOneMore}
pub use Rattle.df_durable.specs.Keeping.{AppendsTo, IsEmptyOrFirst, IsEmptyOrStarted, IsOnDisk, KeepsBeforeOrAfter, next_entry}
pub use Rattle.df_durable.specs.Opening.{IfRead, IsOf, not_taken}
pub use Rattle.df_durable.specs.declared.cause.OpenCause.{OpenCause}
pub use Rattle.df_durable.specs.declared.keeping.KeptCore.{KeptCore}
pub use Rattle.df_image.specs.Front.{IsFront, KeepsTo, TakesEntry}
pub use Rattle.df_image.specs.Image.{IsKept, State, entry_record, records_of, start_record}
pub use Rattle.df_unit.specs.declared.entry.Entry.{Entry}
pub use Rattle.std.proofs.Common.{Bool, Err, List, None, Ok, Option, Result, Some, [], ap, arith, false, inl, inr, length, length-drop, refl, subst, sym, true, zero-add, ℕ, ⊎_elim, ◌++◌, ◌+◌, ◌-◌, ◌<◌, ◌^◌, ◌∙◌, ◌∷◌, ◌≡◌, ◌⊎◌}
pub use Rattle.std.specs.Prelude.{IfOk, IfSome, IsTrue, OnOk, slice_get, ◌↔◌}
