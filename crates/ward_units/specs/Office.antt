-- The office as a step function.
use Rattle.std.specs.Prelude.{List, codes}
use Rattle.df_filter.specs.declared.clause.Clause.{Clause}
use Rattle.df_rules.specs.Follows.{Calls, Last, Replied, Start, Wait, Want}
use Rattle.df_unit.specs.declared.call.Call.TheVariants.{DropEvent}
use Rattle.df_unit.specs.declared.reply.Reply.{Reply}
use Rattle.ward_units.specs.Wishes.{reads, subscribes}
use Rattle.ward_units.specs.declared.office.Office.{Office}
use Rattle.ward_units.specs.declared.office.OfficeStage.{OfficeStage}
use Rattle.ward_units.specs.declared.office.OfficeStage.TheVariants.{Fresh, Subscribes, Waits, ReadsBed, ReadsDiagnosis, Drops}

-- an office that nothing was asked of yet
abbrev pub begins : List Clause → Office
begins filter = record { filter = filter; stage = Fresh }

-- what follows a reply
abbrev pub stage_after : OfficeStage → Last → OfficeStage
stage_after s Start = Subscribes
stage_after Waits (Replied (Reply.Event h sub)) = ReadsBed h
stage_after (ReadsBed h) (Replied r) = ReadsDiagnosis h
stage_after (ReadsDiagnosis h) (Replied r) = Drops h
stage_after _ _ = Waits

-- what is wanted at a stage
abbrev pub wanted_at : Office → OfficeStage → Want
wanted_at o Fresh = Wait
wanted_at o Subscribes = subscribes o.filter
wanted_at o Waits = Wait
wanted_at o (ReadsBed h) = reads h (codes "bed")
wanted_at o (ReadsDiagnosis h) = reads h (codes "diagnosis")
wanted_at o (Drops h) = Calls (DropEvent h)

-- the office at another stage
abbrev pub at : Office → OfficeStage → Office
at o s = record o { stage = s }

abbrev pub next : Office → Last → Want × Office
next o last = (wanted_at o (stage_after o.stage last), at o (stage_after o.stage last))
