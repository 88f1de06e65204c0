-- The doctor as a step function.
use Rattle.std.specs.Prelude.{List, codes}
use Rattle.df_filter.specs.declared.clause.Clause.{Clause}
use Rattle.df_rules.specs.Follows.{Calls, Last, Replied, Start, Wait, Want}
use Rattle.df_unit.specs.declared.call.Call.TheVariants.{DropEvent, Release}
use Rattle.df_unit.specs.declared.reply.Reply.{Reply}
use Rattle.ward_units.specs.Wishes.{adds, reads, subscribes}
use Rattle.ward_units.specs.declared.doctor.Doctor.{Doctor}
use Rattle.ward_units.specs.declared.doctor.DoctorStage.{DoctorStage}
use Rattle.ward_units.specs.declared.doctor.DoctorStage.TheVariants.{Fresh, Subscribes, Waits, ReadsBed, ReadsDiagnosis, Marks, Releases, Drops}
use Rattle.ward_units.specs.declared.new_part.NewPart.{NewPart}

-- a doctor that nothing was asked of yet
abbrev pub begins : List Clause → NewPart → Doctor
begins filter mark = record { filter = filter; mark = mark; stage = Fresh }

-- what follows a reply
abbrev pub stage_after : DoctorStage → Last → DoctorStage
stage_after s Start = Subscribes
stage_after Waits (Replied (Reply.Event h sub)) = ReadsBed h
stage_after (ReadsBed h) (Replied r) = ReadsDiagnosis h
stage_after (ReadsDiagnosis h) (Replied (Reply.Parts ps)) = Marks h
stage_after (ReadsDiagnosis h) (Replied _) = Drops h
stage_after (Marks h) (Replied Reply.Ok) = Releases h
stage_after (Marks h) (Replied _) = Drops h
stage_after (Releases h) (Replied Reply.Ok) = Waits
stage_after (Releases h) (Replied _) = Drops h
stage_after _ _ = Waits

-- what is wanted at a stage
abbrev pub wanted_at : Doctor → DoctorStage → Want
wanted_at d Fresh = Wait
wanted_at d Subscribes = subscribes d.filter
wanted_at d Waits = Wait
wanted_at d (ReadsBed h) = reads h (codes "bed")
wanted_at d (ReadsDiagnosis h) = reads h (codes "diagnosis")
wanted_at d (Marks h) = adds h d.mark
wanted_at d (Releases h) = Calls (Release h)
wanted_at d (Drops h) = Calls (DropEvent h)

-- the doctor at another stage
abbrev pub at : Doctor → DoctorStage → Doctor
at d s = record d { stage = s }

abbrev pub next : Doctor → Last → Want × Doctor
next d last = (wanted_at d (stage_after d.stage last), at d (stage_after d.stage last))
