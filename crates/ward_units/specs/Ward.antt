-- The ward as a step function.
use Rattle.std.specs.Prelude.{ℕ, List}
use Rattle.df_rules.specs.Follows.{Calls, Last, Replied, Start, Wait, Want}
use Rattle.df_unit.specs.declared.call.Call.TheVariants.{CreateEvent, Publish}
use Rattle.df_unit.specs.declared.reply.Reply.{Reply}
use Rattle.ward_units.specs.Wishes.{adds, lets_out}
use Rattle.ward_units.specs.declared.new_part.NewPart.{NewPart}
use Rattle.ward_units.specs.declared.ward.Ward.{Ward}
use Rattle.ward_units.specs.declared.ward.WardStage.{WardStage}
use Rattle.ward_units.specs.declared.ward.WardStage.TheVariants.{Fresh, LetsOut, Creates, AddsBed, AddsDiagnosis, Publishes, Rests}

-- a ward that nothing was asked of yet
abbrev pub begins : List ℕ → NewPart → NewPart → Ward
begins tag bed diagnosis =
    record { tag = tag; bed = bed; diagnosis = diagnosis; stage = Fresh }

-- what follows a reply
abbrev pub stage_after : WardStage → Last → WardStage
stage_after s Start = LetsOut
stage_after LetsOut (Replied Reply.Ok) = Creates
stage_after Creates (Replied (Reply.Handle h)) = AddsBed h
stage_after (AddsBed h) (Replied Reply.Ok) = AddsDiagnosis h
stage_after (AddsDiagnosis h) (Replied Reply.Ok) = Publishes h
stage_after _ _ = Rests

-- what is wanted at a stage
abbrev pub wanted_at : Ward → WardStage → Want
wanted_at w Fresh = Wait
wanted_at w LetsOut = lets_out w.tag
wanted_at w Creates = Calls CreateEvent
wanted_at w (AddsBed h) = adds h w.bed
wanted_at w (AddsDiagnosis h) = adds h w.diagnosis
wanted_at w (Publishes h) = Calls (Publish h)
wanted_at w Rests = Wait

-- the ward at another stage
abbrev pub at : Ward → WardStage → Ward
at w s = record w { stage = s }

abbrev pub next : Ward → Last → Want × Ward
next w last = (wanted_at w (stage_after w.stage last), at w (stage_after w.stage last))
