-- The step function of each unit of the ward.
use Rattle.std.specs.Prelude.{◌≡◌, ℕ, false, refl}
use Rattle.df_brain.specs.Brain.{is_child_wanted}
use Rattle.df_rules.specs.Follows.{Last, Want}
use Rattle.ward_units.specs.Doctor as doctor
use Rattle.ward_units.specs.Office as office
use Rattle.ward_units.specs.Ward as ward
use Rattle.ward_units.specs.declared.doctor.Doctor.{Doctor as DoctorState}
use Rattle.ward_units.specs.declared.doctor.DoctorStage.{DoctorStage}
use Rattle.ward_units.specs.declared.doctor.DoctorStage.TheVariants as ds
use Rattle.ward_units.specs.declared.office.Office.{Office as OfficeState}
use Rattle.ward_units.specs.declared.office.OfficeStage.{OfficeStage}
use Rattle.ward_units.specs.declared.office.OfficeStage.TheVariants as os
use Rattle.ward_units.specs.declared.role.Role.{Role}
use Rattle.ward_units.specs.declared.role.Role.TheVariants.{Doctor, Office, Ward}
use Rattle.ward_units.specs.declared.ward.Ward.{Ward as WardState}
use Rattle.ward_units.specs.declared.ward.WardStage.{WardStage}
use Rattle.ward_units.specs.declared.ward.WardStage.TheVariants as ws

abbrev pub next : Role → Last → Want × Role
next (Ward w) last = ((ward.next w last).0, Ward (ward.next w last).1)
next (Doctor d) last = ((doctor.next d last).0, Doctor (doctor.next d last).1)
next (Office o) last = ((office.next o last).0, Office (office.next o last).1)

-- an instance has its owner's brain
abbrev pub instance : Role → ℕ → Role
instance r sub = r

ward_makes_none : (w : WardState) (s : WardStage) → is_child_wanted (ward.wanted_at w s) ≡ false
ward_makes_none w ws.Fresh = refl
ward_makes_none w ws.LetsOut = refl
ward_makes_none w ws.Creates = refl
ward_makes_none w (ws.AddsBed h) = refl
ward_makes_none w (ws.AddsDiagnosis h) = refl
ward_makes_none w (ws.Publishes h) = refl
ward_makes_none w ws.Rests = refl

doctor_makes_none : (d : DoctorState) (s : DoctorStage) →
    is_child_wanted (doctor.wanted_at d s) ≡ false
doctor_makes_none d ds.Fresh = refl
doctor_makes_none d ds.Subscribes = refl
doctor_makes_none d ds.Waits = refl
doctor_makes_none d (ds.ReadsBed h) = refl
doctor_makes_none d (ds.ReadsDiagnosis h) = refl
doctor_makes_none d (ds.Marks h) = refl
doctor_makes_none d (ds.Releases h) = refl
doctor_makes_none d (ds.Drops h) = refl

office_makes_none : (o : OfficeState) (s : OfficeStage) →
    is_child_wanted (office.wanted_at o s) ≡ false
office_makes_none o os.Fresh = refl
office_makes_none o os.Subscribes = refl
office_makes_none o os.Waits = refl
office_makes_none o (os.ReadsBed h) = refl
office_makes_none o (os.ReadsDiagnosis h) = refl
office_makes_none o (os.Drops h) = refl

-- no unit of the ward makes units, whatever it is told
pub makes_no_unit : (r : Role) (last : Last) → is_child_wanted (next r last).0 ≡ false
makes_no_unit (Ward w) last = ward_makes_none w (ward.stage_after w.stage last)
makes_no_unit (Doctor d) last = doctor_makes_none d (doctor.stage_after d.stage last)
makes_no_unit (Office o) last = office_makes_none o (office.stage_after o.stage last)
