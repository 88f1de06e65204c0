-- The brains of the units may cross threads, and threads may share them.
use denote.Param.Send.{IsSend, IsSync, sendable}
use Rattle.std.proofs.Crossing.{crosses}
use Rattle.df_filter.specs.contracts.clause.Clause as Clause
use Rattle.df_filter.specs.contracts.clause.Test as Test
use Rattle.df_filter.specs.contracts.field_test.FieldTest as FieldTest
use Rattle.df_filter.specs.contracts.filter.Filter as Filter
use Rattle.df_frozen.specs.contracts.words.Words as Words
use Rattle.df_sendable.proofs.Labels.{labels}
use Rattle.df_sendable.proofs.Parts.{filter_send}
use Rattle.df_sendable.proofs.Values.{values}
use Rattle.ward_units.specs.contracts.doctor.Doctor as Doctor
use Rattle.ward_units.specs.contracts.new_part.NewPart as NewPart
use Rattle.ward_units.specs.contracts.office.Office as Office
use Rattle.ward_units.specs.contracts.role.Role as Role
use Rattle.ward_units.specs.contracts.ward.Ward as Ward

words_sync : IsSync Words.the_row
words_sync = search (sendable, crosses) depth 40 fits 20000

field_test_field_sync : IsSync (FieldTest.the_field).row
field_test_field_sync = search (words_sync, values, sendable, crosses) depth 40 fits 20000

test_field_sync : IsSync (Test.the_field).row
test_field_sync = search (field_test_field_sync, words_sync, values, sendable, crosses) depth 40 fits 20000

clause_field_sync : IsSync (Clause.the_field).row
clause_field_sync = search (test_field_sync, values, sendable, crosses) depth 40 fits 20000

clause_sync : IsSync Clause.the_row
clause_sync = search (clause_field_sync, sendable) depth 40

filter_sync : IsSync Filter.the_row
filter_sync = search (clause_sync, sendable, crosses) depth 40 fits 20000

part_field_send : IsSend (NewPart.the_field).row
part_field_send = search (labels, values, sendable, crosses) depth 40 fits 20000

part_field_sync : IsSync (NewPart.the_field).row
part_field_sync = search (labels, values, sendable, crosses) depth 40 fits 20000

ward_field_send : IsSend (Ward.the_field).row
ward_field_send = search (part_field_send, labels, sendable, crosses) depth 40 fits 20000

ward_field_sync : IsSync (Ward.the_field).row
ward_field_sync = search (part_field_sync, labels, sendable, crosses) depth 40 fits 20000

doctor_field_send : IsSend (Doctor.the_field).row
doctor_field_send = search (part_field_send, filter_send, sendable, crosses) depth 40 fits 20000

doctor_field_sync : IsSync (Doctor.the_field).row
doctor_field_sync = search (part_field_sync, filter_sync, sendable, crosses) depth 40 fits 20000

office_field_send : IsSend (Office.the_field).row
office_field_send = search (filter_send, sendable, crosses) depth 40 fits 20000

office_field_sync : IsSync (Office.the_field).row
office_field_sync = search (filter_sync, sendable, crosses) depth 40 fits 20000

role_field_send : IsSend (Role.the_field).row
role_field_send = search (ward_field_send, doctor_field_send, office_field_send, sendable) depth 40 fits 20000

role_field_sync : IsSync (Role.the_field).row
role_field_sync = search (ward_field_sync, doctor_field_sync, office_field_sync, sendable) depth 40 fits 20000

pub role_send : IsSend Role.the_row
role_send = search (role_field_send, sendable) depth 40

pub role_sync : IsSync Role.the_row
role_sync = search (role_field_sync, sendable) depth 40
