-- The units of the tests may cross threads, and threads may share them.
use denote.Param.Send.{IsSend, IsSync, sendable}
use Rattle.std.proofs.Crossing.{crosses}
use Rattle.df_filter.specs.contracts.clause.Clause as Clause
use Rattle.df_filter.specs.contracts.clause.Test as Test
use Rattle.df_filter.specs.contracts.field_test.FieldTest as FieldTest
use Rattle.df_filter.specs.contracts.filter.Filter as Filter
use Rattle.df_sendable.proofs.Labels.{labels}
use Rattle.df_sendable.proofs.Parts.{contents}
use Rattle.df_sendable.proofs.Values.{values}
use Rattle.tests_of_hubs.specs.contracts.player.Player as Player
use Rattle.tests_of_hubs.specs.contracts.teller.Stage as Stage
use Rattle.tests_of_hubs.specs.contracts.teller.Teller as Teller

field_test_field_sync : IsSync (FieldTest.the_field).row
field_test_field_sync = search (values, sendable, crosses) depth 40 fits 20000

test_field_sync : IsSync (Test.the_field).row
test_field_sync = search (field_test_field_sync, values, sendable, crosses) depth 40 fits 20000

clause_field_sync : IsSync (Clause.the_field).row
clause_field_sync = search (test_field_sync, values, sendable, crosses) depth 40 fits 20000

clause_sync : IsSync Clause.the_row
clause_sync = search (clause_field_sync, sendable) depth 40

filter_sync : IsSync Filter.the_row
filter_sync = search (clause_sync, sendable, crosses) depth 40 fits 20000

stage_field_send : IsSend (Stage.the_field).row
stage_field_send = search (sendable) depth 40

stage_field_sync : IsSync (Stage.the_field).row
stage_field_sync = search (sendable) depth 40

teller_field_send : IsSend (Teller.the_field).row
teller_field_send = search (stage_field_send, labels, values, sendable, crosses) depth 40 fits 20000

teller_field_sync : IsSync (Teller.the_field).row
teller_field_sync = search (stage_field_sync, labels, values, sendable, crosses) depth 40 fits 20000

player_field_send : IsSend (Player.the_field).row
player_field_send = search (teller_field_send, contents, sendable, crosses) depth 40 fits 20000

player_field_sync : IsSync (Player.the_field).row
player_field_sync = search (teller_field_sync, filter_sync, sendable, crosses) depth 40 fits 20000

pub player_send : IsSend Player.the_row
player_send = search (player_field_send, sendable) depth 40

pub player_sync : IsSync Player.the_row
player_sync = search (player_field_sync, sendable) depth 40
