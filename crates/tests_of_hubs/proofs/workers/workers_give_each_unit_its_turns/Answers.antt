use denote.Param.Send.{sendable}
use Rattle.std.proofs.Crossing.{crosses}
use Rattle.tests_of_hubs.proofs.Crossing.{player_send, player_sync}
use Rattle.tests_of_hubs.proofs.workers.workers_give_each_unit_its_turns.Goals as goal

pub run-requires-send-B : goal.run-requires-send-B
run-requires-send-B g c = search (player_send, sendable, crosses) depth 40 fits 20000

pub run-requires-sync-B : goal.run-requires-sync-B
run-requires-sync-B g c = search (player_sync, sendable, crosses) depth 40 fits 20000
