use denote.Param.Send.{sendable}
use Rattle.std.proofs.Crossing.{crosses}
use Rattle.ward_hub.proofs.Crossing.{role_send, role_sync}
use Rattle.ward_hub.proofs.Ran.{run_behind}
use Rattle.ward_hub.proofs.running.run_on_hub.Goals as goal

pub run-requires-send-B : goal.run-requires-send-B
run-requires-send-B g c κs within = search (role_send, sendable, crosses) depth 40 fits 20000

pub run-requires-sync-B : goal.run-requires-sync-B
run-requires-sync-B g c κs within = search (role_sync, sendable, crosses) depth 40 fits 20000

pub returns-clause-ran : goal.returns-clause-ran
returns-clause-ran g c =
    run_behind _ _ _ _ _ _ (rw (c.in_ok-hub.ensures.origin, c.in_ok-hub.ensures.seen) at c.in_ok-run.ensures.ran) c.finish.ensures.begins
