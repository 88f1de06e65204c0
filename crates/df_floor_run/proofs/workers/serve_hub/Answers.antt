use Rattle.df_floor_run.proofs.Names.{sendable, crosses}
use Rattle.df_floor_run.proofs.Crossing.{floor_brain_send, floor_brain_sync}
use Rattle.df_floor_run.proofs.workers.serve_hub.Goals as goal

pub run-ran-requires-send-B : goal.run-ran-requires-send-B
run-ran-requires-send-B g c = search (floor_brain_send, sendable, crosses) depth 40 fits 20000

pub run-ran-requires-sync-B : goal.run-ran-requires-sync-B
run-ran-requires-sync-B g c = search (floor_brain_sync, sendable, crosses) depth 40 fits 20000
