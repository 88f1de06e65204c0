-- A crew may cross threads where its brains may, and threads may share them.
use denote.RattleType.{RattleType}
use denote.Param.Send.{IsSend, IsSync, sendable}
use Rattle.std.proofs.Crossing.{crosses}
use Rattle.df_brain.specs.contracts.last.Last as Last
use Rattle.df_crew.specs.contracts.crew.Crew as Crew
use Rattle.df_crew.specs.contracts.crew.Crew.TheInside as crew-inside
use Rattle.df_kept.specs.contracts.kept.Kept as Kept
use Rattle.df_kept.specs.contracts.kept.Kept.TheInside as kept-inside
use Rattle.df_machine.specs.contracts.machine.Core as Core
use Rattle.df_machine.specs.contracts.tables.Tables as MachineTables
use Rattle.df_rules.specs.declared.StepFunction.{Ghosts}
use Rattle.df_start.specs.contracts.start.RootStart as RootStart
use Rattle.df_start.specs.contracts.start.Start as Start
use Rattle.df_turn.specs.contracts.mind.Mind as Mind
use Rattle.df_turn.specs.contracts.mind.Mind.TheInside as mind-inside
use Rattle.df_turn.specs.contracts.shared.Shared as Shared
use Rattle.df_turn.specs.contracts.shared.Shared.TheInside as shared-inside
use Rattle.df_sendable.proofs.Labels.{labels}
use Rattle.df_sendable.proofs.Records.{model_send}
use Rattle.df_sendable.proofs.Tables.{board_field_send, roll_send}
use Rattle.df_sendable.proofs.Units.{units}

root_start_field_send : IsSend (RootStart.the_field).row
root_start_field_send = search (labels, sendable, crosses) depth 40 fits 20000

root_start_send : IsSend RootStart.the_row
root_start_send = search (root_start_field_send, sendable) depth 40

pub start_send : IsSend Start.the_row
start_send = search (root_start_send, sendable, crosses) depth 40 fits 20000

machine_tables_field_send : IsSend (MachineTables.the_field).row
machine_tables_field_send = search (board_field_send, sendable, crosses) depth 40 fits 20000

pub core_send : IsSend Core.the_row
core_send = search (start_send, machine_tables_field_send, units, sendable, crosses) depth 40 fits 20000

last_field_send : IsSend (Last.the_field).row
last_field_send = search (units, sendable, crosses) depth 40 fits 20000

kept_send : (V : RattleType) → IsSend V → IsSend (Kept.the_row V)
kept_send V value = model_send (kept-inside.the_type V) (search (value, roll_send, sendable, crosses) depth 40 fits 20000)

module _ (B : RattleType) (g : Ghosts B.Denot) (sent : IsSend B) (seen : IsSync B) where
  shared_send : IsSend (Shared.the_row B g)
  shared_send = model_send (shared-inside.the_type B g) (search (sent, seen, sendable, crosses) depth 40 fits 20000)

  mind_send : IsSend (Mind.the_row B g)
  mind_send = model_send (mind-inside.the_type B g) (search (shared_send, last_field_send, sendable, crosses) depth 40 fits 20000)

  pub crew_send : IsSend (Crew.the_row B g)
  crew_send = model_send (crew-inside.the_type B g) (
    core_send,
    (
      search (sent, sendable, crosses) depth 40 fits 20000,
      (kept_send (Mind.the_row B g) mind_send, (kept_send B sent, (search (sendable, crosses) depth 40, tt))),
    ),
  )
