-- A desk may be shared, and a pass may go to another thread, where what the desk has may.
-- So a hub may be shared where its brains may cross threads.
use denote.RattleType.{RattleType}
use denote.Param.Send.{IsSend, IsSync, sendable}
use denote.Param.SendFields.{variants_send}
use Rattle.std.proofs.Crossing.{crosses, frees, send}
use Rattle.std.specs.contracts.option.Option as Option
use Rattle.std.specs.contracts.snapshot.Snapshot as Snapshot
use Rattle.std.specs.contracts.alloc.Global as Global
use Rattle.std.specs.contracts.impls.GlobalAllocator.TheImpl as heap
use Rattle.atomic_table.specs.contracts.owned.Table as Table
use Rattle.atomic_table.specs.declared.shared.TableRule as TableRule
use Rattle.atomic_table.proofs.shared.Seat.TheSendSync as seat
use Rattle.atomic_table.proofs.shared.Shared.TheSendSync as shared
use Rattle.atomic_table.proofs.send_lease.SendLease.TheSendSync as lease
use Rattle.df_brain.specs.declared.brain.Brain as Brain
use Rattle.df_crew.specs.contracts.crew.Crew as Crew
use Rattle.df_crew.specs.contracts.journaled.CrewJournaled.TheImpl as crew
use Rattle.df_crew.specs.contracts.origin.Origin as Origin
use Rattle.df_desk.specs.contracts.desk.Desk as Desk
use Rattle.df_desk.specs.contracts.desk.Desk.TheInside as desk-inside
use Rattle.df_desk.specs.contracts.pass.Pass as Pass
use Rattle.df_desk.specs.contracts.pass.Pass.TheInside as pass-inside
use Rattle.df_desk.specs.contracts.rule.DeskRule as DeskRule
use Rattle.df_desk.specs.contracts.rule.DeskRuleTableRuleOptionViewSnapshot.TheImpl as rule
use Rattle.df_desk.specs.contracts.view.View as View
use Rattle.df_desk.specs.declared.journaled.Journaled as Journaled
use Rattle.df_hub.specs.contracts.hub.Hub as Hub
use Rattle.df_hub.specs.contracts.hub.Hub.TheInside as hub-inside
use Rattle.df_rules.specs.declared.StepFunction as StepFunction
use Rattle.df_unit.specs.contracts.entry.Entry as Entry
use Rattle.df_sendable.proofs.Crews.{crew_send}
use Rattle.df_sendable.proofs.Records.{model_send, model_sync}

module _ (V : RattleType) (sent : IsSend V) where
  option_send : IsSend (Option.the_row V)
  option_send = variants_send (Option.enum V) (search (sent, sendable) depth 40)

  table_sync : (g : TableRule.Ghosts (DeskRule.the_row V).Denot (Option.the_row V).Denot (View.the_row V).Denot (Snapshot.the_row V).Denot) →
      IsSync (Table.the_field (Option.the_row V) (View.the_row V) (Snapshot.the_row V) (DeskRule.the_row V) Global.the_row g heap.ghosts).row
  table_sync g = search (shared.the_sync, lease.the_sync, option_send, frees, send, sendable, crosses) depth 40 fits 20000

  module _ (O E : RattleType) (g : Journaled.Ghosts V.Denot O.Denot E.Denot) where
    pub pass_send : IsSend (Pass.the_row V O E g)
    pass_send = model_send (pass-inside.the_type V O E g) (search (seat.the_send, option_send, sendable) depth 40 fits 20000)

    pub desk_sync : IsSync (Desk.the_row V O E g)
    desk_sync = model_sync (desk-inside.the_type V O E g) (table_sync (rule.ghosts V O E g rule.no_dict), tt)

module _ (B : RattleType) (brain : Brain.Ghosts B.Denot) (steps : StepFunction.Ghosts B.Denot) (sent : IsSend B) (seen : IsSync B) where
  pub hub_sync : IsSync (Hub.the_row B brain steps)
  hub_sync = model_sync (hub-inside.the_type B brain steps) (
    desk_sync (Crew.the_row B steps) (crew_send B steps sent seen) (Origin.the_row B) Entry.the_row
        (crew.ghosts B brain crew.no_dict steps crew.no_dict crew.no_dict),
    (search (sendable, crosses) depth 40, tt),
  )
