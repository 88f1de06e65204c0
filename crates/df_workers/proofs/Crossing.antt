-- A worker may go to another thread where its brains may, and threads may share them. So they may share what they work with.
use Rattle.df_workers.proofs.Names.{IsSend, IsSync, sendable, shr_sync}
use mathlib.Core.List.{List, [], ◌∷◌}
use mir.Syntax.{static}
use base.Fml.{Lft}
use denote.RattleType.{RattleType}
use denote.Ref.{NamedLft, ShrRef}
use denote.Struct.Field.{u64-field}
use denote.Struct.Tuple.{TupleAt, type_at}
use Rattle.df_brain.specs.declared.brain.Brain as Brain
use Rattle.df_crew.specs.contracts.crew.Crew as Crew
use Rattle.df_crew.specs.contracts.journaled.CrewJournaled.TheImpl as crew
use Rattle.df_crew.specs.contracts.origin.Origin as Origin
use Rattle.df_rules.specs.declared.StepFunction as StepFunction
use Rattle.df_sendable.proofs.Crews.{crew_send}
use Rattle.df_sendable.proofs.Hubs.{pass_send}
use Rattle.df_sendable.proofs.Records.{record_send, record_sync}
use Rattle.df_sendable.proofs.Units.{unit_name_sync}
use Rattle.df_unit.specs.contracts.entry.Entry as Entry
use Rattle.df_workers.specs.contracts.worker.Share as Share
use Rattle.df_workers.specs.contracts.worker.Worker as Worker

pub worker_send : (B : RattleType) (brain : Brain.Ghosts B.Denot) (steps : StepFunction.Ghosts B.Denot) → IsSend B → IsSync B
    → IsSend (Worker.the_row B brain steps)
worker_send B brain steps sent seen = record_send (Worker.the_type B brain steps) (
  pass_send (Crew.the_row B steps) (crew_send B steps sent seen) (Origin.the_row B) Entry.the_row
      (crew.ghosts B brain crew.no_dict steps crew.no_dict crew.no_dict),
  (search sendable depth 40, tt),
)

share_sync : (ℓ : NamedLft) → IsSync (Share.the_row ℓ)
share_sync ℓ = record_sync (Share.the_type ℓ) (search (unit_name_sync, sendable) depth 40)

-- the runtime, the hub, the gate, the share and the limit
module _ (R H G : RattleType) (κ₁ κ₂ κ₃ κ₄ κ₅ κ₆ : Lft) where
  abbrev kinds : List RattleType
  kinds = ShrRef static κ₁ R ∷ ShrRef static κ₂ H ∷ ShrRef static κ₃ G ∷ ShrRef static κ₄ (Share.the_row (record { mir = static; lft = κ₅ })) ∷ ShrRef static
      κ₆ u64-field.row ∷ []

  pub tools_sync : IsSync R → IsSync H → IsSync G → IsSync (TupleAt [] kinds)
  tools_sync rt hub gate = record_sync (type_at [] kinds) (
    shr_sync static κ₁ R rt,
    (
      shr_sync static κ₂ H hub,
      (
        shr_sync static κ₃ G gate,
        (shr_sync static κ₄ _ (share_sync (record { mir = static; lft = κ₅ })), (shr_sync static κ₆ u64-field.row (search sendable depth 20), tt)),
      ),
    ),
  )
