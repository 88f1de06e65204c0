-- Workers before and after their round.
use Rattle.std.specs.Prelude.{◌≡◌, ◌<◌, ⊤, ℕ, false, List, Some, length, slice_get}
use Rattle.df_crew.specs.Seen.{core_at}
use Rattle.df_crew.specs.declared.origin.Origin.{Origin}
use Rattle.df_desk.specs.Pass.{DeskId, IsFree}
use Rattle.df_machine.specs.Journal.{IsRoll}
use Rattle.df_rules.specs.Follows.{Brain}
use Rattle.df_unit.specs.declared.entry.Entry.{Entry}
use Rattle.df_unit.specs.declared.name.UnitName.{UnitName}
use Rattle.df_workers.specs.code.Came.{HasWorked, is_over}
use Rattle.df_workers.specs.declared.came.Came.{Came}
use Rattle.df_workers.specs.declared.came.Came.TheVariants.{Still, Moved, Full, NoMemory}
use Rattle.df_workers.specs.declared.worker.Worker.{Worker}

-- each worker has done the round's work of its number
pub record HaveWorked {B : Type 0} (brain : Brain B) (desk : DeskId (Origin B)) (max workers : ℕ)
    (units : List UnitName) (olds news : List (Worker B)) : Type 0 where
  pub count : length news ≡ length olds
  pub each : (k : ℕ) (old new : Worker B) → slice_get olds k ≡ Some old →
      slice_get news k ≡ Some new → HasWorked brain desk max workers units k old new

-- a round's workers: each had a pass that had seen this, and has done the work of its number for
-- the units that existed there
pub record IsRound {B : Type 0} (brain : Brain B) (desk : DeskId (Origin B)) (max workers : ℕ)
    (seen : List Entry) (all : List (Worker B)) : Type 0 where
  pub units : List UnitName
  pub roll : IsRoll (core_at desk.origin seen) units
  pub some : 0 < workers
  pub count : length all ≡ workers
  pub each : (k : ℕ) (new : Worker B) → slice_get all k ≡ Some new → (old : Worker B)
      × (old.pass.seen ≡ seen) × HasWorked brain desk max workers units k old new

module _ {B : Type 0} where
  -- the worker has a pass of the desk that has seen this and has nothing
  pub record IsHired (desk : DeskId (Origin B)) (seen : List Entry) (worker : Worker B) :
      Type 0 where
    pub free : IsFree desk worker.pass
    pub seen_is : worker.pass.seen ≡ seen

  -- this holds of each worker
  abbrev pub Each : (Worker B → Type 0) → List (Worker B) → Type 0
  Each P workers = (k : ℕ) (worker : Worker B) → slice_get workers k ≡ Some worker → P worker

  -- this came of the steps of some worker
  pub record HasCame (workers : List (Worker B)) (came : Came) : Type 0 where
    pub place : ℕ
    pub worker : Worker B
    pub at : slice_get workers place ≡ Some worker
    pub is : worker.came ≡ came

  -- this came of the steps of all workers together
  abbrev pub CameOf : List (Worker B) → Came → Type 0
  CameOf workers Still = Each (λ worker. worker.came ≡ Still) workers
  CameOf workers Moved =
      Each (λ worker. is_over worker.came ≡ false) workers × HasCame workers Moved
  CameOf workers Full = HasCame workers Full
  CameOf workers NoMemory = ⊤
