-- No unit of the floor wants to make a unit.
use Rattle.std.specs.Prelude.{◌≡◌, ℕ, zero, suc, false, refl, List, Option, Some, None, slice_get}
use Rattle.df_brain.specs.Brain.{is_child_wanted}
use Rattle.df_messages.specs.declared.draft.Draft.{Draft}
use Rattle.df_rules.specs.Follows.{Last}
use Rattle.df_floor_units.specs.Floor.{Mind, adds, calls, moved, next, reads, wanted_at}
use Rattle.df_floor_units.specs.Opening.{opening}
use Rattle.df_floor_units.specs.declared.kind.Kind.{Kind}
use Rattle.df_floor_units.specs.declared.kind.Kind.TheVariants as kind
use Rattle.df_floor_units.specs.declared.stage.Stage.{Stage}
use Rattle.df_floor_units.specs.declared.stage.Stage.TheVariants as stage

opens_none : (k : Kind) (place : ℕ) → is_child_wanted (calls (slice_get (opening k) place)) ≡ false
opens_none (kind.Exchange ticks from) place = refl
opens_none (kind.Broker b) zero = refl
opens_none (kind.Broker b) (suc zero) = refl
opens_none (kind.Broker b) (suc (suc place)) = refl
opens_none kind.Regulator zero = refl
opens_none kind.Regulator (suc place) = refl
opens_none (kind.Trader t) zero = refl
opens_none (kind.Trader t) (suc zero) = refl
opens_none (kind.Trader t) (suc (suc zero)) = refl
opens_none (kind.Trader t) (suc (suc (suc place))) = refl
opens_none (kind.Monitor a b pair) zero = refl
opens_none (kind.Monitor a b pair) (suc zero) = refl
opens_none (kind.Monitor a b pair) (suc (suc place)) = refl
opens_none kind.Watcher zero = refl
opens_none kind.Watcher (suc place) = refl

reads_none : (h : ℕ) (o : Option (List ℕ)) → is_child_wanted (reads h o) ≡ false
reads_none h None = refl
reads_none h (Some name) = refl

adds_none : (h : ℕ) (o : Option Draft) → is_child_wanted (adds h o) ≡ false
adds_none h None = refl
adds_none h (Some d) = refl

wants_none : (m : Mind) (s : Stage) → is_child_wanted (wanted_at m s) ≡ false
wants_none m stage.Fresh = refl
wants_none m (stage.Opens place) = opens_none m.kind place
wants_none m stage.Rests = refl
wants_none m (stage.Reads h sub place) = reads_none h _
wants_none m (stage.Drops h) = refl
wants_none m stage.Creates = refl
wants_none m (stage.Adds h place) = adds_none h _
wants_none m (stage.Publishes h) = refl
wants_none m stage.Stopped = refl
wants_none m (stage.StoppedDrops h) = refl

-- whatever a unit is told
pub makes_no_unit : (m : Mind) (last : Last) → is_child_wanted (next m last).0 ≡ false
makes_no_unit m last = wants_none (moved m last) (moved m last).stage
