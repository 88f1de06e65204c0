-- How a run that stands still has ended.
use Rattle.df_plain_floor.proofs.Names.{◌≡◌, ◌↔◌, ◌≤◌, ℕ, Bool, true, false, refl, length, Result, Ok, Err, IfOk, CrewState, IsAtLimit, IsQuiet, is_full, Brain}
use Rattle.std.proofs.lemmas.Bool.{leb-true}
use Rattle.df_plain_floor.specs.declared.run.Ended.{Ended}
use Rattle.df_plain_floor.specs.declared.run.Ended.TheVariants.{Limit, Quiet}

-- where a journal below the limit is quiet, a run ends at the limit exactly where it isn't quiet
ended : {B : Type 0} (brain : Brain B) (max : ℕ) (crew : CrewState B) (e : Ended) → ((e ≡ Quiet) ↔ IsQuiet brain crew) → (is_full max crew ≡ false →
    IsQuiet brain crew) →
    (e ≡ Limit) ↔ IsAtLimit brain max crew
ended brain max crew Quiet told rest = (λ e. absurd (let z : ⊥ = cc in z), λ at. absurd (at.1 (told.0 refl)))
ended brain max crew Limit told rest = (λ _. (by (is_full max crew) refl, not_quiet), λ _. refl)
  where
    not_quiet : IsQuiet brain crew → ⊥
    not_quiet q = let e = told.1 q in let z : ⊥ = cc in z

    by : (b : Bool) → is_full max crew ≡ b → max ≤ length crew.core.1
    by true full = leb-true max (length crew.core.1) full
    by false below = absurd (not_quiet (rest below))

pub ended_so : {B F : Type 0} (brain : Brain B) (max : ℕ) (crew : CrewState B) (r : Result Ended F) → IfOk r (λ e. (e ≡ Quiet) ↔ IsQuiet brain crew) →
    (is_full max crew ≡ false → IsQuiet brain crew) →
    IfOk r (λ e. (e ≡ Limit) ↔ IsAtLimit brain max crew)
ended_so brain max crew (Ok e) told rest = ended brain max crew e told rest
ended_so brain max crew (Err x) told rest = tt
