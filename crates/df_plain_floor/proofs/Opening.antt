-- One root more has taken its turns.
use Rattle.df_plain_floor.proofs.Names.{◌≡◌, ℕ, suc, List, [], ◌∷◌, sym, ◌∙◌, ap, subst, CrewState, IsTurn, Opened, RunsOut, Brain}
use Rattle.df_unit.specs.declared.name.UnitName.TheVariants.{Root}

pub opened_more : {B : Type 0} (brain : Brain B) (max k m : ℕ) (old mid new : CrewState B) (path : List ℕ) → m ≡ suc k → path ≡ m ∷ [] →
    Opened brain max k old mid →
    RunsOut (IsTurn brain max (Root path)) mid new → Opened brain max m old new
opened_more brain max k m old mid new path next is opened turns =
    subst (λ (n : ℕ). Opened brain max n old new) (sym next)
    (mid, opened, subst (λ (p : List ℕ). RunsOut (IsTurn brain max (Root p)) mid new) (is ∙ ap (λ (n : ℕ). n ∷ []) next) turns)
