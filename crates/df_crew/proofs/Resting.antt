-- When a crew is quiet.
use Rattle.df_crew.proofs.Names.{◌≡◌, ◌⊎◌, inl, inr, ℕ, zero, suc, ◌<◌, List, [], ◌∷◌, Bool, true, false, ◌||◌, refl, sym, ◌∙◌, ap, subst, Option, Some, None, length, get_or, is_eq, arith, is_some, option_map, or_cases, CrewState, IsResting, contains_by, LocalState, IsRoll, State, firsts, local_of, Brain, Quiet, own, rows, same_name-exact, OwnState, unit_cmp, unit_cmp_ties, UnitName}
use Rattle.df_label.proofs.SetFacts.{contains-itself}
use Rattle.df_unit.proofs.OrderFacts.{unit_cmp_exact}

-- a name at a place is one of the names
named : (names : List UnitName) (k : ℕ) (d : UnitName) → k < length names → contains_by unit_cmp names (get_or names k d) ≡ true
named [] k d h = absurd (let z : ⊥ = omega arith in z)
named (v ∷ names) zero d h = contains-itself unit_cmp unit_cmp_exact v names
named (v ∷ names) (suc k) d h = by _ _ (named names k d (let z : k < length names = omega arith in z))
  where
    by : (b c : Bool) → c ≡ true → (b || c) ≡ true
    by true c e = refl
    by false c e = e

-- what is one of the names stands at a place
placed : (names : List UnitName) (u : UnitName) → contains_by unit_cmp names u ≡ true → (k : ℕ) × (k < length names) × (get_or names k u ≡ u)
placed [] u h = absurd (let z : ⊥ = cc in z)
placed (v ∷ names) u h = go (or_cases _ _ h) (λ there. placed names u there)
  where
    go : ((is_eq (unit_cmp v u) ≡ true) ⊎ (contains_by unit_cmp names u ≡ true))
        → (contains_by unit_cmp names u ≡ true → (k : ℕ) × (k < length names) × (get_or names k u ≡ u)) →
        (k : ℕ) × (k < length (v ∷ names)) × (get_or (v ∷ names) k u ≡ u)
    go (inl e) ih = (0, (let z : 0 < length (v ∷ names) = omega arith in z), same_name-exact v u (unit_cmp_ties v u ∙ e))
    go (inr there) ih = let p = ih there in (suc p.0, (let y : p.0 < length names = p.1 in let z : suc p.0 < length (v ∷ names) = omega arith in z), p.2)

-- who is named in a roll exists
pub exists_named : (core : State) (names : List UnitName) → IsRoll core names → (k : ℕ) (d : UnitName) → k < length names
    → is_some (local_of core (get_or names k d)) ≡ true
exists_named core names roll k d h = by (own rows (firsts core.0) core.1 (get_or names k d)) (sym (roll.units (get_or names k d)) ∙ named names k d h)
  where
    by : (o : Option OwnState) → is_some o ≡ true
        → is_some (option_map (λ (st : OwnState). let x : LocalState = record { unit = get_or names k d; own = st } in x) o) ≡ true
    by None e = absurd (let z : ⊥ = cc in z)
    by (Some st) e = refl

-- where each unit of a roll is at rest, all is quiet
pub quiet_by : {B : Type 0} (brain : Brain B) (crew : CrewState B) (names : List UnitName) → IsRoll crew.core names
    → ((k : ℕ) (d : UnitName) → k < length names → IsResting brain crew (get_or names k d)) →
    Quiet brain rows (firsts crew.core.0) crew.brains crew.core.1
quiet_by brain crew names roll rest = λ u st here.
    let p = placed names u (roll.units u ∙ ap is_some here) in
    subst (λ (v : UnitName). IsResting brain crew v) p.2 (rest p.0 u p.1) st here
