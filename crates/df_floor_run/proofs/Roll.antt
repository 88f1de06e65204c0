-- The first unit of a roll, where the first root exists, is the first root.
use Rattle.df_floor_run.proofs.Names.{◌≡◌, inl, inr, zero, suc, List, [], ◌∷◌, Bool, true, false, refl, sym, ◌∙◌, ap, subst, cond, Option, None, arith, is_some, option_and_then, option_map, option_or, IsRoll, State, firsts, exists, made_by, own_plain, stepped, rows, same, OwnState, Entry, UnitName, Managed, Root, same_name-exact}
use Rattle.std.specs.Cmp.{nat_cmp_is}
use Rattle.std.specs.Cmp.Lexicographic.{slice_cmp}
use Rattle.std.specs.Ordering.{nat_cmp, ordering_then}
use Rattle.std.specs.declared.cmp.Ordering.{Ordering}
use Rattle.std.specs.declared.cmp.Ordering.TheVariants.{Greater, Less}
use Rattle.std.proofs.lemmas.Bool.{or_cases}
use Rattle.df_label.specs.Ascending.{IsBelow, contains_by}
use Rattle.df_label.specs.Tag.{maker_of, number_of}
use Rattle.df_rules.specs.Rules.{Rules}
use Rattle.df_unit.specs.UnitOrder.{unit_cmp}
use Rattle.df_unit.specs.UnitOrderLaws.{unit_cmp_ties}
use Rattle.df_floor_run.proofs.Opening.{first}

nobody_by : (R : Rules) (e : Entry) → option_or (stepped R (Root []) e None) (made_by R e [] None) ≡ None
nobody_by R (Entry.Done a c r f) = go (same a (Root [])) (same a (Root (maker_of [])))
  where
    go : (b d : Bool) → option_or (cond b (option_map (λ (st : OwnState). R.after (Root []) st c r f) None) None)
        (cond d (option_and_then (λ (st : OwnState). R.makes st (number_of []) c r) None) None) ≡ None
    go true true = refl
    go true false = refl
    go false true = refl
    go false false = refl
nobody_by R (Entry.Emitted c) = refl

-- no unit has a name without a number
nobody : (R : Rules) (s : List OwnState) (past : List Entry) → own_plain R s past [] ≡ None
nobody R s [] = refl
nobody R s (e ∷ past) =
    subst (λ (o : Option OwnState). option_or (stepped R (Root []) e o) (made_by R e [] o) ≡ None) (sym (nobody R s past)) (nobody_by R e)

-- nothing but that comes before the first root
before_first : (u : UnitName) → unit_cmp u first ≡ Less → u ≡ Root []
before_first (Root []) h = refl
before_first (Root (zero ∷ [])) h = absurd (let z : ⊥ = cc in z)
before_first (Root (zero ∷ k ∷ path)) h = absurd (let z : ⊥ = cc in z)
before_first (Root (suc n ∷ path)) h = absurd (let k : Greater ≡ Less = ap (λ (o : Ordering). ordering_then o (slice_cmp nat_cmp path []))
    (nat_cmp_is (suc n) 0 Greater (omega arith)) ∙ h in let z : ⊥ = cc in z)
before_first (Managed o n t) h = absurd (let z : ⊥ = cc in z)

below_each : (v : UnitName) (us : List UnitName) → IsBelow unit_cmp v us → contains_by unit_cmp us first ≡ true → unit_cmp v first ≡ Less
below_each v [] below h = absurd (let z : ⊥ = cc in z)
below_each v (u ∷ us) below h = elim (or_cases _ _ h) [
  | inl e ↦ subst (λ (w : UnitName). unit_cmp v w ≡ Less) (same_name-exact u first (unit_cmp_ties u first ∙ e)) below.0
  | inr later ↦ below_each v us below.1 later
]

pub headed : (core : State) (names : List UnitName) → IsRoll core names → exists rows (firsts core.0) core.1 first ≡ true →
    (rest : List UnitName) × (names ≡ first ∷ rest)
headed core [] roll there = absurd (let h = roll.units first ∙ there in let z : ⊥ = cc in z)
headed core (v ∷ rest) roll there = elim (or_cases _ _ (roll.units first ∙ there)) [
  | inl e ↦ (rest, ap (λ (u : UnitName). u ∷ rest) (same_name-exact v first (unit_cmp_ties v first ∙ e)))
  | inr later ↦ absurd (nameless (before_first v (below_each v rest roll.order.0 later)))
]
  where
    nameless : v ≡ Root [] → ⊥
    nameless is =
        let has : contains_by unit_cmp (v ∷ rest) (Root []) ≡ true = subst (λ (u : UnitName). contains_by unit_cmp (u ∷ rest) (Root []) ≡ true) (sym is) refl in
        let none = ap (λ (o : Option OwnState). is_some o) (nobody rows (firsts core.0) core.1) in
        let z : ⊥ = (let h = sym has ∙ roll.units (Root []) ∙ none in cc) in z
