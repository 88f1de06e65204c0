-- Files make one floor, which has one plain run.
use Rattle.df_run.proofs.Names.{◌≡◌, ◌+◌, ℕ, zero, suc, List, Some, refl, ap, sym, subst, ◌∙◌, arith, IsConfigFile, Config, EndsWith, IsFloorRun, fresh_crew, FloorEnd, floor_brain, told_is_one, header, tick_of, Tick, IsCutAt, OfFloor, RunsFloor, Settles}
use Rattle.df_config.specs.ConfigTable.{config_of}
use Rattle.df_booking.specs.CrewState.{CrewState}
use Rattle.df_floor_run.specs.declared.run.FloorEnd.TheVariants as floor
use Rattle.df_floor_units.specs.Floor.{Mind}
use Rattle.df_label.proofs.SetFacts.{same_elements}
use Rattle.df_plain_floor.specs.PlainRun.{IsPass, IsPlainRun, IsTurn, Opened, Repeated, RunsOut, root_name, take_turns}
use Rattle.df_rules.specs.Follows.{Brain}
use Rattle.df_unit.proofs.OrderFacts.{unit_cmp_exact}
use Rattle.df_unit.specs.UnitOrder.{unit_cmp}
use Rattle.df_unit.specs.declared.name.UnitName.{UnitName}

-- ---- one run

-- from each state a step leads to one
abbrev pub IsFunctional : {S : Type 0} → (S → S → Type 0) → Type 0
IsFunctional {S} step = (x y z : S) → step x y → step x z → y ≡ z

module _ {S : Type 0} (step : S → S → Type 0) (one : IsFunctional step) where
  one_repeated : (n : ℕ) (x y z : S) → Repeated step n x y → Repeated step n x z → y ≡ z
  one_repeated zero x y z p q = p ∙ sym q
  one_repeated (suc n) x y z p q = one q.0 y z (subst (λ (m : S). step m y) (one_repeated n x p.0 q.0 p.1 q.1) p.2) q.2

  -- a step that leads nowhere may be made again
  again : (k n : ℕ) (x y : S) → Repeated step n x y → step y y → Repeated step (k + n) x y
  again zero n x y p last = let same : n ≡ 0 + n = omega (arith) in subst (λ (m : ℕ). Repeated step m x y) same p
  again (suc k) n x y p last =
      let same : suc (k + n) ≡ suc k + n = omega (arith) in
      subst (λ (m : ℕ). Repeated step m x y) same (y, again k n x y p last, last)

  pub one_end : (x y z : S) → RunsOut step x y → RunsOut step x z → y ≡ z
  one_end x y z p q =
      let same : p.count + q.count ≡ q.count + p.count = omega (arith) in
      one_repeated (q.count + p.count) x y z (again q.count p.count x y p.steps p.last)
      (subst (λ (n : ℕ). Repeated step n x z) same (again p.count q.count x z q.steps q.last))

module _ {B : Type 0} (brain : Brain B) (max : ℕ) where
  one_turn : (u : UnitName) → IsFunctional (IsTurn brain max u)
  one_turn u x y z p q = p ∙ sym q

  one_pass : IsFunctional (IsPass brain max)
  one_pass x y z p q =
      let names : p.names ≡ q.names = same_elements unit_cmp unit_cmp_exact p.names q.names p.roll.order q.roll.order
      (λ u. p.roll.units u ∙ sym (q.roll.units u)) in
      p.turns ∙ ap (λ (us : List UnitName). take_turns brain max us x) names ∙ sym q.turns

  one_opening : (k : ℕ) (x y z : CrewState B) → Opened brain max k x y → Opened brain max k x z → y ≡ z
  one_opening zero x y z p q = p ∙ sym q
  one_opening (suc k) x y z p q =
      let mid : p.0 ≡ q.0 = one_opening k x p.0 q.0 p.1 q.1 in
      one_end (IsTurn brain max (root_name (suc k))) (one_turn (root_name (suc k))) q.0 y z
      (subst (λ (m : CrewState B). RunsOut (IsTurn brain max (root_name (suc k))) m y) mid p.2) q.2

  pub one_run : (x y z : CrewState B) → IsPlainRun brain max x y → IsPlainRun brain max x z → y ≡ z
  one_run x y z p q =
      let opened : p.opened ≡ q.opened = one_opening _ x p.opened q.opened p.opening q.opening in
      one_end (IsPass brain max) one_pass q.opened y z (subst (λ (m : CrewState B). RunsOut (IsPass brain max) m y) opened p.passes) q.passes

-- ---- one way to end

one_way : (max : ℕ) (after : CrewState Mind) (d e : FloorEnd) → EndsWith max after d → EndsWith max after e → d ≡ e
one_way max after floor.Quiet floor.Quiet p q = refl
one_way max after floor.Quiet (floor.Unsettled steps) p q = absurd (q.restless p)
one_way max after (floor.Unsettled steps) floor.Quiet p q = absurd (p.restless q)
one_way max after (floor.Unsettled m) (floor.Unsettled n) p q = ap floor.Unsettled (p.counted ∙ sym q.counted)

pub ends_once : (c : Config) (ticks : List Tick) (text other : List ℕ) (d e : FloorEnd) → IsFloorRun c ticks text d → IsFloorRun c ticks other e → d ≡ e
ends_once c ticks text other d e p q =
    let after : p.after ≡ q.after = one_run floor_brain c.max_steps (fresh_crew c ticks) p.after q.after p.runs.run q.runs.run in
    one_way c.max_steps q.after d e (subst (λ (crew : CrewState Mind). EndsWith c.max_steps crew d) after p.ends) q.ends

-- ---- one floor

some_inj : {X : Type 0} (x y : X) → Some x ≡ Some y → x ≡ y
some_inj x y e = cc

one_config : (bytes : List ℕ) (c d : Config) → IsConfigFile bytes c → IsConfigFile bytes d → c ≡ d
one_config bytes c d p q =
    let table = some_inj p.0 q.0 (sym p.1.1 ∙ q.1.1) in
    some_inj c d (sym p.2 ∙ ap config_of table ∙ q.2)

-- what is said of the floor of two files is said of one floor
pub one_floor : {R : Type 0} (one other : List ℕ) (P Q : Config → List Tick → Type 0) → ((c : Config) (ticks : List Tick) → P c ticks → Q c ticks → R)
    → OfFloor one other P → OfFloor one other Q → R
one_floor one other P Q f p q =
    let config : q.0 ≡ p.0 = one_config one q.0 p.0 q.2 p.2 in
    let ticks : q.1 ≡ p.1 = told_is_one header tick_of other q.1 p.1 q.3 p.3 in
    f p.0 p.1 p.4 (subst (λ (t : List Tick). Q p.0 t) ticks (subst (λ (c : Config). Q c q.1) config q.4))

no_end : (steps : ℕ) → floor.Quiet ≡ floor.Unsettled steps → ⊥
no_end steps e = cc

unsettled_inj : (m n : ℕ) → floor.Unsettled m ≡ floor.Unsettled n → m ≡ n
unsettled_inj m n e = cc

-- a floor whose run comes to rest settles
pub quiet_settles : (config : Config) (ticks : List Tick) (text : List ℕ) → RunsFloor config ticks floor.Quiet text → Settles config ticks
quiet_settles config ticks text quiet = λ steps cut. no_end steps (ends_once config ticks text cut.0 floor.Quiet (floor.Unsettled steps) quiet.run cut.1)

pub one_cut : (one other : List ℕ) (m n : ℕ) → OfFloor one other (IsCutAt m) → OfFloor one other (IsCutAt n) → m ≡ n
one_cut one other m n p q = one_floor one other (IsCutAt m) (IsCutAt n)
    (λ c ticks a b. unsettled_inj m n (ends_once c ticks a.0 b.0 (floor.Unsettled m) (floor.Unsettled n) a.1 b.1)) p q

pub settles_or_cut : (one other : List ℕ) (steps : ℕ) → OfFloor one other Settles → OfFloor one other (IsCutAt steps) → ⊥
settles_or_cut one other steps p q = one_floor one other Settles (IsCutAt steps) (λ c ticks settles cut. settles steps cut) p q
