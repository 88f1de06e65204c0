-- The entries to which an entry leads, one by one: with the earlier ones of each unit they come to
-- all on which it rests.
use Rattle.std.specs.Prelude.{◌≡◌, ◌⊎◌, ℕ, Bool, true, false, not, ◌&&◌, ◌||◌, List, ◌∷◌, ◌++◌, length, is_none}
use Rattle.df_rules.specs.Commits.{commit_of, commit_in}
use Rattle.df_rules.specs.Own.{exists, fixed}
use Rattle.df_rules.specs.Received.{received}
use Rattle.df_rules.specs.Rules.{Rules}
use Rattle.df_unit.specs.OwnState.{OwnState}
use Rattle.df_unit.specs.declared.entry.Entry.{Entry}
use Rattle.df_unit.specs.declared.entry.Entry.TheVariants.{Done, Emitted}
use Rattle.df_unit.specs.declared.name.UnitName.{UnitName}
use Rattle.df_unit.specs.declared.name.UnitName.TheVariants.{Root, Managed}
use Rattle.df_why.specs.Grounds.{HasEach, brings, is_met, is_of, is_on, on_one}

-- whether the unit begins with an entry after the older ones
abbrev pub begins : Rules → List OwnState → UnitName → List Entry → Entry → Bool
begins R s u older e = not (exists R s older u) && exists R s (e ∷ older) u

-- whether an entry, after the older ones, makes an instance's subscription
abbrev pub subscribes : Rules → List OwnState → UnitName → List Entry → Entry → Bool
subscribes R s (Root path) older e = false
subscribes R s (Managed o n t) older e =
    is_none (fixed R s older o n) && not (is_none (fixed R s (e ∷ older) o n))

-- whether an entry, after the older ones, is one of the unit, begins it or makes its subscription
abbrev pub leads_unit : Rules → List OwnState → UnitName → List Entry → Entry → Bool
leads_unit R s u older e = is_of u e || (begins R s u older e || subscribes R s u older e)

-- whether an entry, after those before it, leads to an older one
abbrev pub leads : Rules → List OwnState → List Entry → Entry → List Entry → Entry → Bool
leads R s past (Done u c r f) older under = exists R s past u && leads_unit R s u older under
    || (is_met c r && brings R s u (length (received u past)) older under
    || on_one (commit_in f) (commit_of under))
leads R s past (Emitted k) older under = is_on k.event (commit_of under)

-- with the place of an entry the set has those of all to which the entry leads
abbrev pub FollowsLeads : Rules → List OwnState → (ℕ → Bool) → List Entry → Type 0
FollowsLeads R s set j = (newer past : List Entry) (e : Entry) → j ≡ newer ++ e ∷ past →
    set (length past) ≡ true → HasEach set (leads R s past e) past

-- an entry of the set leads to the one with this place
pub record IsLedTo (R : Rules) (s : List OwnState) (j : List Entry) (set : ℕ → Bool)
    (p : ℕ) : Type 0 where
  pub newer : List Entry
  pub middle : List Entry
  pub older : List Entry
  pub from : Entry
  pub to : Entry
  pub split : j ≡ newer ++ from ∷ (middle ++ to ∷ older)
  pub has : set (length (middle ++ to ∷ older)) ≡ true
  pub led : leads R s (middle ++ to ∷ older) from older to ≡ true
  pub here : length older ≡ p

-- the set has the place, those to which its entries lead, and no other
pub record IsLed (R : Rules) (s : List OwnState) (j : List Entry) (place : ℕ)
    (set : ℕ → Bool) : Type 0 where
  pub has : set place ≡ true
  pub follows : FollowsLeads R s set j
  pub only : (p : ℕ) → set p ≡ true → (p ≡ place) ⊎ IsLedTo R s j set p
