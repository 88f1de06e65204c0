-- An entry that concerns no other unit, and one that stops the unit.
use Rattle.df_settling.proofs.Names.{◌≡◌, ℕ, ◌+◌, ◌≤◌, List, refl, sym, ap, subst, drop, arith, Clause, OwnState, Call, Given, Effect, UnitName, Mind, Heard, Kind, Stage}
use Rattle.df_floor_units.specs.declared.stage.Stage.TheVariants as stage
use Rattle.df_settling.proofs.Roles.{Role, role_of}
use Rattle.df_settling.proofs.Unit.{At, IsClosed, Later, Moves, Outcome, Stands, drafts, mind_of, owed, priced, stands_stopped}

pub no_more : (events n d y : ℕ) → d ≡ y → events ≤ n + d → events ≤ n + y
no_more events n d y e h = subst (λ (z : ℕ). events ≤ n + z) e h

module _ (w : Role → ℕ) (role : Role) (j : ℕ) (k : Kind) (x : Heard) (u : UnitName) (st : OwnState) (subs : List (ℕ × List Clause)) (ds : List Given)
    (plays : role_of j k ≡ role) (later : Later role subs) where
  -- what the call does at a stage
  abbrev Does : Stage → Call → Type 0
  Does g c = Outcome w role j k x u st subs ds g c

  -- it stands so
  abbrev Is : Stage → Type 0
  Is g = At role k x g u st subs

  -- an entry that does nothing beyond the unit, behind which the unit thinks m and has these subscriptions
  pub still : (g : Stage) (m : Mind) (st' : OwnState) (subs' : List (ℕ × List Clause)) (most : ℕ) → role_of j m.kind ≡ role →
      Stands w role m.kind m.heard u m.stage st' subs' most (drafts g) → st'.input ≡ st.input → st'.events ≡ st.events → st'.given ≡ st.given →
      Later role subs' → 1 + most ≤ owed w role k x g → Moves w role j k x g m u st st' subs' ds Effect.Nothing
  still g m st' subs' most is s input events given l less = record {
    plays = is;
    at = s.at;
    input = input;
    later = l;
    pays = let c = s.cost in let a = ap (λ (n : ℕ). priced w role (drop n ds)) given in omega arith;
    free = λ n h. (let y = no_more st'.events n (drafts m.stage) (drafts g) s.draft h in omega arith, tt);
    fine = tt;
  }

  -- an entry that stops the unit
  pub stops_at : (g : Stage) → drafts g ≡ 0 → IsClosed st → 1 ≤ owed w role k x g →
      Moves w role j k x g (mind_of k x stage.Stopped) u st st subs ds Effect.Nothing
  stops_at g none closed some = still g (mind_of k x stage.Stopped) st subs 0 plays s refl refl refl later some
    where
      s : Stands w role k x u stage.Stopped st subs 0 (drafts g)
      s = subst (λ (dr : ℕ). Stands w role k x u stage.Stopped st subs 0 dr) (sym none) (stands_stopped w role k x u st subs closed)
