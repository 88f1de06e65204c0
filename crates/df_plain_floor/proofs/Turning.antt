-- Turns of some units: they follow one another, append alone, and do nothing at the limit.
use Rattle.df_plain_floor.proofs.Names.{◌≡◌, ℕ, List, [], ◌∷◌, ◌++◌, Bool, true, false, refl, sym, ◌∙◌, ap, subst, cond, Result, Ok, Err, OnErr, OnOk, CrewState, turned, IsMore, AreTurns, is_full, take_turn, take_turns, Brain, UnitName}
use Rattle.df_plain_floor.proofs.More.{takes_more}

module _ {B : Type 0} (brain : Brain B) (max : ℕ) where
  takes_append : (us vs : List UnitName) (crew : CrewState B) → take_turns brain max (us ++ vs) crew ≡ take_turns brain max vs (take_turns brain max us crew)
  takes_append [] vs crew = refl
  takes_append (u ∷ us) vs crew = takes_append us vs (take_turn brain max u crew)

  pub no_turns : (a : CrewState B) → AreTurns brain max a a
  no_turns a = record { units = []; turns = refl }

  unturned : (a b : CrewState B) → b ≡ a → AreTurns brain max a b
  unturned a b e = record { units = []; turns = e }

  pub one_turn : (u : UnitName) (a b : CrewState B) → b ≡ take_turn brain max u a → AreTurns brain max a b
  one_turn u a b e = record { units = u ∷ []; turns = e }

  -- a turn that was tried below the limit
  pub tried : {T E : Type 0} (u : UnitName) (a b : CrewState B) → is_full max a ≡ false → (r : Result T E) → OnOk r (b ≡ turned brain u a) →
      OnErr r (b ≡ a) → AreTurns brain max a b
  tried u a b below (Ok x) ok err = one_turn u a b (ok ∙ sym (ap (λ (f : Bool). cond f a (turned brain u a)) below))
  tried u a b below (Err e) ok err = unturned a b err

  pub turns_trans : (a b c : CrewState B) → AreTurns brain max a b → AreTurns brain max b c → AreTurns brain max a c
  turns_trans a b c m n = record {
    units = m.units ++ n.units;
    turns = n.turns ∙ ap (take_turns brain max n.units) m.turns ∙ sym (takes_append m.units n.units a);
  }

  pub turns_more : (a b : CrewState B) → AreTurns brain max a b → IsMore a b
  turns_more a b m = subst (λ (c : CrewState B). IsMore a c) (sym m.turns) (takes_more brain max m.units a)

  takes_none : (us : List UnitName) (crew : CrewState B) → is_full max crew ≡ true → take_turns brain max us crew ≡ crew
  takes_none [] crew full = refl
  takes_none (u ∷ us) crew full =
      let still : take_turn brain max u crew ≡ crew = ap (λ (b : Bool). cond b crew (turned brain u crew)) full in
      ap (take_turns brain max us) still ∙ takes_none us crew full

  pub turns_full : (a b : CrewState B) → AreTurns brain max a b → is_full max a ≡ true → b ≡ a
  turns_full a b m full = m.turns ∙ takes_none m.units a full
