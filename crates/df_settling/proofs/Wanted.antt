-- What a unit wants, and what a get gives it.
use Rattle.df_settling.proofs.Names.{◌≡◌, ◌≢◌, ◌⊎◌, inl, inr, ℕ, ◌+◌, List, [], ◌∷◌, Bool, true, refl, sym, ◌∙◌, ap, subst, cond, drop, arith, ltb-true, lt-ltb, nat_lt, left, least_free, OwnState, effect, first_given, is_accepted, reply, Call, Get, Given, Effect, UnitName, Reply, wanted_at, Heard, Kind, Stage}
use Rattle.df_rules.specs.Follows as follows
use Rattle.df_unit.specs.Rows.{handed as handed_reply}
use Rattle.df_settling.proofs.Unit.{IsClosed, drop_next, first_free, mind_of, not_full}

-- the first delivery that is left
abbrev pub IsFirst : OwnState → List Given → Given → Type 0
IsFirst st ds d = left st ds ≡ d ∷ drop (st.given + 1) ds

pub taken_reply : (u : UnitName) (st : OwnState) (ds : List Given) (d : Given) → IsClosed st → IsFirst st ds d →
    reply u st (left st ds) Get ≡ Reply.Event 0 d.sub
taken_reply u st ds d c e =
    ap (handed_reply st) e
    ∙ ap (λ (b : Bool). cond b Reply.TooManyHandles (Reply.Event (least_free st.handles) d.sub)) (not_full st c)
    ∙ ap (λ (n : ℕ). Reply.Event n d.sub) (first_free st c)

pub taken_effect : (u : UnitName) (st : OwnState) (ds : List Given) (d : Given) → IsClosed st → IsFirst st ds d →
    effect u st (left st ds) Get ≡ Effect.Given d
taken_effect u st ds d c e =
    ap (λ (r : Reply). cond (is_accepted r) (first_given (left st ds)) Effect.Nothing) (taken_reply u st ds d c e) ∙ ap first_given e

pub first_left : (st : OwnState) (ds : List Given) → left st ds ≢ [] → (d : Given) × IsFirst st ds d
first_left st ds some = go (left st ds) refl
  where
    go : (xs : List Given) → left st ds ≡ xs → (d : Given) × IsFirst st ds d
    go [] e = absurd (some e)
    go (d ∷ rest) e = (d, e ∙ ap (λ (ys : List Given). d ∷ ys) (sym (drop_next ds st.given d rest e)))

pub some_of : (n place : ℕ) → nat_lt place n ≡ true → nat_lt 0 n ≡ true
some_of n place h = let l = ltb-true place n h in lt-ltb 0 n (omega arith)

-- the call that is wanted, or the get
abbrev pub IsNow : Kind → Heard → Stage → OwnState → List Given → Call → Type 0
IsNow k x g st ds c = (wanted_at (mind_of k x g) g ≡ follows.Calls c)
    ⊎ ((wanted_at (mind_of k x g) g ≡ follows.Wait) × (c ≡ Get) × (left st ds ≢ []))

-- a call that is wanted is the one made
pub wants_call : (wish : follows.Want) (a c : Call) (L : Type 0) (P : Call → Type 0) → wish ≡ follows.Calls a →
    (wish ≡ follows.Calls c) ⊎ ((wish ≡ follows.Wait) × (c ≡ Get) × L) → P a → P c
wants_call wish a c L P e (inl h) p = subst P (let y : follows.Calls a ≡ follows.Calls c = sym e ∙ h in let z : a ≡ c = cc in z) p
wants_call wish a c L P e (inr h) p = let y : follows.Calls a ≡ follows.Wait = sym e ∙ h.0 in absurd (let z : ⊥ = cc in z)

-- who waits makes a get
pub wants_get : (c : Call) (L : Type 0) (P : Call → Type 0) →
    (follows.Wait ≡ follows.Calls c) ⊎ ((follows.Wait ≡ follows.Wait) × (c ≡ Get) × L) → (L → P Get) → P c
wants_get c L P (inl e) p = absurd (let z : ⊥ = cc in z)
wants_get c L P (inr e) p = subst P (sym e.1) (p e.2)
