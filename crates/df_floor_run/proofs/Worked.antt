-- A journal of the floor that goes on from the plain opening opens, whoever takes turns: after the opening the exchange alone has something to do.
use Rattle.df_floor_run.proofs.Names.{◌≡◌, ◌≢◌, ◌⊎◌, inl, inr, ℕ, zero, suc, List, [], ◌∷◌, ◌++◌, Bool, true, false, true≢false, ◌||◌, refl, sym, ◌∙◌, ap, subst, Some, drop, slice_get, CrewState, IsConfig, Config, floor_brains, Mind, IsMore, IsOpening, is_full, Calls, Follows, IsWanted, Opens, OthersWait, Wait, Want, has_entry, replies_of, wanted, IsUnaided, Legal, left, own, rows, IsFloorJournal, first_states, floor_brain, Tick, same, OwnState, Call, Entry, UnitName, Root, fresh_crew}
use Rattle.df_rules.specs.Deliveries.{deliveries}
use Rattle.df_settling.proofs.Bound.{World, actor_member, world}
use Rattle.df_settling.proofs.Entries.{name_refl}
use Rattle.df_settling.proofs.Members.{Member, member_kind, members, watcher}
use Rattle.df_settling.proofs.Silent.{AreSilent, silent}
use Rattle.df_settling.proofs.Totals.{In}
use Rattle.df_unit.specs.declared.commit.Given.{Given}
use Rattle.df_unit.specs.declared.entry.Entry.TheVariants.{Done, Emitted}
use Rattle.df_floor_run.proofs.Opening.{first}
use Rattle.df_floor_run.proofs.Opens as opens

none_dropped : (n : ℕ) (ds : List Given) → ds ≡ [] → drop n ds ≡ []
none_dropped zero ds e = e
none_dropped (suc n) ds e = ap (drop (suc n)) e

no_call : (w : Want) (call : Call) → w ≡ Calls call → w ≡ Wait → ⊥
no_call w call a b = let y : ⊥ = cc in y

true_after : (b : Bool) → (b || true) ≡ true
true_after true = refl
true_after false = refl

module _ (c : Config) (ticks : List Tick) (form : IsConfig c) (base : List Entry) (now : World c ticks base) (so : AreSilent c ticks base)
    (wait : OthersWait floor_brain (floor_brains c ticks) base) where
  -- who isn't the exchange has nothing to do
  nothing_to_do : (a : UnitName) (call : Call) (st : OwnState) (x : Mind) → same a first ≡ false →
      IsWanted floor_brain rows (first_states c) (floor_brains c ticks) base a call st x → ⊥
  nothing_to_do a call st x other wants = elim (member_kind c ticks v.0 v.2) [
    | inl h ↦ as_root h.0 (sym v.1 ∙ h.1)
    | inr e ↦ unborn (sym v.1 ∙ ap (λ (m : Member). m.name) e)
  ]
    where
      v : (v : Member) × (v.name ≡ a) × In v (members c ticks)
      v = actor_member c ticks base now a st wants.own

      unborn : a ≡ watcher.name → ⊥
      unborn e =
          let none = so.unborn in
          let some : own rows (first_states c) base watcher.name ≡ Some st =
          subst (λ (n : UnitName). own rows (first_states c) base n ≡ Some st) e wants.own in
          let y : ⊥ = cc in y

      empty : left st (deliveries rows (first_states c) base a) ≡ []
      empty = none_dropped st.given (deliveries rows (first_states c) base a)
          (subst (λ (n : UnitName). deliveries rows (first_states c) base n ≡ []) v.1 (so.each v.0 v.2).none)

      as_root : (i : ℕ) → a ≡ Root (i ∷ []) → ⊥
      as_root zero e = true≢false (sym (name_refl first) ∙ ap (λ (n : UnitName). same n first) (sym e) ∙ other)
      as_root (suc k) e =
          let begun : slice_get (floor_brains c ticks) (suc k) ≡ Some x =
          subst (λ (n : UnitName). Rattle.df_rules.specs.Follows.began_with floor_brain rows (first_states c) (floor_brains c ticks) base n ≡ Some x) e
          wants.begun in
          let waits : (wanted floor_brain x (replies_of a base)).0 ≡ Wait =
          subst (λ (n : UnitName). (wanted floor_brain x (replies_of n base)).0 ≡ Wait) (sym e) (wait k x begun) in
          elim wants.call [
            | inl calls ↦ no_call (wanted floor_brain x (replies_of a base)).0 call calls waits
            | inr gets ↦ gets.2 empty
          ]

  abbrev HasOpened : List Entry → Type 0
  HasOpened more = Opens floor_brain (floor_brains c ticks) (more ++ base) × ((more ≡ []) ⊎ (has_entry first (more ++ base) ≡ true))

  first_more : (a : UnitName) (call : Call) (r : _) (f : _) (st : OwnState) (x : Mind) →
      IsWanted floor_brain rows (first_states c) (floor_brains c ticks) base a call st x → Opens floor_brain (floor_brains c ticks) base →
      HasOpened (Done a call r f ∷ [])
  first_more a call r f st x wants opened = by (same a first) refl
    where
      by : (b : Bool) → same a first ≡ b → HasOpened (Done a call r f ∷ [])
      by true e = ((opened, λ is none. wait), inr (ap (λ (b : Bool). b || has_entry first base) e))
      by false e = absurd (nothing_to_do a call st x e wants)

  more_opens : (more : List Entry) → Opens floor_brain (floor_brains c ticks) base → Legal rows (first_states c) (more ++ base) →
      IsUnaided (more ++ base) → Follows floor_brain rows (first_states c) (floor_brains c ticks) (more ++ base) → HasOpened more
  more_opens [] opened legal unaided follows = (opened, inl refl)
  more_opens (Emitted k ∷ more) opened legal unaided follows = absurd unaided.1
  more_opens (Done a call r f ∷ []) opened legal unaided follows = first_more a call r f follows.1.0 follows.1.1 follows.1.2 opened
  more_opens (Done a call r f ∷ e ∷ more) opened legal unaided follows =
      by (more_opens (e ∷ more) opened legal.0 unaided.0 follows.0)
    where
      by : HasOpened (e ∷ more) → HasOpened (Done a call r f ∷ e ∷ more)
      by (before, inl none) = absurd (let y : ⊥ = cc in y)
      by (before, inr has) = (
        (before, λ is none. absurd (true≢false (sym has ∙ none))),
        inr (ap (λ (b : Bool). same a first || b) has ∙ true_after (same a first)),
      )

suffix_legal : (c : Config) (more base : List Entry) → Legal rows (first_states c) (more ++ base) → Legal rows (first_states c) base
suffix_legal c [] base h = h
suffix_legal c (Done a call r f ∷ more) base h = suffix_legal c more base h.0
suffix_legal c (Emitted k ∷ more) base h = suffix_legal c more base h.0

suffix_unaided : (more base : List Entry) → IsUnaided (more ++ base) → IsUnaided base
suffix_unaided [] base h = h
suffix_unaided (Done a call r f ∷ more) base h = suffix_unaided more base h.0
suffix_unaided (Emitted k ∷ more) base h = absurd h.1

suffix_follows : (c : Config) (ticks : List Tick) (more base : List Entry) →
    Follows floor_brain rows (first_states c) (floor_brains c ticks) (more ++ base) →
    Follows floor_brain rows (first_states c) (floor_brains c ticks) base
suffix_follows c ticks [] base h = h
suffix_follows c ticks (e ∷ more) base h = suffix_follows c ticks more base h.0

-- the journal of a crew that went on from the opening, where that wasn't stopped
pub worked_opens : (c : Config) (ticks : List Tick) → IsConfig c → (opened after : CrewState Mind) →
    IsOpening floor_brain c.max_steps (fresh_crew c ticks) opened → is_full c.max_steps opened ≡ false → IsMore opened after →
    IsFloorJournal c ticks after.core.1 → Opens floor_brain (floor_brains c ticks) after.core.1
worked_opens c ticks form opened after run below more journal =
    let base = opened.core.1 in
    let is : after.core.1 ≡ more.more ++ base = more.journal in
    let legal : Legal rows (first_states c) (more.more ++ base) = subst (Legal rows (first_states c)) is journal.legal in
    let unaided : IsUnaided (more.more ++ base) = subst IsUnaided is journal.unaided in
    let follows : Follows floor_brain rows (first_states c) (floor_brains c ticks) (more.more ++ base) =
    subst (Follows floor_brain rows (first_states c) (floor_brains c ticks)) is journal.follows in
    let l = suffix_legal c more.more base legal in
    let u = suffix_unaided more.more base unaided in
    let f = suffix_follows c ticks more.more base follows in
    let brains = (opens.grown c ticks form opened run).brains in
    let wait : OthersWait floor_brain (floor_brains c ticks) base =
    subst (λ (bs : List Mind). OthersWait floor_brain bs base) brains (opens.waits c ticks form opened run below) in
    let opens0 : Opens floor_brain (floor_brains c ticks) base =
    subst (λ (bs : List Mind). Opens floor_brain bs base) brains (opens.opened_opens c ticks form opened run) in
    let quiet = silent c ticks form base l u f (opens.silent c ticks form opened run) in
    subst (Opens floor_brain (floor_brains c ticks)) (sym is)
    (more_opens c ticks form base (world c ticks form base l u f) quiet wait more.more opens0 legal unaided follows).0
