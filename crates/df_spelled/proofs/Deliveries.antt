-- Each delivery shows a part.
use Rattle.std.proofs.Common.{◌≡◌, ◌<◌, ℕ, zero, suc, List, [], ◌∷◌, ◌++◌, Bool, true, false, not, ◌&&◌, length, refl, sym, ◌∙◌, ap, cond, Option, Some, None, arith}
use Rattle.std.specs.Prelude.{⊤, drop}
use Rattle.std.specs.List.{flat_map}
use Rattle.std.proofs.lemmas.Bool.{and_parts}
use Rattle.std.proofs.lemmas.List.Elements.{filter-append}
use Rattle.std.proofs.lemmas.List.{length-append}
use Rattle.df_filter.specs.declared.clause.Clause.{Clause}
use Rattle.df_label.specs.declared.label.Label.{Label}
use Rattle.df_label.proofs.TagSetFacts.{is_subset-refl}
use Rattle.df_part.specs.Contents.{apply, spared}
use Rattle.df_part.specs.Part.{cut, readable}
use Rattle.df_part.specs.declared.edit.Spot.{Spot}
use Rattle.df_part.specs.declared.part.Part.{Part}
use Rattle.df_rules.specs.Choices.{gives, matches}
use Rattle.df_rules.specs.Commits.{contents}
use Rattle.df_rules.specs.Deliveries.{was_handed, offer, plain_news, instance_news, deliveries, deliveries_plain, deliveries_instance}
use Rattle.df_rules.specs.Own.{is_given}
use Rattle.df_rules.specs.Rules.{Rules}
use Rattle.df_rules.proofs.CutFacts.{gives_cut, gives_none}
use Rattle.df_unit.specs.Beginnings.{readable_at}
use Rattle.df_unit.specs.OwnState.{OwnState, Fixed}
use Rattle.df_unit.specs.Rows.{is_nil}
use Rattle.df_unit.specs.declared.commit.Commit.{Commit}
use Rattle.df_unit.specs.declared.commit.Given.{Given}
use Rattle.df_unit.specs.declared.entry.Entry.{Entry}
use Rattle.df_unit.specs.declared.name.EventName.{EventName}
use Rattle.df_unit.specs.declared.name.UnitName.{UnitName}
use Rattle.df_unit.specs.declared.name.UnitName.TheVariants.{Root, Managed}

-- each of these deliveries shows a part
abbrev pub AreShown : List Given → Type 0
AreShown [] = ⊤
AreShown (d ∷ ds) = (0 < length d.parts) × AreShown ds

shown_append : (ds more : List Given) → AreShown ds → AreShown more → AreShown (ds ++ more)
shown_append [] more h k = k
shown_append (d ∷ ds) more h k = (h.0, shown_append ds more h.1 k)

shown_if : (b : Bool) (ds : List Given) → AreShown ds → AreShown (cond b ds [])
shown_if true ds h = h
shown_if false ds h = tt

pub shown_drop : (n : ℕ) (ds : List Given) → AreShown ds → AreShown (drop n ds)
shown_drop zero ds h = h
shown_drop (suc n) [] h = tt
shown_drop (suc n) (d ∷ ds) h = shown_drop n ds h.1

some_of : {X : Type 0} (xs : List X) → is_nil xs ≡ false → 0 < length xs
some_of [] h = absurd (let z : ⊥ = cc in z)
some_of (x ∷ xs) h = omega arith

-- where an added part is readable, some part of the event then is
some_seen : (l : Label) (edit : List Spot × List Part) (parts : List Part) → is_nil (cut l edit.1) ≡ false → 0 < length (cut l (apply edit parts))
some_seen l edit parts h =
    let some = some_of (cut l edit.1) h in
    let split = ap (λ (ps : List Part). length ps) (filter-append (readable l) (spared edit.0 parts) edit.1)
    ∙ length-append (cut l (spared edit.0 parts)) (cut l edit.1) in
    omega (arith, some, split)

-- ordinary subscriptions

offer_shown : (ds : List Given) (event : EventName) (parts : List Part) → 0 < length parts → (sub : ℕ × List Clause) → AreShown (offer ds event parts sub)
offer_shown ds event parts h sub = shown_if (matches sub.1 parts && not (was_handed ds event sub.0)) _ (h, tt)

offers_shown : (ds : List Given) (event : EventName) (parts : List Part) → 0 < length parts → (subs : List (ℕ × List Clause))
    → AreShown (flat_map (λ sub. offer ds event parts sub) subs)
offers_shown ds event parts h [] = tt
offers_shown ds event parts h (sub ∷ subs) = search (shown_append, offer_shown, offers_shown ds event parts h subs)

-- the parts of the event that a label shows after the commit
abbrev seen_after : Label → List Entry → Commit → List Part
seen_after input past c = cut input (apply c.edit (contents past c.event))

plain_shown : (o : Option OwnState) (subs : List (ℕ × List Clause)) (ds : List Given) (past : List Entry) (oc : Option Commit)
    → AreShown (plain_news o subs ds past oc)
plain_shown None subs ds past oc = tt
plain_shown (Some st) subs ds past None = tt
plain_shown (Some st) subs ds past (Some c) = go (is_nil (cut st.input c.edit.1)) refl
  where
    go : (b : Bool) → is_nil (cut st.input c.edit.1) ≡ b → AreShown (cond b [] (flat_map (λ sub. offer ds c.event (seen_after st.input past c) sub) subs))
    go true e = tt
    go false e = offers_shown ds c.event (seen_after st.input past c) (some_seen st.input c.edit (contents past c.event) e) subs

-- managed subscriptions

-- the parts of the event that the commit leaves
abbrev left_by : List Entry → Commit → List Part
left_by past c = spared c.edit.0 (contents past c.event)

-- a choice that gives t has an added part that is readable where t is
some_added : (f : Fixed) (t : List (List ℕ)) (past : List Entry) (c : Commit) → is_given (Some f) t past (Some c) ≡ true
    → is_nil (cut (readable_at f t) c.edit.1) ≡ false
some_added f t past c h = go (cut (readable_at f t) c.edit.1) refl
  where
    within : gives f.filter f.input_integrity t f.base false (cut (readable_at f t) (left_by past c)) (cut (readable_at f t) c.edit.1) ≡ true
    within =
        sym (gives_cut (readable_at f t) f.input_integrity t (is_subset-refl t) (is_subset-refl f.input_integrity) f.filter f.base false (left_by past c)
        c.edit.1) ∙ h

    go : (added : List Part) → cut (readable_at f t) c.edit.1 ≡ added → is_nil added ≡ false
    go [] e = absurd (let none = gives_none f.filter f.input_integrity t f.base (cut (readable_at f t) (left_by past c)) in
        let z : true ≡ false = sym within ∙ rw e none in let y : ⊥ = cc in y)
    go (p ∷ ps) e = refl

instance_shown : (o : Option Fixed) (n : ℕ) (t : List (List ℕ)) (ds : List Given) (past : List Entry) (oc : Option Commit)
    → AreShown (instance_news o n t ds past oc)
instance_shown None n t ds past oc = tt
instance_shown (Some f) n t ds past None = tt
instance_shown (Some f) n t ds past (Some c) = go (is_given (Some f) t past (Some c) && not (was_handed ds c.event n)) refl
  where
    go : (b : Bool) → (is_given (Some f) t past (Some c) && not (was_handed ds c.event n)) ≡ b
        → AreShown (cond b (record { event = c.event; sub = n; parts = cut (readable_at f t) (apply c.edit (contents past c.event)) } ∷ []) [])
    go true e = (
      some_seen (readable_at f t) c.edit (contents past c.event)
          (some_added f t past c (and_parts (is_given (Some f) t past (Some c)) (not (was_handed ds c.event n)) e).0),
      tt,
    )
    go false e = tt

-- all deliveries

plain_deliveries_shown : (R : Rules) (s : List OwnState) (past : List Entry) (path : List ℕ) → AreShown (deliveries_plain R s past path)
plain_deliveries_shown R s [] path = tt
plain_deliveries_shown R s (e ∷ past) path = search (shown_append, plain_shown, plain_deliveries_shown R s past path)

instance_deliveries_shown : (R : Rules) (s : List OwnState) (past : List Entry) (o : List ℕ) (n : ℕ) (t : List (List ℕ))
    → AreShown (deliveries_instance R s past o n t)
instance_deliveries_shown R s [] o n t = tt
instance_deliveries_shown R s (e ∷ past) o n t = search (shown_append, instance_shown, instance_deliveries_shown R s past o n t)

pub deliveries_shown : (R : Rules) (s : List OwnState) (past : List Entry) (u : UnitName) → AreShown (deliveries R s past u)
deliveries_shown R s past (Root path) = plain_deliveries_shown R s past path
deliveries_shown R s past (Managed o n t) = instance_deliveries_shown R s past o n t
