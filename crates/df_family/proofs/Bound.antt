-- What every entry keeps of the units of a root's family, for a relation that keeps the rules.
use Rattle.df_family.proofs.Names.{inl, inr, ◌≡◌, ◌⊎◌, ℕ, zero, suc, List, [], ◌∷◌, ◌++◌, Bool, true, false, not, ◌||◌, refl, sym, ◌∙◌, subst, cond, Option, Some, None, ⊤, slice_get, slice_set, map, filter, flat_map, list_any, list_all, and_from, or_left, or_right, or_cases, privilege_eq, tag_eq, contains, Label, Privilege, names, root_names, Relation, can_write, can_reach, Part, holds, grant, grant_all, needed, needed_to_attach, Del, Roots, handle_at, opened, replaced, OwnState, Fixed, Handle}
use Rattle.df_label.specs.Privileges.{contains as contains_privilege}
use Rattle.df_label.proofs.PrivilegeFacts.{privilege_eq-Decides}
use Rattle.df_label.proofs.TagSetFacts.{tag_eq-itself}
use Rattle.df_priv.proofs.HeldFacts.{holds-grant}

-- lists

abbrev pub Each : {X : Type 0} → (X → Type 0) → List X → Type 0
Each P [] = ⊤
Each P (x ∷ xs) = P x × Each P xs

pub each_append : {X : Type 0} (P : X → Type 0) (xs ys : List X) → Each P xs → Each P ys → Each P (xs ++ ys)
each_append P [] ys h k = k
each_append P (x ∷ xs) ys h k = (h.0, each_append P xs ys h.1 k)

pub each_weaker : {X : Type 0} (P Q : X → Type 0) → ((x : X) → P x → Q x) → (xs : List X) → Each P xs → Each Q xs
each_weaker P Q f [] h = tt
each_weaker P Q f (x ∷ xs) h = (f x h.0, each_weaker P Q f xs h.1)

pub each_map : {X Y : Type 0} (P : X → Type 0) (Q : Y → Type 0) (f : X → Y) → ((x : X) → P x → Q (f x)) → (xs : List X) → Each P xs → Each Q (map f xs)
each_map P Q f g [] h = tt
each_map P Q f g (x ∷ xs) h = (g x h.0, each_map P Q f g xs h.1)

-- what a filter leaves is as it was, and passes
pub each_filter : {X : Type 0} (P Q : X → Type 0) (q : X → Bool) → ((x : X) → q x ≡ true → P x → Q x) → (xs : List X) → Each P xs → Each Q (filter q xs)
each_filter P Q q f [] h = tt
each_filter {X} P Q q f (x ∷ xs) h = go (q x) refl (each_filter P Q q f xs h.1)
  where
    go : (b : Bool) → q x ≡ b → Each Q (filter q xs) → Each Q (cond b (x ∷ filter q xs) (filter q xs))
    go true e rest = (f x e h.0, rest)
    go false e rest = rest

pub each_flat_map : {X Y : Type 0} (P : X → Type 0) (Q : Y → Type 0) (f : X → List Y) → ((x : X) → P x → Each Q (f x)) → (xs : List X) → Each P xs → Each Q (flat_map f xs)
each_flat_map P Q f g [] h = tt
each_flat_map P Q f g (x ∷ xs) h = each_append Q (f x) (flat_map f xs) (g x h.0) (each_flat_map P Q f g xs h.1)

-- privileges

pub is_one : (p q : Privilege) → privilege_eq p q ≡ true → p ≡ q
is_one p q e = (privilege_eq-Decides p q).0 e

pub each_contained : (P : Privilege → Type 0) (ps : List Privilege) → ((p : Privilege) → contains_privilege ps p ≡ true → P p) → Each P ps
each_contained P [] h = tt
each_contained P (q ∷ qs) h = (
  h q (or_left (privilege_eq q q) (contains_privilege qs q) ((privilege_eq-Decides q q).1 refl)),
  each_contained P qs (λ p m. h p (or_right (privilege_eq q p) (contains_privilege qs p) m)),
)

pub contained_each : (P : Privilege → Type 0) (ps : List Privilege) (p : Privilege) → Each P ps → contains_privilege ps p ≡ true → P p
contained_each P [] p h m = absurd (let z : ⊥ = cc in z)
contained_each P (q ∷ qs) p h m = elim (or_cases (privilege_eq q p) (contains_privilege qs p) m) [
  | inl e ↦ subst P (is_one q p e) h.0
  | inr k ↦ contained_each P qs p h.1 k
]

-- what is held once all are granted was held or granted
pub held_from : (P : Privilege → Type 0) (held qs : List Privilege) → ((p : Privilege) → holds held p ≡ true → P p) → Each P qs → (p : Privilege) → holds (grant_all held qs) p ≡ true → P p
held_from P held [] h k p m = h p m
held_from P held (q ∷ qs) h k p m = held_from P (grant held q) qs granted k.1 p m
  where
    granted : (p : Privilege) → holds (grant held q) p ≡ true → P p
    granted p m = elim (or_cases (privilege_eq q p) (holds held p) (sym (holds-grant held q p) ∙ m)) [
      | inl e ↦ subst P (is_one q p e) k.0
      | inr old ↦ h p old
    ]

-- handles

abbrev pub EachOpen : (Handle → Type 0) → List (Option Handle) → Type 0
EachOpen P [] = ⊤
EachOpen P (None ∷ hs) = EachOpen P hs
EachOpen P (Some d ∷ hs) = P d × EachOpen P hs

abbrev pub IfOpen : (Handle → Type 0) → Option Handle → Type 0
IfOpen P None = ⊤
IfOpen P (Some d) = P d

pub open_one : (P : Handle → Type 0) (hs : List (Option Handle)) (d : Handle) → EachOpen P hs → P d → EachOpen P (opened d hs)
open_one P [] d h k = (k, tt)
open_one P (None ∷ hs) d h k = (k, h)
open_one P (Some x ∷ hs) d h k = (h.0, open_one P hs d h.1 k)

set_one : (P : Handle → Type 0) (hs : List (Option Handle)) (n : ℕ) (o : Option Handle) → EachOpen P hs → IfOpen P o → EachOpen P (slice_set hs n o)
set_one P [] n o h k = tt
set_one P (None ∷ hs) zero None h k = h
set_one P (None ∷ hs) zero (Some d) h k = (k, h)
set_one P (Some x ∷ hs) zero None h k = h.1
set_one P (Some x ∷ hs) zero (Some d) h k = (k, h.1)
set_one P (None ∷ hs) (suc n) o h k = set_one P hs n o h k
set_one P (Some x ∷ hs) (suc n) o h k = (h.0, set_one P hs n o h.1 k)

pub close_one : (P : Handle → Type 0) (hs : List (Option Handle)) (n : ℕ) → EachOpen P hs → EachOpen P (slice_set hs n None)
close_one P hs n h = set_one P hs n None h tt

pub open_at : (P : Handle → Type 0) (hs : List (Option Handle)) (n : ℕ) → EachOpen P hs → IfOpen P (handle_at hs n)
open_at P [] n h = tt
open_at P (None ∷ hs) zero h = tt
open_at P (Some d ∷ hs) zero h = h.0
open_at P (None ∷ hs) (suc n) h = open_at P hs n h
open_at P (Some d ∷ hs) (suc n) h = open_at P hs n h.1

pub change_one : (P : Handle → Type 0) (hs : List (Option Handle)) (n : ℕ) (f : Handle → Handle) → ((d : Handle) → P d → P (f d)) → EachOpen P hs → EachOpen P (replaced hs n f (handle_at hs n))
change_one P hs n f g h = go (handle_at hs n) (open_at P hs n h)
  where
    go : (o : Option Handle) → IfOpen P o → EachOpen P (replaced hs n f o)
    go None k = h
    go (Some d) k = set_one P hs n (Some (f d)) h (g d k)

-- what is kept

-- the privileges, as far as they are over tags of the start, may be attached by the root's family
abbrev pub MayAttach : Roots → Relation → ℕ → List Privilege → Type 0
MayAttach start h k ps = (p : Privilege) → names start p.tag ≡ true → contains_privilege ps p ≡ true → h k (needed_to_attach p) ≡ true

-- the integrity, as far as it is of the start, may be written by the root's family
abbrev pub MayWrite : Roots → Relation → ℕ → Label → List (List ℕ) → Type 0
MayWrite start h k label integrity = (t : List ℕ) → names start t ≡ true → contains integrity t ≡ true → can_write h k label t ≡ true

-- the root's family may write the part
pub record IsWritten (start : Roots) (h : Relation) (k : ℕ) (label : Label) (part : Part) : Type 0 where
  pub attached : MayAttach start h k part.privileges
  pub integrity : MayWrite start h k label part.label.i

-- some root's family may
pub record IsBacked (start : Roots) (h : Relation) (part : Part) : Type 0 where
  pub by : ℕ
  pub root : Label × List Privilege
  pub is_root : slice_get start by ≡ Some root
  pub written : IsWritten start h by root.0 part

pub record IsHandleOf (start : Roots) (h : Relation) (k : ℕ) (label : Label) (d : Handle) : Type 0 where
  pub seen : Each (IsBacked start h) d.seen
  pub drafted : Each (IsWritten start h k label) d.drafted

-- what is held over tags of the start may be
abbrev pub MayAll : Roots → Relation → ℕ → List Privilege → Type 0
MayAll start h k held = (p : Privilege) → holds held p ≡ true → names start p.tag ≡ true → h k p ≡ true

-- the integrity of the root's label that is missing may be taken out
abbrev pub LacksOnly : Relation → ℕ → Label → List (List ℕ) → Type 0
LacksOnly h k label integrity = (t : List ℕ) → contains label.i t ≡ true → (contains integrity t ≡ true) ⊎ (h k (needed Del t) ≡ true)

-- a unit of the root's family holds, reads at, writes and has open no more than the relation tells
pub record IsBound (start : Roots) (h : Relation) (k : ℕ) (label : Label) (st : OwnState) : Type 0 where
  pub held : MayAll start h k st.held
  pub reads : LacksOnly h k label st.input.i
  pub writes : MayWrite start h k label st.output.i
  pub handles : EachOpen (IsHandleOf start h k label) st.handles

-- and what its managed subscriptions keep
pub record IsFixedBound (start : Roots) (h : Relation) (k : ℕ) (label : Label) (f : Fixed) : Type 0 where
  pub held : MayAll start h k f.held
  pub reads : LacksOnly h k label f.input_integrity
  pub writes : MayWrite start h k label f.output_integrity

-- a root's label names its tags
pub root_named : (start : Roots) (k : ℕ) (root : Label × List Privilege) (t : List ℕ) → slice_get start k ≡ Some root → root_names t root ≡ true → names start t ≡ true
root_named [] k root t e m = absurd (let z : ⊥ = cc in z)
root_named (r ∷ rs) zero root t e m = or_left (root_names t r) (names rs t) (let same : r ≡ root = cc in subst (λ (x : Label × List Privilege). root_names t x ≡ true) (sym same) m)
root_named (r ∷ rs) (suc k) root t e m = or_right (root_names t r) (names rs t) (root_named rs k root t e m)

pub integrity_named : (start : Roots) (k : ℕ) (root : Label × List Privilege) (t : List ℕ) → slice_get start k ≡ Some root → contains root.0.i t ≡ true → names start t ≡ true
integrity_named start k root t e m = root_named start k root t e (or_right (contains root.0.s t) (contains root.0.i t || list_any (λ p. tag_eq p.tag t) root.1) (or_left (contains root.0.i t) (list_any (λ p. tag_eq p.tag t) root.1) m))

-- all of a filtered list passes where all that is left does
pub filtered_all : {X : Type 0} (q p : X → Bool) (xs : List X) → Each (λ x. q x ≡ true → p x ≡ true) xs → list_all p (filter q xs) ≡ true
filtered_all q p [] h = refl
filtered_all {X} q p (x ∷ xs) h = go (q x) refl (filtered_all q p xs h.1)
  where
    go : (b : Bool) → q x ≡ b → list_all p (filter q xs) ≡ true → list_all p (cond b (x ∷ filter q xs) (filter q xs)) ≡ true
    go true e rest = and_from (p x) (list_all p (filter q xs)) (h.0 e) rest
    go false e rest = rest

pub each_tag : (P : List ℕ → Type 0) (ts : List (List ℕ)) → ((t : List ℕ) → contains ts t ≡ true → P t) → Each P ts
each_tag P [] h = tt
each_tag P (t ∷ ts) h = (h t (or_left (tag_eq t t) (contains ts t) (tag_eq-itself t)), each_tag P ts (λ u m. h u (or_right (tag_eq t u) (contains ts u) m)))

-- where each tag of the label may be written or taken out, what is written there reaches
pub reached : (h : Relation) (j : ℕ) (from : Label) (k : ℕ) (to : Label) → ((t : List ℕ) → contains to.i t ≡ true → (can_write h j from t ≡ true) ⊎ (h k (needed Del t) ≡ true)) → can_reach h j from k to ≡ true
reached h j from k to each = filtered_all (λ t. not (h k (needed Del t))) (can_write h j from) to.i (each_tag (λ t. not (h k (needed Del t)) ≡ true → can_write h j from t ≡ true) to.i (λ t m. go t (each t m)))
  where
    go : (t : List ℕ) → (can_write h j from t ≡ true) ⊎ (h k (needed Del t) ≡ true) → not (h k (needed Del t)) ≡ true → can_write h j from t ≡ true
    go t (inl w) e = w
    go t (inr m) e = absurd (let z : ⊥ = cc in z)
