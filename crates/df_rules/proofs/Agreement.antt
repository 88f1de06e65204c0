-- What it is for two journals to agree at a label on units, records and deliveries, and what an emitted entry does.
use Rattle.df_rules.proofs.Names.{◌≡◌, ℕ, List, [], ◌++◌, true, false, refl, sym, ◌∙◌, ap, Option, Some, None, ⊤, option_or, append-nil, Clause, flows_to, Label, plain_news, instance_news, deliveries_plain, deliveries_instance, own_plain, own_instance, fixed, born, is_within, emitted, Rules, subscriptions, readable_at, same, OwnState, Fixed, Commit, Given, Entry, Done, Emitted, UnitName, Root, Managed}

-- what is there and whose label flows to l is there again; what is not there is not there again
abbrev pub Agrees : {A : Type 0} → (A → Label) → Label → Option A → Option A → Type 0
Agrees label l None o' = o' ≡ None
Agrees label l (Some x) o' = flows_to (label x) l ≡ true → o' ≡ Some x

abbrev pub contaminated : OwnState → Label
contaminated st = st.contamination

abbrev pub recorded : Fixed → Label
recorded f = f.contamination

pub agrees_refl : {A : Type 0} (label : A → Label) (l : Label) (o : Option A) → Agrees label l o o
agrees_refl label l None = refl
agrees_refl label l (Some x) = λ h. refl

pub agrees_eq : {A : Type 0} (label : A → Label) (l : Label) (o o' : Option A) → o' ≡ o → Agrees label l o o'
agrees_eq label l None o' e = e
agrees_eq label l (Some x) o' e = λ h. e

pub agrees_or : {A : Type 0} (label : A → Label) (l : Label) (x x' y y' : Option A) → Agrees label l x x' → Agrees label l y y' → Agrees label l (option_or x y) (option_or x' y')
agrees_or label l None x' y y' h k = rw h k
agrees_or label l (Some a) x' y y' h k = λ m. rw (h m) refl

pub or_none : {A : Type 0} (x : Option A) → option_or x None ≡ x
or_none None = refl
or_none (Some a) = refl

-- the entry is not of u, or u is not within l
abbrev pub IsOut : Label → UnitName → Entry → Option OwnState → Type 0
IsOut l u (Done a c r f) o = same a u ≡ true → is_within l o ≡ false
IsOut l u (Emitted c) o = ⊤

abbrev pub IsIn : Label → UnitName → Entry → Option OwnState → Type 0
IsIn l u (Done a c r f) o = same a u ≡ true → is_within l o ≡ true
IsIn l u (Emitted c) o = ⊤

pub born_none : (R : Rules) (fx : Option Fixed) (t : List (List ℕ)) (past : List Entry) → born R fx t past None ≡ None
born_none R None t past = refl
born_none R (Some f) t past = refl

-- what an emitted entry does
pub own_plain-emitted : (R : Rules) (s : List OwnState) (oc : Option Commit) (past : List Entry) (path : List ℕ) → own_plain R s (emitted oc ++ past) path ≡ own_plain R s past path
own_plain-emitted R s None past path = refl
own_plain-emitted R s (Some c) past path = or_none (own_plain R s past path)

pub fixed-emitted : (R : Rules) (s : List OwnState) (oc : Option Commit) (past : List Entry) (o : List ℕ) (n : ℕ) → fixed R s (emitted oc ++ past) o n ≡ fixed R s past o n
fixed-emitted R s None past o n = refl
fixed-emitted R s (Some c) past o n = or_none (fixed R s past o n)

pub subscriptions-emitted : (R : Rules) (s : List OwnState) (oc : Option Commit) (past : List Entry) (u : UnitName) → subscriptions R s (emitted oc ++ past) u ≡ subscriptions R s past u
subscriptions-emitted R s None past u = refl
subscriptions-emitted R s (Some c) past u = append-nil (subscriptions R s past u)

pub own_instance-emitted : (R : Rules) (s : List OwnState) (oc : Option Commit) (past : List Entry) (o : List ℕ) (n : ℕ) (t : List (List ℕ)) → own_instance R s (emitted oc ++ past) o n t ≡ option_or (own_instance R s past o n t) (born R (fixed R s past o n) t past oc)
own_instance-emitted R s None past o n t = sym (ap (option_or (own_instance R s past o n t)) (born_none R (fixed R s past o n) t past) ∙ or_none (own_instance R s past o n t))
own_instance-emitted R s (Some c) past o n t = refl

nil_plain_news : (st : Option OwnState) (subs : List (ℕ × List Clause)) (ds : List Given) (past : List Entry) → plain_news st subs ds past None ≡ []
nil_plain_news None subs ds past = refl
nil_plain_news (Some st) subs ds past = refl

nil_instance_news : (fx : Option Fixed) (n : ℕ) (t : List (List ℕ)) (ds : List Given) (past : List Entry) → instance_news fx n t ds past None ≡ []
nil_instance_news None n t ds past = refl
nil_instance_news (Some f) n t ds past = refl

pub deliveries_plain-emitted : (R : Rules) (s : List OwnState) (oc : Option Commit) (past : List Entry) (path : List ℕ) → deliveries_plain R s (emitted oc ++ past) path ≡ deliveries_plain R s past path ++ plain_news (own_plain R s past path) (subscriptions R s past (Root path)) (deliveries_plain R s past path) past oc
deliveries_plain-emitted R s None past path = sym (ap (λ (ds : List Given). deliveries_plain R s past path ++ ds) (nil_plain_news (own_plain R s past path) (subscriptions R s past (Root path)) (deliveries_plain R s past path) past) ∙ append-nil (deliveries_plain R s past path))
deliveries_plain-emitted R s (Some c) past path = refl

pub deliveries_instance-emitted : (R : Rules) (s : List OwnState) (oc : Option Commit) (past : List Entry) (o : List ℕ) (n : ℕ) (t : List (List ℕ)) → deliveries_instance R s (emitted oc ++ past) o n t ≡ deliveries_instance R s past o n t ++ instance_news (fixed R s past o n) n t (deliveries_instance R s past o n t) past oc
deliveries_instance-emitted R s None past o n t = sym (ap (λ (ds : List Given). deliveries_instance R s past o n t ++ ds) (nil_instance_news (fixed R s past o n) n t (deliveries_instance R s past o n t) past) ∙ append-nil (deliveries_instance R s past o n t))
deliveries_instance-emitted R s (Some c) past o n t = refl

-- an instance's state by its fixed record
abbrev pub InstanceAgrees : Label → List (List ℕ) → Option Fixed → Option OwnState → Option OwnState → Type 0
InstanceAgrees l t None o o' = (o ≡ None) × (o' ≡ None)
InstanceAgrees l t (Some f) o o' = flows_to f.contamination l ≡ true → flows_to (readable_at f t) l ≡ true → Agrees contaminated l o o'

-- where an instance came from
abbrev pub Began : List (List ℕ) → Option Fixed → Option OwnState → Type 0
Began t fx None = ⊤
Began t fx (Some st) = (f : Fixed) × (fx ≡ Some f) × (flows_to f.contamination st.contamination ≡ true) × (flows_to (readable_at f t) st.contamination ≡ true)

-- what an instance's subscription keeps flows to l, if there is anything, and so does the label at which the instance reads
abbrev pub KeptWithin : Label → List (List ℕ) → Option Fixed → Type 0
KeptWithin l t None = ⊤
KeptWithin l t (Some f) = (flows_to f.contamination l ≡ true) × (flows_to (readable_at f t) l ≡ true)

-- nothing from before its beginning keeps the unit from l
abbrev pub MayBeWithin : Rules → List OwnState → Label → List Entry → UnitName → Type 0
MayBeWithin R s l past (Root path) = ⊤
MayBeWithin R s l past (Managed o n t) = KeptWithin l t (fixed R s past o n)

-- all that the unit may read is in its contamination
abbrev pub Reads : OwnState → Type 0
Reads st = flows_to st.input st.contamination ≡ true

-- what a unit has had by its state, and an instance's deliveries by its fixed record
abbrev pub GivenByState : {A : Type 0} → Label → Option OwnState → List A → List A → Type 0
GivenByState l None xs xs' = (xs ≡ []) × (xs' ≡ [])
GivenByState l (Some st) xs xs' = flows_to st.contamination l ≡ true → xs' ≡ xs

abbrev pub InstanceGiven : Label → List (List ℕ) → Option Fixed → List Given → List Given → Type 0
InstanceGiven l t None ds ds' = (ds ≡ []) × (ds' ≡ [])
InstanceGiven l t (Some f) ds ds' = flows_to f.contamination l ≡ true → flows_to (readable_at f t) l ≡ true → ds' ≡ ds
