-- The rows of the call table take deliveries one by one.
use Rattle.df_rules.proofs.Names.{◌≡◌, ◌+◌, List, [], ◌∷◌, ◌++◌, Bool, true, false, ◌&&◌, refl, sym, ◌∙◌, ap, subst, cond, Option, Some, None, append-nil, Label, Privilege, given_in, deliveries, TakingLaws, Legal, answer_of, left, own, received, rows, roots, Handle, handle_at, is_full, least_free, OwnState, reply, effect, after, changed, is_accepted, published, released, is_nil, handed, relabelled, Call, Get, Publish, Release, Given, Effect, Entry, Done, UnitName, Reply}
use Rattle.df_rules.proofs.Taking.{gets_give_deliveries}
use Rattle.df_rules.proofs.RowLaws.{first_is, second_is, roots_are, by_child}

-- whether an effect hands something over
abbrev is_gift : Effect → Bool
is_gift Effect.Nothing = false
is_gift (Effect.Commit c) = false
is_gift (Effect.Given d) = true

-- the call is a get, its reply accepts, and the effect is the first delivery that is left
record Takes (u : UnitName) (st : OwnState) (ds : List Given) (c : Call) (d : Given) : Type 0 where
  asked : c ≡ Get
  accepted : is_accepted (reply u st ds c) ≡ true
  rest : List Given
  first : ds ≡ d ∷ rest

no_gift_published : (st : OwnState) (b : Bool) (o : Option Handle) → is_gift (cond b (published st o) Effect.Nothing) ≡ false
no_gift_published st true None = refl
no_gift_published st true (Some d) = refl
no_gift_published st false o = refl

no_gift_released : (st : OwnState) (b : Bool) (o : Option Handle) → is_gift (cond b (released st o) Effect.Nothing) ≡ false
no_gift_released st true None = refl
no_gift_released st true (Some d) = go (is_nil d.named && is_nil d.drafted)
  where
    go : (b : Bool) → is_gift (cond b Effect.Nothing (Effect.Commit (record { event = d.event; edit = (d.named, relabelled st.output d.drafted) }))) ≡ false
    go true = refl
    go false = refl
no_gift_released st false o = refl

not_gift : (f : Effect) (d : Given) → is_gift f ≡ false → f ≡ Effect.Given d → ⊥
not_gift f d h e = let z : is_gift (Effect.Given d) ≡ false = subst (λ (f : Effect). is_gift f ≡ false) e h in cc

takes_of : (u : UnitName) (st : OwnState) (ds : List Given) (c : Call) (d : Given) → effect u st ds c ≡ Effect.Given d → Takes u st ds c d
takes_of u st [] Get d h = absurd (let z : ⊥ = cc in z)
takes_of u st (x ∷ xs) Get d h = go (is_accepted (reply u st (x ∷ xs) Get)) refl h
  where
    go : (b : Bool) → is_accepted (reply u st (x ∷ xs) Get) ≡ b → cond b (Effect.Given x) Effect.Nothing ≡ Effect.Given d → Takes u st (x ∷ xs) Get d
    go true e h = record { asked = refl; accepted = e; rest = xs; first = (let same : x ≡ d = (let k = h in cc) in ap (λ (y : Given). y ∷ xs) same) }
    go false e h = absurd (let z : ⊥ = cc in z)
takes_of u st ds (Publish h) d e = absurd (not_gift (effect u st ds (Publish h)) d (no_gift_published st (is_accepted (reply u st ds (Publish h))) (handle_at st.handles h)) e)
takes_of u st ds (Release h) d e = absurd (not_gift (effect u st ds (Release h)) d (no_gift_released st (is_accepted (reply u st ds (Release h))) (handle_at st.handles h)) e)
takes_of u st ds _ d e = absurd (let z : ⊥ = cc in z)

given_taken : (u : UnitName) (st : OwnState) (c : Call) (r : Reply) (d : Given) → c ≡ Get → is_accepted r ≡ true → (after u st c r (Effect.Given d)).given ≡ st.given + 1
given_taken u st c r d e h = subst (λ (c : Call). (after u st c r (Effect.Given d)).given ≡ st.given + 1) (sym e) (go (is_accepted r) h)
  where
    go : (b : Bool) → b ≡ true → (cond b (changed u st Get (Effect.Given d)) st).given ≡ st.given + 1
    go true h = refl
    go false h = absurd (let z : ⊥ = cc in z)

takes : (u : UnitName) (st : OwnState) (ds : List Given) (c : Call) (r : Reply) (d : Given) → rows.answer u st ds c ≡ (r, Effect.Given d) → (rest : List Given) × (ds ≡ d ∷ rest) × ((after u st c r (Effect.Given d)).given ≡ st.given + 1)
takes u st ds c r d h =
    let t = takes_of u st ds c d (second_is (reply u st ds c) r (effect u st ds c) (Effect.Given d) h) in
    (t.rest, t.first, given_taken u st c r d t.asked (subst (λ (r : Reply). is_accepted r ≡ true) (first_is (reply u st ds c) r (effect u st ds c) (Effect.Given d) h) t.accepted))

leaves_changed : (u : UnitName) (st : OwnState) (c : Call) (f : Effect) → given_in f ≡ [] → (changed u st c f).given ≡ st.given
leaves_changed u st Get Effect.Nothing h = refl
leaves_changed u st Get (Effect.Commit k) h = refl
leaves_changed u st Get (Effect.Given d) h = absurd (let z : ⊥ = cc in z)
leaves_changed u st _ f h = refl

leaves : (u : UnitName) (st : OwnState) (ds : List Given) (c : Call) (r : Reply) (f : Effect) → rows.answer u st ds c ≡ (r, f) → given_in f ≡ [] → (after u st c r f).given ≡ st.given
leaves u st ds c r f right h = go (is_accepted r)
  where
    go : (b : Bool) → (cond b (changed u st c f) st).given ≡ st.given
    go true = leaves_changed u st c f h
    go false = refl

pub row_taking_laws : (start : List (Label × List Privilege)) → TakingLaws rows (roots start)
row_taking_laws start = record {
  none_first = λ k st e. roots_are (λ st. st.given ≡ 0) (λ r. refl) start k st e;
  none_begin = λ f t. refl;
  none_makes = λ st k c r ch h. by_child (λ ch. ch.given ≡ 0) st k c r ch h (λ s privileges. refl);
  takes = takes;
  leaves = leaves;
}

-- nothing is answered only where nothing is left

none_left : (st : OwnState) (ds : List Given) → handed st ds ≡ Reply.Nothing → ds ≡ []
none_left st [] h = refl
none_left st (d ∷ ds) h = go (is_full st.handles) h
  where
    go : (b : Bool) → cond b Reply.TooManyHandles (Reply.Event (least_free st.handles) d.sub) ≡ Reply.Nothing → d ∷ ds ≡ []
    go true h = absurd (let z : ⊥ = cc in z)
    go false h = absurd (let z : ⊥ = cc in z)

pub nothing_after_all : (start : List (Label × List Privilege)) (past : List Entry) (u : UnitName) (f : Effect) → Legal rows (roots start) (Done u Get Reply.Nothing f ∷ past) → received u past ≡ deliveries rows (roots start) past u
nothing_after_all start past u f legal = go (own rows (roots start) past u) refl legal.1
  where
    ds : List Given
    ds = deliveries rows (roots start) past u

    go : (o : Option OwnState) → own rows (roots start) past u ≡ o → answer_of rows u o ds Get ≡ (Reply.Nothing, f) → received u past ≡ ds
    go None mine right =
        let no_unit = first_is Reply.NoSuchUnit Reply.Nothing Effect.Nothing f right in absurd (let z : ⊥ = cc in z)
    go (Some st) mine right =
        let none : left st ds ≡ [] = none_left st (left st ds) (first_is (reply u st (left st ds) Get) Reply.Nothing (effect u st (left st ds) Get) f right) in
        let all = (gets_give_deliveries rows (roots start) (row_taking_laws start) past legal.0 u st mine).all in
        sym (append-nil (received u past)) ∙ ap (λ (ds : List Given). received u past ++ ds) (sym none) ∙ all
