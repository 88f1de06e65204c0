-- Two journals that look alike at a label give alike commits the same choices and deliveries there.
use Rattle.df_rules.proofs.Names.{◌≡◌, ℕ, List, [], ◌∷◌, ◌++◌, Bool, true, false, not, ◌&&◌, refl, sym, ◌∙◌, ap, cond, Option, Some, None, flat_map, append-nil, filter-append, Clause, flows_to, Label, apply, spared, cut, Spot, Part, gives, committed, contents, cut_spots, cut_commit, plain_news, instance_news, offer, was_handed, is_given, echo, emitted, flows_to-parts, and_parts, readable_at, same_event, OwnState, Fixed, is_nil, Commit, Given, Entry, EventName}
use Rattle.df_rules.proofs.CutFacts.{cut_again, cut_spots_again, cut_below, cut-spared, cut-apply, gives_cut, gives_none, spared_nil}

-- a commit that does nothing
abbrev pub idle : EventName → Commit
idle ev = record { event = ev; edit = ([], []) }

abbrev pub or_idle : EventName → Option Commit → Commit
or_idle ev None = idle ev
or_idle ev (Some c) = c

-- the commits and what they leave look alike at the label
pub record SeenAlike (l : Label) (past : List Entry) (c : Commit) (past' : List Entry) (c' : Commit) : Type 0 where
  pub event : c'.event ≡ c.event
  pub added : cut l c'.edit.1 ≡ cut l c.edit.1
  pub spared : cut l (spared c'.edit.0 (contents past' c'.event)) ≡ cut l (spared c.edit.0 (contents past c.event))

abbrev pub Alike : Label → List Entry → Option Commit → List Entry → Option Commit → Type 0
Alike l past None past' oc' = oc' ≡ None
Alike l past (Some c) past' oc' = SeenAlike l past c past' (or_idle c.event oc')

-- contents look alike at the label, for each event
abbrev pub SameSeen : Label → List Entry → List Entry → Type 0
SameSeen l past past' = (ev : EventName) → cut l (contents past' ev) ≡ cut l (contents past ev)

pub nil_is : {A : Type 0} (xs : List A) → is_nil xs ≡ true → xs ≡ []
nil_is [] h = refl
nil_is (x ∷ xs) h = cc

pub kept_alike : (l : Label) (past past' : List Entry) → SameSeen l past past' → (oc : Option Commit) → Alike l past oc past' oc
kept_alike l past past' same None = refl
kept_alike l past past' same (Some c) = record {
  event = refl;
  added = refl;
  spared = cut-spared l c.edit.0 (contents past' c.event) ∙ ap (spared (cut_spots l c.edit.0)) (same c.event) ∙ sym (cut-spared l c.edit.0 (contents past c.event));
}

pub echo_alike : (l : Label) (past past' : List Entry) → SameSeen l past past' → (oc : Option Commit) → Alike l past oc past' (echo l oc)
echo_alike l past past' same None = refl
echo_alike l past past' same (Some c) = go (is_nil (cut_spots l c.edit.0) && is_nil (cut l c.edit.1)) refl
  where
    go : (b : Bool) → (is_nil (cut_spots l c.edit.0) && is_nil (cut l c.edit.1)) ≡ b → SeenAlike l past c past' (or_idle c.event (cond b None (Some (cut_commit l c))))
    go true e =
        let d = nil_is (cut_spots l c.edit.0) (and_parts (is_nil (cut_spots l c.edit.0)) (is_nil (cut l c.edit.1)) e).0 in
        let a = nil_is (cut l c.edit.1) (and_parts (is_nil (cut_spots l c.edit.0)) (is_nil (cut l c.edit.1)) e).1 in
        record {
          event = refl;
          added = sym a;
          spared =
              ap (cut l) (spared_nil (contents past' c.event)) ∙ same c.event
              ∙ sym (cut-spared l c.edit.0 (contents past c.event) ∙ ap (λ (ds : List Spot). spared ds (cut l (contents past c.event))) d ∙ spared_nil (cut l (contents past c.event)));
        }
    go false e = record {
      event = refl;
      added = cut_again l c.edit.1;
      spared =
          cut-spared l (cut_spots l c.edit.0) (contents past' c.event)
          ∙ ap (λ (ds : List Spot). spared ds (cut l (contents past' c.event))) (cut_spots_again l c.edit.0)
          ∙ ap (spared (cut_spots l c.edit.0)) (same c.event)
          ∙ sym (cut-spared l c.edit.0 (contents past c.event));
    }

-- what commits alike make of contents alike is alike
pub kept_contents : (l : Label) (past past' : List Entry) → SameSeen l past past' → (oc : Option Commit) (ev : EventName) → cut l (committed ev oc (contents past' ev)) ≡ cut l (committed ev oc (contents past ev))
kept_contents l past past' same None ev = same ev
kept_contents l past past' same (Some c) ev = go (same_event c.event ev)
  where
    go : (b : Bool) → cut l (cond b (apply c.edit (contents past' ev)) (contents past' ev)) ≡ cut l (cond b (apply c.edit (contents past ev)) (contents past ev))
    go true = cut-apply l c.edit (contents past' ev) ∙ ap (apply (cut_commit l c).edit) (same ev) ∙ sym (cut-apply l c.edit (contents past ev))
    go false = same ev

pub echo_contents : (l : Label) (past past' : List Entry) → SameSeen l past past' → (oc : Option Commit) (ev : EventName) → cut l (contents (emitted (echo l oc) ++ past') ev) ≡ cut l (committed ev oc (contents past ev))
echo_contents l past past' same None ev = same ev
echo_contents l past past' same (Some c) ev = go (is_nil (cut_spots l c.edit.0) && is_nil (cut l c.edit.1)) refl
  where
    gone : cut_spots l c.edit.0 ≡ [] → cut l c.edit.1 ≡ [] → (at : Bool) → cut l (contents past' ev) ≡ cut l (cond at (apply c.edit (contents past ev)) (contents past ev))
    gone d a true = same ev ∙ sym (
        cut-apply l c.edit (contents past ev)
        ∙ ap (λ (ds : List Spot). spared ds (cut l (contents past ev)) ++ cut l c.edit.1) d
        ∙ ap (λ (ps : List Part). spared [] (cut l (contents past ev)) ++ ps) a
        ∙ append-nil (spared [] (cut l (contents past ev)))
        ∙ spared_nil (cut l (contents past ev)))
    gone d a false = same ev

    seen : (at : Bool) → cut l (cond at (apply (cut_commit l c).edit (contents past' ev)) (contents past' ev)) ≡ cut l (cond at (apply c.edit (contents past ev)) (contents past ev))
    seen true =
        cut-apply l (cut_commit l c).edit (contents past' ev)
        ∙ ap (λ (ds : List Spot). spared ds (cut l (contents past' ev)) ++ cut l (cut l c.edit.1)) (cut_spots_again l c.edit.0)
        ∙ ap (λ (ps : List Part). spared (cut_spots l c.edit.0) (cut l (contents past' ev)) ++ ps) (cut_again l c.edit.1)
        ∙ ap (apply (cut_commit l c).edit) (same ev)
        ∙ sym (cut-apply l c.edit (contents past ev))
    seen false = same ev

    go : (b : Bool) → (is_nil (cut_spots l c.edit.0) && is_nil (cut l c.edit.1)) ≡ b → cut l (contents (emitted (cond b None (Some (cut_commit l c))) ++ past') ev) ≡ cut l (committed ev (Some c) (contents past ev))
    go true e = gone (nil_is (cut_spots l c.edit.0) (and_parts (is_nil (cut_spots l c.edit.0)) (is_nil (cut l c.edit.1)) e).0)
        (nil_is (cut l c.edit.1) (and_parts (is_nil (cut_spots l c.edit.0)) (is_nil (cut l c.edit.1)) e).1) (same_event c.event ev)
    go false e = seen (same_event c.event ev)

-- alike commits have the same choices within the label
given_some : (l : Label) (f : Fixed) (t : List (List ℕ)) → flows_to (readable_at f t) l ≡ true → (past : List Entry) (c : Commit) (past' : List Entry) (c' : Commit) → SeenAlike l past c past' c' → is_given (Some f) t past' (Some c') ≡ is_given (Some f) t past (Some c)
given_some l f t h past c past' c' a =
    let inside = flows_to-parts (readable_at f t) l h in
    let g = gives f.filter f.input_integrity t f.base false in
    gives_cut l f.input_integrity t inside.0 inside.1 f.filter f.base false (spared c'.edit.0 (contents past' c'.event)) c'.edit.1
    ∙ ap (λ (ps : List Part). g ps (cut l c'.edit.1)) a.spared
    ∙ ap (λ (ps : List Part). g (cut l (spared c.edit.0 (contents past c.event))) ps) a.added
    ∙ sym (gives_cut l f.input_integrity t inside.0 inside.1 f.filter f.base false (spared c.edit.0 (contents past c.event)) c.edit.1)

given_idle : (f : Fixed) (t : List (List ℕ)) (past : List Entry) (ev : EventName) (oc : Option Commit) → is_given (Some f) t past oc ≡ is_given (Some f) t past (Some (or_idle ev oc))
given_idle f t past ev None = sym (gives_none f.filter f.input_integrity t f.base (spared [] (contents past ev)))
given_idle f t past ev (Some c) = refl

pub given_alike : (l : Label) (f : Fixed) (t : List (List ℕ)) → flows_to (readable_at f t) l ≡ true → (past : List Entry) (oc : Option Commit) (past' : List Entry) (oc' : Option Commit) → Alike l past oc past' oc' → is_given (Some f) t past' oc' ≡ is_given (Some f) t past oc
given_alike l f t h past None past' oc' a = rw a refl
given_alike l f t h past (Some c) past' oc' a = given_idle f t past' c.event oc' ∙ given_some l f t h past c past' (or_idle c.event oc') a

-- what is seen after alike commits is alike
seen_after : (l m : Label) → flows_to m l ≡ true → (past : List Entry) (c : Commit) (past' : List Entry) (c' : Commit) → SeenAlike l past c past' c' → cut m (apply c'.edit (contents past' c'.event)) ≡ cut m (apply c.edit (contents past c.event))
seen_after l m h past c past' c' a =
    cut_below m l h (apply c'.edit (contents past' c'.event)) (apply c.edit (contents past c.event)) (
    filter-append (λ p. flows_to p.label l) (spared c'.edit.0 (contents past' c'.event)) c'.edit.1
    ∙ ap (λ (ps : List Part). ps ++ cut l c'.edit.1) a.spared
    ∙ ap (λ (ps : List Part). cut l (spared c.edit.0 (contents past c.event)) ++ ps) a.added
    ∙ sym (filter-append (λ p. flows_to p.label l) (spared c.edit.0 (contents past c.event)) c.edit.1))

plain_news_idle : (st : OwnState) (subs : List (ℕ × List Clause)) (ds : List Given) (past : List Entry) (ev : EventName) (oc : Option Commit) → plain_news (Some st) subs ds past oc ≡ plain_news (Some st) subs ds past (Some (or_idle ev oc))
plain_news_idle st subs ds past ev None = refl
plain_news_idle st subs ds past ev (Some c) = refl

-- alike commits bring a plain unit within the label the same
pub plain_news_alike : (l : Label) (st : OwnState) (subs : List (ℕ × List Clause)) (ds : List Given) → flows_to st.input l ≡ true → (past : List Entry) (oc : Option Commit) (past' : List Entry) (oc' : Option Commit) → Alike l past oc past' oc' → plain_news (Some st) subs ds past' oc' ≡ plain_news (Some st) subs ds past oc
plain_news_alike l st subs ds h past None past' oc' a = rw a refl
plain_news_alike l st subs ds h past (Some c) past' oc' a =
    let c' = or_idle c.event oc' in
    let news = λ (ev : EventName) (added parts : List Part). cond {A = List Given} (is_nil added) [] (flat_map (λ sub. offer ds ev parts sub) subs) in
    plain_news_idle st subs ds past' c.event oc'
    ∙ ap (λ (ev : EventName). news ev (cut st.input c'.edit.1) (cut st.input (apply c'.edit (contents past' c'.event)))) a.event
    ∙ ap (λ (ps : List Part). news c.event ps (cut st.input (apply c'.edit (contents past' c'.event)))) (cut_below st.input l h c'.edit.1 c.edit.1 a.added)
    ∙ ap (λ (ps : List Part). news c.event (cut st.input c.edit.1) ps) (seen_after l st.input h past c past' c' a)

instance_news_idle : (f : Fixed) (n : ℕ) (t : List (List ℕ)) (ds : List Given) (past : List Entry) (ev : EventName) (oc : Option Commit) → instance_news (Some f) n t ds past oc ≡ instance_news (Some f) n t ds past (Some (or_idle ev oc))
instance_news_idle f n t ds past ev None = rw (gives_none f.filter f.input_integrity t f.base (spared [] (contents past ev))) refl
instance_news_idle f n t ds past ev (Some c) = refl

-- alike commits bring an instance within the label the same
pub instance_news_alike : (l : Label) (f : Fixed) (n : ℕ) (t : List (List ℕ)) (ds : List Given) → flows_to (readable_at f t) l ≡ true → (past : List Entry) (oc : Option Commit) (past' : List Entry) (oc' : Option Commit) → Alike l past oc past' oc' → instance_news (Some f) n t ds past' oc' ≡ instance_news (Some f) n t ds past oc
instance_news_alike l f n t ds h past None past' oc' a = rw a refl
instance_news_alike l f n t ds h past (Some c) past' oc' a =
    let c' = or_idle c.event oc' in
    let news = λ (given : Bool) (ev : EventName) (parts : List Part). cond {A = List Given} (given && not (was_handed ds ev n)) (record { event = ev; sub = n; parts = parts } ∷ []) [] in
    instance_news_idle f n t ds past' c.event oc'
    ∙ ap (λ (b : Bool). news b c'.event (cut (readable_at f t) (apply c'.edit (contents past' c'.event)))) (given_some l f t h past c past' c' a)
    ∙ ap (λ (ev : EventName). news (is_given (Some f) t past (Some c)) ev (cut (readable_at f t) (apply c'.edit (contents past' c'.event)))) a.event
    ∙ ap (λ (ps : List Part). news (is_given (Some f) t past (Some c)) c.event ps) (seen_after l (readable_at f t) h past c past' c' a)
