-- What an event of a unit of the floor is worth to those to whom it is handed.
use Rattle.df_settling.proofs.Names.{◌≡◌, ◌≢◌, ℕ, ◌+◌, ◌*◌, ◌≤◌, List, [], ◌∷◌, ◌++◌, Bool, true, false, true≢false, ◌&&◌, ◌||◌, not, refl, sym, ◌∙◌, ap, subst, cond, Some, arith, ℤ, filter, flat_map, list_all, list_any, Trade, Clause, tag_eq, Label, floor_tag, match_draft, offer_draft, regulator_tag, tick_draft, trader_tag, warning_draft, Draft, Match, Offer, apply, cut, Part, gives, matches, serves, contents, offer, plain_news, was_handed, Tick, OwnState, is_nil, Commit, Given, Entry, EventName, trade_event, present}
use Rattle.std.specs.Prelude.{codes}
use Rattle.std.specs.Str.{bytes_eq}
use Rattle.std.proofs.lemmas.Slice.Eq.{bytes_eq-Decides}
use Rattle.df_filter.specs.Clause.{test_holds}
use Rattle.df_label.specs.Label.{flows_to}
use Rattle.df_label.specs.TagSet.{tag_set_eq}
use Rattle.df_label.proofs.TagSetFacts.{is_subset-refl, tag_set_eq-Decides, union-included_right}
use Rattle.df_settling.proofs.Roles.{Apart, Broker, Exchange, Good, Monitor, Regulator, Role, Trader, Watcher, label_of}
use Rattle.df_settling.proofs.Totals.{total, total-append}
use Rattle.df_settling.proofs.Unit.{price, priced, published_parts, subs_of, watched_filter}

-- what each event is charged where all that it leads to is counted, with so many monitors
abbrev pub whole : ℕ → Role → ℕ
whole m Exchange = 59 * m
whole m Broker = 13
whole m Regulator = 0
whole m (Trader j) = 22
whole m (Monitor j a b) = 53
whole m Watcher = 0

abbrev pub watcher_tags : List (List ℕ)
watcher_tags = floor_tag regulator_tag ∷ []

-- what the parts are worth to a subscription of a unit
abbrev pub sub_worth : (Role → ℕ) → Role → List Part → ℕ × List Clause → ℕ
sub_worth w role seen sub = cond (matches sub.1 seen) (price w role sub.0) 0

-- what parts are worth to a unit
abbrev pub worth : (Role → ℕ) → Role → List Part → ℕ
worth w Watcher parts = cond (gives watched_filter [] watcher_tags [] false [] parts) (price w Watcher 0) 0
worth w role parts = total (sub_worth w role (cut (label_of role) parts)) (subs_of role)

-- news

offer_worth : (w : Role → ℕ) (role : Role) (ds : List Given) (ev : EventName) (seen : List Part) (sub : ℕ × List Clause) →
    priced w role (offer ds ev seen sub) ≤ sub_worth w role seen sub
offer_worth w role ds ev seen sub = go (matches sub.1 seen) (not (was_handed ds ev sub.0))
  where
    go : (a b : Bool) → priced w role (cond (a && b) (record { event = ev; sub = sub.0; parts = seen } ∷ []) []) ≤ cond a (price w role sub.0) 0
    go true true = omega arith
    go true false = omega arith
    go false b = omega arith

offers_worth : (w : Role → ℕ) (role : Role) (ds : List Given) (ev : EventName) (seen : List Part) (subs : List (ℕ × List Clause)) →
    priced w role (flat_map (λ sub. offer ds ev seen sub) subs) ≤ total (sub_worth w role seen) subs
offers_worth w role ds ev seen [] = omega arith
offers_worth w role ds ev seen (x ∷ subs) =
    let a = offer_worth w role ds ev seen x in
    let b = offers_worth w role ds ev seen subs in
    let c = total-append (λ (d : Given). price w role d.sub) (offer ds ev seen x) (flat_map (λ sub. offer ds ev seen sub) subs) in
    omega arith

pub news_worth : (w : Role → ℕ) (role : Role) (st : OwnState) (subs later : List (ℕ × List Clause)) → subs ++ later ≡ subs_of role →
    (ds : List Given) (past : List Entry) (c : Commit) (l : Label) (added : List Part) → st.input ≡ l → contents past c.event ≡ [] → c.edit ≡ ([], added) →
    priced w role (plain_news (Some st) subs ds past (Some c)) ≤ total (sub_worth w role (cut l added)) (subs_of role)
news_worth w role st subs later s ds past c l added i e edit = go (is_nil (cut st.input c.edit.1))
  where
    seen : cut st.input (apply c.edit (contents past c.event)) ≡ cut l added
    seen =
        ap (λ (ps : List Part). cut st.input (apply c.edit ps)) e
        ∙ ap (λ (ed : _). cut st.input (apply ed [])) edit
        ∙ ap (λ (k : Label). cut k added) i

    all : priced w role (flat_map (λ sub. offer ds c.event (cut l added) sub) subs) ≤ total (sub_worth w role (cut l added)) (subs_of role)
    all =
        let a = offers_worth w role ds c.event (cut l added) subs in
        let b = total-append (sub_worth w role (cut l added)) subs later in
        let d = ap (total (sub_worth w role (cut l added))) s in
        omega arith

    go : (b : Bool) → priced w role (cond b [] (flat_map (λ sub. offer ds c.event (cut st.input (apply c.edit (contents past c.event))) sub) subs))
        ≤ total (sub_worth w role (cut l added)) (subs_of role)
    go true = omega arith
    go false = subst (λ (ps : List Part). priced w role (flat_map (λ sub. offer ds c.event ps sub) subs)
        ≤ total (sub_worth w role (cut l added)) (subs_of role)) (sym seen) all

-- subscriptions that ask for a name that no part has

abbrev Unnamed : List ℕ → List Part → Type 0
Unnamed n [] = Unit {0}
Unnamed n (p ∷ ps) = (bytes_eq n p.name ≡ false) × Unnamed n ps

abbrev Missing : List (ℕ × List Clause) → List Part → Type 0
Missing [] parts = Unit {0}
Missing ((n, []) ∷ subs) parts = ⊥
Missing ((n, c ∷ cs) ∷ subs) parts = Unnamed c.name parts × Missing subs parts

unserved : (c : Clause) (p : Part) → bytes_eq c.name p.name ≡ false → serves c p ≡ false
unserved c p e = ap (λ (b : Bool). b && test_holds c.test p.value) e

none_serves : (c : Clause) (l : Label) (parts : List Part) → Unnamed c.name parts → list_any (λ p. serves c p) (cut l parts) ≡ false
none_serves c l [] h = refl
none_serves c l (p ∷ ps) h = go (flows_to p.label l) (none_serves c l ps h.1)
  where
    go : (b : Bool) → list_any (λ p. serves c p) (cut l ps) ≡ false → list_any (λ p. serves c p) (cond b (p ∷ cut l ps) (cut l ps)) ≡ false
    go true ih = ap (λ (b : Bool). b || list_any (λ p. serves c p) (cut l ps)) (unserved c p h.0) ∙ ih
    go false ih = ih

missing_worth : (w : Role → ℕ) (role : Role) (l : Label) (parts : List Part) (subs : List (ℕ × List Clause)) → Missing subs parts →
    total (sub_worth w role (cut l parts)) subs ≡ 0
missing_worth w role l parts [] h = refl
missing_worth w role l parts ((n, []) ∷ subs) h = absurd h
missing_worth w role l parts ((n, c ∷ cs) ∷ subs) h =
    let a : cond (matches (c ∷ cs) (cut l parts)) (price w role n) 0 ≡ 0 =
    ap (λ (b : Bool). cond (b && list_all (λ c. list_any (λ p. serves c p) (cut l parts)) cs) (price w role n) 0) (none_serves c l parts h.0) in
    let b = missing_worth w role l parts subs h.1 in
    omega arith

at_most : (b : Bool) (x : ℕ) → cond b x 0 ≤ x
at_most true x = omega arith
at_most false x = omega arith

same_bytes : (p q : List ℕ) → bytes_eq p q ≡ true → p ≡ q
same_bytes p q e = (bytes_eq-Decides p q).0 e

-- A tick goes to the monitors alone

apart_worth : (m j : ℕ) (a b : List ℕ) (t : Tick) → a ≢ b → worth (whole m) (Monitor j a b) (published_parts Exchange (tick_draft t ∷ [])) ≤ 59
apart_worth m j a b t apart = go (bytes_eq t.symbol a) refl (bytes_eq t.symbol b) refl
  where
    go : (x : Bool) → bytes_eq t.symbol a ≡ x → (y : Bool) → bytes_eq t.symbol b ≡ y →
        cond ((x || false) && true) 59 0 + (cond ((y || false) && true) 59 0 + 0) ≤ 59
    go true p true q = absurd (apart (sym (same_bytes t.symbol a p) ∙ same_bytes t.symbol b q))
    go true p false q = omega arith
    go false p true q = omega arith
    go false p false q = omega arith

abbrev pub bound_tick : Role → ℕ
bound_tick (Monitor j a b) = 59
bound_tick _ = 0

pub tick_worth : (m : ℕ) (t : Tick) (r : Role) → Apart r → worth (whole m) r (published_parts Exchange (tick_draft t ∷ [])) ≤ bound_tick r
tick_worth m t Exchange a = omega arith
tick_worth m t Broker a = omega arith
tick_worth m t Regulator a = omega arith
tick_worth m t (Trader j) a = omega arith
tick_worth m t (Monitor j x y) a = apart_worth m j x y t a
tick_worth m t Watcher a = absurd a

-- A match goes to one trader

-- whether the tags of two traders are the same
abbrev pub same_trader : ℕ → ℕ → Bool
same_trader v j = tag_eq (floor_tag (trader_tag v)) (floor_tag (trader_tag j))

abbrev pub match_part : ℕ → Match → Part
match_part j m = record { name = codes "match"; label = label_of (Monitor j [] []); value = (match_draft m).value; privileges = [] }

pub match_parts : (j : ℕ) (a b : List ℕ) (m : Match) → published_parts (Monitor j a b) (match_draft m ∷ []) ≡ match_part j m ∷ []
match_parts j a b m = ap with_tags (union-included_right tags tags (tt, tt) (is_subset-refl tags))
  where
    tags : List (List ℕ)
    tags = floor_tag (trader_tag j) ∷ []

    with_tags : List (List ℕ) → List Part
    with_tags ts = record { name = codes "match"; label = record { s = ts; i = floor_tag 0 ∷ [] }; value = (match_draft m).value; privileges = [] } ∷ []

abbrev pub bound_match : ℕ → Role → ℕ
bound_match j (Trader v) = cond (same_trader v j) 53 0
bound_match j _ = 0

pub match_worth : (n j : ℕ) (m : Match) (r : Role) → worth (whole n) r (match_part j m ∷ []) ≤ bound_match j r
match_worth n j m Exchange = omega arith
match_worth n j m Broker = let e = missing_worth (whole n) Broker (label_of Broker) (match_part j m ∷ []) (subs_of Broker) ((refl, tt), tt) in omega arith
match_worth n j m Regulator = omega arith
match_worth n j m (Trader v) = let e = go (same_trader v j) in omega arith
  where
    go : (b : Bool) → total (sub_worth (whole n) (Trader v) (cond (((b || false) && true) && true) (match_part j m ∷ []) [])) (subs_of (Trader v))
        ≡ cond b 53 0
    go true = refl
    go false = refl
match_worth n j m (Monitor v a b) = let e = missing_worth (whole n) (Monitor v a b) (label_of (Monitor v a b)) (match_part j m ∷ [])
    (subs_of (Monitor v a b)) ((refl, tt), ((refl, tt), tt)) in omega arith
match_worth n j m Watcher = omega arith

-- An order goes to the broker

abbrev pub bound_offer : Role → ℕ
bound_offer Broker = 22
bound_offer _ = 0

pub offer_worth_most : (n j : ℕ) (o : Offer) (r : Role) → worth (whole n) r (published_parts (Trader j) (offer_draft o ∷ [])) ≤ bound_offer r
offer_worth_most n j o Exchange = omega arith
offer_worth_most n j o Broker = omega arith
offer_worth_most n j o Regulator = omega arith
offer_worth_most n j o (Trader v) = let e = missing_worth (whole n) (Trader v) (label_of (Trader v)) (published_parts (Trader j) (offer_draft o ∷ []))
    (subs_of (Trader v)) ((refl, tt), ((refl, tt), tt)) in omega arith
offer_worth_most n j o (Monitor v a b) = let e = missing_worth (whole n) (Monitor v a b) (label_of (Monitor v a b))
    (published_parts (Trader j) (offer_draft o ∷ [])) (subs_of (Monitor v a b)) ((refl, tt), ((refl, tt), tt)) in omega arith
offer_worth_most n j o Watcher = omega arith

-- A trade goes to two traders and to the regulator's instance

any_filter : (f g : Part → Bool) (ps : List Part) → list_any f (filter g ps) ≡ list_any (λ p. f p && g p) ps
any_filter f g [] = refl
any_filter f g (p ∷ ps) = go (g p) (f p) (any_filter f g ps)
  where
    go : (b c : Bool) → list_any f (filter g ps) ≡ list_any (λ p. f p && g p) ps →
        list_any f (cond b (p ∷ filter g ps) (filter g ps)) ≡ ((f p && b) || list_any (λ p. f p && g p) ps)
    go true c ih = both (f p) ih
      where
        both : (c : Bool) → list_any f (filter g ps) ≡ list_any (λ p. f p && g p) ps →
            (c || list_any f (filter g ps)) ≡ ((c && true) || list_any (λ p. f p && g p) ps)
        both true ih = refl
        both false ih = ih
    go false c ih = both (f p) ih
      where
        both : (c : Bool) → list_any f (filter g ps) ≡ list_any (λ p. f p && g p) ps →
            list_any f (filter g ps) ≡ ((c && false) || list_any (λ p. f p && g p) ps)
        both true ih = ih
        both false ih = ih

abbrev pub bound_trade : ℕ → ℕ → Role → ℕ
bound_trade b s (Trader v) = cond (same_trader v b) 3 0 + cond (same_trader v s) 3 0
bound_trade b s Watcher = 7
bound_trade b s _ = 0

fill_worth : (n v : ℕ) (k : ℤ) (t : Trade) → sub_worth (whole n) (Trader v) (cut (label_of (Trader v)) (published_parts Broker (trade_event k t)))
    (1, present (codes "fill") ∷ []) ≤ cond (same_trader v t.buyer) 3 0 + cond (same_trader v t.seller) 3 0
fill_worth n v k t = subst (λ (b : Bool). cond (b && true) 3 0 ≤ cond (same_trader v t.buyer) 3 0 + cond (same_trader v t.seller) 3 0)
    (sym (any_filter (λ p. serves (present (codes "fill")) p) (λ p. flows_to p.label (label_of (Trader v))) (published_parts Broker (trade_event k t))))
    (go (same_trader v t.buyer) (same_trader v t.seller))
  where
    go : (x y : Bool) → cond (((((x || false) && true) && true) || ((((y || false) && true) && true) || false)) && true) 3 0 ≤ cond x 3 0 + cond y 3 0
    go true true = omega arith
    go true false = omega arith
    go false true = omega arith
    go false false = omega arith

pub trade_worth : (n : ℕ) (k : ℤ) (t : Trade) (r : Role) → worth (whole n) r (published_parts Broker (trade_event k t)) ≤ bound_trade t.buyer t.seller r
trade_worth n k t Exchange = omega arith
trade_worth n k t Broker = let e = missing_worth (whole n) Broker (label_of Broker) (published_parts Broker (trade_event k t)) (subs_of Broker)
    ((refl, (refl, (refl, (refl, tt)))), tt) in omega arith
trade_worth n k t Regulator = omega arith
trade_worth n k t (Trader v) =
    let a = missing_worth (whole n) (Trader v) (label_of (Trader v)) (published_parts Broker (trade_event k t)) ((0, present (codes "match") ∷ []) ∷ [])
    ((refl, (refl, (refl, (refl, tt)))), tt) in
    let b = fill_worth n v k t in
    omega arith
trade_worth n k t (Monitor v x y) = let e = missing_worth (whole n) (Monitor v x y) (label_of (Monitor v x y)) (published_parts Broker (trade_event k t))
    (subs_of (Monitor v x y)) ((refl, (refl, (refl, (refl, tt)))), ((refl, (refl, (refl, (refl, tt)))), tt)) in omega arith
trade_worth n k t Watcher = at_most (gives watched_filter [] watcher_tags [] false [] (published_parts Broker (trade_event k t))) 7

-- A warning goes to no one

pub warning_worth : (n : ℕ) (k : ℤ) (r : Role) → worth (whole n) r (published_parts Watcher (warning_draft k ∷ [])) ≡ 0
warning_worth n k Exchange = refl
warning_worth n k Broker = refl
warning_worth n k Regulator = refl
warning_worth n k (Trader v) = refl
warning_worth n k (Monitor v a b) = missing_worth (whole n) (Monitor v a b) (label_of (Monitor v a b)) (published_parts Watcher (warning_draft k ∷ []))
    (subs_of (Monitor v a b)) ((refl, tt), ((refl, tt), tt))
warning_worth n k Watcher = refl

-- the regulator's instance is the one with the tag of the second part of a trade's event

tags_of : (t : List (List ℕ)) (x : Bool) → tag_set_eq watcher_tags t ≡ x → ((x || false) || false) ≡ true → t ≡ watcher_tags
tags_of t true e h = sym ((tag_set_eq-Decides watcher_tags t).0 e)
tags_of t false e h = absurd (true≢false (sym h))

pub given_tags : (role : Role) (ds : List Draft) (t : List (List ℕ)) → Good role ds →
    gives watched_filter [] t [] false [] (published_parts role ds) ≡ true → t ≡ watcher_tags
given_tags Exchange ds t g h = let k : false ≡ true = subst (λ (x : List Draft). gives watched_filter [] t [] false [] (published_parts Exchange x) ≡ true)
    g.1 h in absurd (true≢false (sym k))
given_tags Broker ds t g h = tags_of t (tag_set_eq watcher_tags t) refl
    (subst (λ (x : List Draft). gives watched_filter [] t [] false [] (published_parts Broker x) ≡ true) g.2 h)
given_tags Regulator ds t g h = absurd g
given_tags (Trader j) ds t g h = let k : false ≡ true = subst (λ (x : List Draft). gives watched_filter [] t [] false [] (published_parts (Trader j) x)
    ≡ true) g.1 h in absurd (true≢false (sym k))
given_tags (Monitor j a b) ds t g h = let k : false ≡ true =
    subst (λ (x : List Draft). gives watched_filter [] t [] false [] (published_parts (Monitor j a b) x) ≡ true) g.1 h in absurd (true≢false (sym k))
given_tags Watcher ds t g h = let k : false ≡ true = subst (λ (x : List Draft). gives watched_filter [] t [] false [] (published_parts Watcher x) ≡ true) g.1
    h in absurd (true≢false (sym k))
