-- What receivers were handed, row by row.
use Rattle.df_tables.proofs.Names.{◌≡◌, ℕ, zero, suc, ◌<◌, List, [], ◌∷◌, ◌++◌, Bool, true, false, if◌then◌else◌, map, length, get_or, take, refl, ap, sym, ◌∙◌, arith, All, append_assoc, append-nil, length-map, same_lists, Pair, LocalState, Part, Given, EventName, IsCalm, IsNews, each, given_to, news_at, pairs_of, quiet_row, settled_row, staged_row, with_news, LineState, settled, Unit}
use Rattle.std.specs.Prelude.{◌==◌}
use Rattle.df_tables.proofs.Each.{at_each, length-each, turned}

-- a row with these deliveries left and staged
abbrev row : LocalState → List Given → List Given → Unit
row l left staged = record { local = l; line = record { left = left; staged = staged } }

staged_turned : (ev : EventName) (after : List Part) (ps : List Pair) (k : ℕ) (u : Unit) → turned (staged_row ev after) ps k u ≡ record u { line = record u.line { staged = u.line.staged ++ news_at ev after u.local.own.input ps k } }
staged_turned ev after [] k u = ap (λ (l : List Given). let x : Unit = record u { line = record u.line { staged = l } } in x) (sym (append-nil u.line.staged))
staged_turned ev after (p ∷ ps) k u = by (p.0 == k) (λ v. staged_turned ev after ps k v)
  where
    by : (b : Bool) → ((v : Unit) → turned (staged_row ev after) ps k v ≡ record v { line = record v.line { staged = v.line.staged ++ news_at ev after v.local.own.input ps k } })
        → turned (staged_row ev after) ps k (if b then staged_row ev after p u else u) ≡ record u { line = record u.line { staged = u.line.staged ++ map (given_to ev after u.local.own.input) (if b then p ∷ pairs_of k ps else pairs_of k ps) } }
    by true ih = ih (staged_row ev after p u) ∙ ap (λ (l : List Given). let x : Unit = record u { line = record u.line { staged = l } } in x) (append_assoc u.line.staged (given_to ev after u.local.own.input p ∷ []) (news_at ev after u.local.own.input ps k))
    by false ih = ih u

-- a row that is settled stays as it is
settled_again : (ps : List Pair) (k : ℕ) (u : Unit) → u.line.staged ≡ [] → turned settled_row ps k u ≡ u
settled_again [] k u e = refl
settled_again (p ∷ ps) k u e =
    let ih = settled_again ps k u e in
    elim (p.0 == k) as (λ b. turned settled_row ps k (if b then settled_row p u else u) ≡ u)
    [ true ↦ ap (turned settled_row ps k) same ∙ ih | false ↦ ih ]
  where
    same : settled_row p u ≡ u
    same = ap (λ (l : LineState). let x : Unit = record u { line = l } in x) (rw e (ap (λ (l : List Given). let y : LineState = record { left = l; staged = [] } in y) (append-nil u.line.left)))

settled_turned : (ps : List Pair) (k : ℕ) (u : Unit) → (pairs_of k ps ≡ [] → u.line.staged ≡ []) → turned settled_row ps k u ≡ record u { line = settled u.line }
settled_turned [] k u h = sym (ap (λ (l : LineState). let x : Unit = record u { line = l } in x) (rw (h refl) (ap (λ (l : List Given). let y : LineState = record { left = l; staged = [] } in y) (append-nil u.line.left))))
settled_turned (p ∷ ps) k u h = by (p.0 == k) h (settled_again ps k (settled_row p u) refl) (λ i. settled_turned ps k u i)
  where
    by : (b : Bool) → ((if b then p ∷ pairs_of k ps else pairs_of k ps) ≡ [] → u.line.staged ≡ []) → turned settled_row ps k (settled_row p u) ≡ settled_row p u → ((pairs_of k ps ≡ [] → u.line.staged ≡ []) → turned settled_row ps k u ≡ record u { line = settled u.line }) → turned settled_row ps k (if b then settled_row p u else u) ≡ record u { line = settled u.line }
    by true i again rest = again
    by false i again rest = rest i

pub at_map : {X Y : Type 0} (f : X → Y) (xs : List X) (k : ℕ) (d : X) (e : Y) → k < length xs → get_or (map f xs) k e ≡ f (get_or xs k d)
at_map f [] k d e h = absurd (omega arith)
at_map f (x ∷ xs) zero d e h = refl
at_map f (x ∷ xs) (suc k) d e h = at_map f xs k d e (omega arith)

-- what was staged and settled was handed
pub handed_out : (ev : EventName) (after : List Part) (ps : List Pair) (us : List Unit) (news : Unit → List Given) → All IsCalm us →
    IsNews news ev after ps us → each settled_row ps (each (staged_row ev after) ps us) ≡ map (with_news news) us
handed_out ev after ps us news calm is =
    same_lists _ _ (length-each settled_row ps staged ∙ length-each (staged_row ev after) ps us ∙ sym (length-map us (with_news news)))
    (λ k d i. at k d (let a = length-each settled_row ps staged in let b = length-each (staged_row ev after) ps us in omega (arith, a, b, i)))
  where
    staged : List Unit
    staged = each (staged_row ev after) ps us

    brought : ℕ → Unit → List Given
    brought k u = news_at ev after u.local.own.input ps k

    one : (k : ℕ) (u : Unit) → u.line.staged ≡ [] → news u ≡ brought k u →
        turned settled_row ps k (record u { line = record u.line { staged = u.line.staged ++ brought k u } }) ≡ with_news news u
    one k u none same =
        ap (λ (s : List Given). turned settled_row ps k (row u.local u.line.left (s ++ brought k u))) none
        ∙ settled_turned ps k (row u.local u.line.left (brought k u)) (λ e. ap (map (given_to ev after u.local.own.input)) e)
        ∙ ap (λ (n : List Given). row u.local (u.line.left ++ n) []) (sym same)
        ∙ ap (row u.local (u.line.left ++ news u)) (sym none)

    at : (k : ℕ) (d : Unit) → k < length us → get_or (each settled_row ps staged) k d ≡ get_or (map (with_news news) us) k d
    at k d i =
        let u = get_or us k d in
        at_each settled_row ps staged k d (let b = length-each (staged_row ev after) ps us in omega (arith, b, i))
        ∙ ap (turned settled_row ps k) (at_each (staged_row ev after) ps us k d i ∙ staged_turned ev after ps k u)
        ∙ one k u (calm k d i) (is k d i)
        ∙ sym (at_map (with_news news) us k d d i)

quiet_both : (ps : List Pair) (k : ℕ) (u v : Unit) → u.local ≡ v.local → u.line.left ≡ v.line.left → (pairs_of k ps ≡ [] → u ≡ v) → turned quiet_row ps k u ≡ turned quiet_row ps k v
quiet_both [] k u v n l h = h refl
quiet_both (p ∷ ps) k u v n l h = by (p.0 == k) h (quiet_both ps k (quiet_row p u) (quiet_row p v) n l (λ _. same)) (λ i. quiet_both ps k u v n l i)
  where
    same : quiet_row p u ≡ quiet_row p v
    same = cc

    by : (b : Bool) → ((if b then p ∷ pairs_of k ps else pairs_of k ps) ≡ [] → u ≡ v) → turned quiet_row ps k (quiet_row p u) ≡ turned quiet_row ps k (quiet_row p v) → ((pairs_of k ps ≡ [] → u ≡ v) → turned quiet_row ps k u ≡ turned quiet_row ps k v) → turned quiet_row ps k (if b then quiet_row p u else u) ≡ turned quiet_row ps k (if b then quiet_row p v else v)
    by true i q rest = q
    by false i q rest = rest i

none_before : (ps : List Pair) (i k : ℕ) → pairs_of k ps ≡ [] → pairs_of k (take i ps) ≡ []
none_before [] zero k h = refl
none_before [] (suc i) k h = refl
none_before (p ∷ ps) zero k h = refl
none_before (p ∷ ps) (suc i) k h =
    let qs = pairs_of k (take i ps) in
    elim (p.0 == k) as (λ b. (if b then p ∷ pairs_of k ps else pairs_of k ps) ≡ [] → (if b then p ∷ qs else qs) ≡ [])
    [ true ↦ λ q. absurd (let z : ⊥ = cc in z) | false ↦ none_before ps i k ] h

-- what was staged at some of the receivers is let go at all of them
pub half_staged : (ev : EventName) (after : List Part) (ps qs : List Pair) (us : List Unit) → ((k : ℕ) → pairs_of k ps ≡ [] → pairs_of k qs ≡ []) → each quiet_row ps (each (staged_row ev after) qs us) ≡ each quiet_row ps us
half_staged ev after ps qs us among = same_lists _ _ (length-each quiet_row ps (each (staged_row ev after) qs us) ∙ length-each (staged_row ev after) qs us ∙ sym (length-each quiet_row ps us))
    (λ k d h. at k d (let a = length-each quiet_row ps (each (staged_row ev after) qs us) in let b = length-each (staged_row ev after) qs us in omega (arith, a, b, h)))
  where
    at : (k : ℕ) (d : Unit) → k < length us → get_or (each quiet_row ps (each (staged_row ev after) qs us)) k d ≡ get_or (each quiet_row ps us) k d
    at k d h =
        let u = get_or us k d in
        at_each quiet_row ps (each (staged_row ev after) qs us) k d (let b = length-each (staged_row ev after) qs us in omega (arith, b, h))
        ∙ ap (turned quiet_row ps k) (at_each (staged_row ev after) qs us k d h ∙ staged_turned ev after qs k u)
        ∙ quiet_both ps k (record u { line = record u.line { staged = u.line.staged ++ news_at ev after u.local.own.input qs k } }) u refl refl
        (λ n. ap (λ (l : List Pair). let x : Unit = record u { line = record u.line { staged = u.line.staged ++ map (given_to ev after u.local.own.input) l } } in x) (among k n) ∙ ap (λ (l : List Given). let x : Unit = record u { line = record u.line { staged = l } } in x) (append-nil u.line.staged))
        ∙ sym (at_each quiet_row ps us k d h)

pub half_way : (ev : EventName) (after : List Part) (ps : List Pair) (i : ℕ) (us : List Unit) → each quiet_row ps (each (staged_row ev after) (take i ps) us) ≡ each quiet_row ps us
half_way ev after ps i us = half_staged ev after ps (take i ps) us (λ k h. none_before ps i k h)

quiet_turned : (ps : List Pair) (k : ℕ) (u : Unit) → u.line.staged ≡ [] → turned quiet_row ps k u ≡ u
quiet_turned [] k u e = refl
quiet_turned (p ∷ ps) k u e =
    let ih = quiet_turned ps k u e in
    let same : quiet_row p u ≡ u = ap (λ (l : List Given). let x : Unit = record u { line = record u.line { staged = l } } in x) (sym e) in
    elim (p.0 == k) as (λ b. turned quiet_row ps k (if b then quiet_row p u else u) ≡ u) [ true ↦ ap (turned quiet_row ps k) same ∙ ih | false ↦ ih ]

-- where nothing was staged nothing is let go
pub calm_stays : (ps : List Pair) (us : List Unit) → All IsCalm us → each quiet_row ps us ≡ us
calm_stays ps us calm = same_lists _ _ (length-each quiet_row ps us) (λ k d h. let b = length-each quiet_row ps us in let i : k < length us = omega (arith, b, h) in at_each quiet_row ps us k d i ∙ quiet_turned ps k (get_or us k d) (calm k d i))
