-- What a row of cells has.
use Rattle.df_lint.proofs.Names.{inl, inr, ◌≡◌, ◌⊎◌, ℕ, zero, suc, ◌+◌, ◌<◌, List, [], ◌∷◌, Bool, true, false, not, ◌&&◌, ◌||◌, refl, sym, ◌∙◌, ap, subst, length, take, arith, list_all, and_from, and_parts, or_cases, or_left, or_right, or_parts, slice_set, slice_index_or, is_eq, ordering_then, Ordering, Less, Equal, Greater, IsAscending, IsBelow, privilege_eq, right_cmp, tag_cmp, tag_eq, Privilege, Right, Plus, Minus, PlusAuth, MinusAuth, tag_eq-itself, tag_eq-exact, contains, Label, Grows, IsRow, blank, cell_at, gives, has, is_bar, no_bar, pass_row, passed, pick, row_of, Gains, IsPassedOn, row_passes, row_reaches, Cell, auth_of, needed, needed_to_attach, Del}
use Rattle.df_label.specs.Privileges.{contains as contains_privilege}

-- passing on, cell by cell

pub pass_at : (gs cs : List Cell) (i : ℕ) → length gs ≡ length cs → i < length gs → cell_at (pass_row (take i gs) cs) i ≡ cell_at cs i
pass_at [] cs i e lt = absurd (let z : ⊥ = omega arith in z)
pass_at (g ∷ gs) [] i e lt = absurd (let z : ⊥ = omega arith in z)
pass_at (g ∷ gs) (c ∷ cs) zero e lt = refl
pass_at (g ∷ gs) (c ∷ cs) (suc i) e lt = pass_at gs cs i (let z : length gs ≡ length cs = omega arith in z) (let z : i < length gs = omega arith in z)

pass_set : (gs cs : List Cell) (i : ℕ) → length gs ≡ length cs → i < length gs → slice_set (pass_row (take i gs) cs) i (passed (cell_at gs i) (cell_at cs i)) ≡ pass_row (take (suc i) gs) cs
pass_set [] cs i e lt = absurd (let z : ⊥ = omega arith in z)
pass_set (g ∷ gs) [] i e lt = absurd (let z : ⊥ = omega arith in z)
pass_set (g ∷ gs) (c ∷ cs) zero e lt = refl
pass_set (g ∷ gs) (c ∷ cs) (suc i) e lt = ap (λ (rest : List Cell). passed g c ∷ rest) (pass_set gs cs i (let z : length gs ≡ length cs = omega arith in z) (let z : i < length gs = omega arith in z))

pub pass_more : (gs cs now next : List Cell) (i : ℕ) (g c : Cell) → length gs ≡ length cs → i < length gs → g ≡ cell_at gs i → c ≡ cell_at now i → now ≡ pass_row (take i gs) cs → next ≡ slice_set now i (passed g c) → next ≡ pass_row (take (i + 1) gs) cs
pass_more gs cs now next i g c e lt g_is c_is before n =
    let at : c ≡ cell_at cs i = c_is ∙ ap (λ (x : List Cell). cell_at x i) before ∙ pass_at gs cs i e lt in
    let more : suc i ≡ i + 1 = omega arith in
    n ∙ ap (λ (x : List Cell). slice_set x i (passed g c)) before ∙ ap (λ (x : Cell). slice_set (pass_row (take i gs) cs) i (passed x c)) g_is
    ∙ ap (λ (x : Cell). slice_set (pass_row (take i gs) cs) i (passed (cell_at gs i) x)) at ∙ pass_set gs cs i e lt ∙ ap (λ (n : ℕ). pass_row (take n gs) cs) more

pub pass_all : (gs cs : List Cell) → pass_row (take (length gs) gs) cs ≡ pass_row gs cs
pass_all [] cs = refl
pass_all (g ∷ gs) [] = refl
pass_all (g ∷ gs) (c ∷ cs) = ap (λ (rest : List Cell). passed g c ∷ rest) (pass_all gs cs)

-- what a cell gains

has_passed : (g c : Cell) (r : Right) → has (passed g c) r ≡ (has c r || has g (auth_of r))
has_passed g c Plus = refl
has_passed g c Minus = refl
has_passed g c PlusAuth = refl
has_passed g c MinusAuth = refl

Gain : Cell → Cell → Type 0
Gain old new = (r : Right) × (has old r ≡ false) × (has new r ≡ true)

half_kept : (g a b : Bool) → (g && not (a && b)) ≡ false → ((a || g) ≡ a) × ((b || g) ≡ b)
half_kept true true true e = (refl, refl)
half_kept true true false e = absurd (let z : ⊥ = cc in z)
half_kept true false b e = absurd (let z : ⊥ = cc in z)
half_kept false true true e = (refl, refl)
half_kept false true false e = (refl, refl)
half_kept false false true e = (refl, refl)
half_kept false false false e = (refl, refl)

half_gains : (g a b : Bool) → (g && not (a && b)) ≡ true → ((a ≡ false) × ((a || g) ≡ true)) ⊎ ((b ≡ false) × ((b || g) ≡ true))
half_gains true true true e = absurd (let z : ⊥ = cc in z)
half_gains true true false e = inr (refl, refl)
half_gains true false b e = inl (refl, refl)
half_gains false a b e = absurd (let z : ⊥ = cc in z)

gain_of : (g c : Cell) → gives g c ≡ true → Gain c (passed g c)
unfolding Gain
gain_of g c e = elim (or_cases (g.plus_auth && not (c.plus && c.plus_auth)) (g.minus_auth && not (c.minus && c.minus_auth)) e) [
  | inl p ↦ plus (half_gains g.plus_auth c.plus c.plus_auth p)
  | inr m ↦ minus (half_gains g.minus_auth c.minus c.minus_auth m)
]
  where
    plus : ((c.plus ≡ false) × ((c.plus || g.plus_auth) ≡ true)) ⊎ ((c.plus_auth ≡ false) × ((c.plus_auth || g.plus_auth) ≡ true)) → (r : Right) × (has c r ≡ false) × (has (passed g c) r ≡ true)
    plus (inl h) = (Plus, h.0, h.1)
    plus (inr h) = (PlusAuth, h.0, h.1)

    minus : ((c.minus ≡ false) × ((c.minus || g.minus_auth) ≡ true)) ⊎ ((c.minus_auth ≡ false) × ((c.minus_auth || g.minus_auth) ≡ true)) → (r : Right) × (has c r ≡ false) × (has (passed g c) r ≡ true)
    minus (inl h) = (Minus, h.0, h.1)
    minus (inr h) = (MinusAuth, h.0, h.1)

same_of : (g c : Cell) → gives g c ≡ false → passed g c ≡ c
same_of g c e =
    let both = or_parts (g.plus_auth && not (c.plus && c.plus_auth)) (g.minus_auth && not (c.minus && c.minus_auth)) e in
    let plus = half_kept g.plus_auth c.plus c.plus_auth both.0 in
    let minus = half_kept g.minus_auth c.minus c.minus_auth both.1 in
    ap (λ (b : Bool). record { asked = c.asked; plus = b; minus = c.minus || g.minus_auth; plus_auth = c.plus_auth || g.plus_auth; minus_auth = c.minus_auth || g.minus_auth }) plus.0
    ∙ ap (λ (b : Bool). record { asked = c.asked; plus = c.plus; minus = b; plus_auth = c.plus_auth || g.plus_auth; minus_auth = c.minus_auth || g.minus_auth }) minus.0
    ∙ ap (λ (b : Bool). record { asked = c.asked; plus = c.plus; minus = c.minus; plus_auth = b; minus_auth = c.minus_auth || g.minus_auth }) plus.1
    ∙ ap (λ (b : Bool). record { asked = c.asked; plus = c.plus; minus = c.minus; plus_auth = c.plus_auth; minus_auth = b }) minus.1

set_same : (cs : List Cell) (i : ℕ) → slice_set cs i (cell_at cs i) ≡ cs
set_same [] i = refl
set_same (c ∷ cs) zero = refl
set_same (c ∷ cs) (suc i) = ap (λ (rest : List Cell). c ∷ rest) (set_same cs i)

set_at : (cs : List Cell) (i : ℕ) (x : Cell) → i < length cs → cell_at (slice_set cs i x) i ≡ x
set_at [] i x lt = absurd (let z : ⊥ = omega arith in z)
set_at (c ∷ cs) zero x lt = refl
set_at (c ∷ cs) (suc i) x lt = set_at cs i x (let z : i < length cs = omega arith in z)

set_kept : (cs : List Cell) (i k : ℕ) (g : Cell) (r : Right) → has (cell_at cs k) r ≡ true → has (cell_at (slice_set cs i (passed g (cell_at cs i))) k) r ≡ true
set_kept [] i k g r m = m
set_kept (c ∷ cs) zero zero g r m = has_passed g c r ∙ or_left (has c r) (has g (auth_of r)) m
set_kept (c ∷ cs) zero (suc k) g r m = m
set_kept (c ∷ cs) (suc i) zero g r m = m
set_kept (c ∷ cs) (suc i) (suc k) g r m = set_kept cs i k g r m

pub grows_kept : (old now next : List Cell) (i : ℕ) (g c : Cell) → c ≡ cell_at now i → next ≡ slice_set now i (passed g c) → Grows old now → Grows old next
grows_kept old now next i g c at n grown =
    let whole : next ≡ slice_set now i (passed g (cell_at now i)) = n ∙ ap (λ (x : Cell). slice_set now i (passed g x)) at in
    (grown.0, grown.1, grown.2, ap (λ (x : List Cell). has (cell_at x grown.0) grown.1) whole ∙ set_kept now i grown.0 g grown.1 grown.3)

pub grows_now : (gs old now next : List Cell) (i : ℕ) (g c : Cell) → length gs ≡ length old → length now ≡ length gs → i < length gs → c ≡ cell_at now i → now ≡ pass_row (take i gs) old → next ≡ slice_set now i (passed g c) → gives g c ≡ true → Grows old next
unfolding Gain
grows_now gs old now next i g c e many lt at before n gain =
    let was : c ≡ cell_at old i = at ∙ ap (λ (x : List Cell). cell_at x i) before ∙ pass_at gs old i e lt in
    let short : i < length now = omega arith in
    let new : cell_at next i ≡ passed g c = ap (λ (x : List Cell). cell_at x i) n ∙ set_at now i (passed g c) short in
    let more = gain_of g c gain in
    (i, more.0, ap (λ (x : Cell). has x more.0) (sym was) ∙ more.1, ap (λ (x : Cell). has x more.0) new ∙ more.2)

pub same_more : (old now next : List Cell) (i : ℕ) (g c : Cell) → c ≡ cell_at now i → next ≡ slice_set now i (passed g c) → gives g c ≡ false → now ≡ old → next ≡ old
same_more old now next i g c at n none before = n ∙ ap (λ (x : Cell). slice_set now i x) (same_of g c none ∙ at) ∙ set_same now i ∙ before

-- bars

pub bar_found : (gs cs : List Cell) (i : ℕ) → length gs ≡ length cs → i < length gs → is_bar (cell_at gs i) (cell_at cs i) ≡ true → no_bar gs cs ≡ false
bar_found [] cs i e lt b = absurd (let z : ⊥ = omega arith in z)
bar_found (g ∷ gs) [] i e lt b = absurd (let z : ⊥ = omega arith in z)
bar_found (g ∷ gs) (c ∷ cs) zero e lt b = ap (λ (x : Bool). not x && no_bar gs cs) b
bar_found (g ∷ gs) (c ∷ cs) (suc i) e lt b = go (not (is_bar g c)) (bar_found gs cs i (let z : length gs ≡ length cs = omega arith in z) (let z : i < length gs = omega arith in z) b)
  where
    go : (x : Bool) → no_bar gs cs ≡ false → (x && no_bar gs cs) ≡ false
    go true h = h
    go false h = refl

pub no_bar_from : (gs cs : List Cell) → length gs ≡ length cs → ((k : ℕ) → k < length gs → is_bar (cell_at gs k) (cell_at cs k) ≡ false) → no_bar gs cs ≡ true
no_bar_from [] cs e f = refl
no_bar_from (g ∷ gs) [] e f = refl
no_bar_from (g ∷ gs) (c ∷ cs) e f =
    let here : is_bar g c ≡ false = f 0 (let z : 0 < length (g ∷ gs) = omega arith in z) in
    ap (λ (x : Bool). not x && no_bar gs cs) here
    ∙ no_bar_from gs cs (let z : length gs ≡ length cs = omega arith in z) (λ k lt. f (suc k) (let z : suc k < length (g ∷ gs) = omega arith in z))

-- what a row has

and_true : (b : Bool) → (b && true) ≡ b
and_true true = refl
and_true false = refl

and_false : (b : Bool) → (b && false) ≡ false
and_false true = refl
and_false false = refl

pub or_false : (b : Bool) → (b || false) ≡ b
or_false true = refl
or_false false = refl

contains_pick : (b : Bool) (q p : Privilege) (ps : List Privilege) → contains_privilege (pick b q ps) p ≡ ((privilege_eq q p && b) || contains_privilege ps p)
contains_pick true q p ps = ap (λ (x : Bool). x || contains_privilege ps p) (sym (and_true (privilege_eq q p)))
contains_pick false q p ps = ap (λ (x : Bool). x || contains_privilege ps p) (sym (and_false (privilege_eq q p)))

one_cell : (o : Ordering) (r : Right) (c : Cell) (rest : Bool) → ((is_eq (ordering_then o (right_cmp Plus r)) && c.plus) || ((is_eq (ordering_then o (right_cmp Minus r)) && c.minus)
    || ((is_eq (ordering_then o (right_cmp PlusAuth r)) && c.plus_auth) || ((is_eq (ordering_then o (right_cmp MinusAuth r)) && c.minus_auth) || rest)))) ≡ ((is_eq o && has c r) || rest)
one_cell Less r c rest = refl
one_cell Greater r c rest = refl
one_cell Equal Plus c rest = refl
one_cell Equal Minus c rest = refl
one_cell Equal PlusAuth c rest = refl
one_cell Equal MinusAuth c rest = refl

pub contains_row : (t : List ℕ) (ts : List (List ℕ)) (c : Cell) (cs : List Cell) (p : Privilege) → contains_privilege (row_of (t ∷ ts) (c ∷ cs)) p ≡ ((tag_eq t p.tag && has c p.right) || contains_privilege (row_of ts cs) p)
contains_row t ts c cs p =
    let d = row_of ts cs in
    let minus_auth = pick c.minus_auth (record { tag = t; right = MinusAuth }) d in
    let plus_auth = pick c.plus_auth (record { tag = t; right = PlusAuth }) minus_auth in
    let minus = pick c.minus (record { tag = t; right = Minus }) plus_auth in
    contains_pick c.plus (record { tag = t; right = Plus }) p minus
    ∙ ap (λ (x : Bool). (privilege_eq (record { tag = t; right = Plus }) p && c.plus) || x) (contains_pick c.minus (record { tag = t; right = Minus }) p plus_auth
    ∙ ap (λ (x : Bool). (privilege_eq (record { tag = t; right = Minus }) p && c.minus) || x) (contains_pick c.plus_auth (record { tag = t; right = PlusAuth }) p minus_auth
    ∙ ap (λ (x : Bool). (privilege_eq (record { tag = t; right = PlusAuth }) p && c.plus_auth) || x) (contains_pick c.minus_auth (record { tag = t; right = MinusAuth }) p d)))
    ∙ one_cell (tag_cmp t p.tag) p.right c (contains_privilege d p)

both_rows : (e h g a b : Bool) → ((e && (h || g)) || (a || b)) ≡ (((e && h) || a) || ((e && g) || b))
both_rows false h g a b = refl
both_rows true true g a b = refl
both_rows true false true true b = refl
both_rows true false true false b = refl
both_rows true false false a b = refl

pub contains_pass : (ts : List (List ℕ)) (gs cs : List Cell) → length gs ≡ length cs → IsPassedOn (row_of ts gs) (row_of ts cs) (row_of ts (pass_row gs cs))
contains_pass [] gs cs e p = refl
contains_pass (t ∷ ts) [] [] e p = refl
contains_pass (t ∷ ts) [] (c ∷ cs) e p = absurd (let z : ⊥ = omega arith in z)
contains_pass (t ∷ ts) (g ∷ gs) [] e p = absurd (let z : ⊥ = omega arith in z)
contains_pass (t ∷ ts) (g ∷ gs) (c ∷ cs) e p =
    let q = needed_to_attach p in
    let old = contains_privilege (row_of ts cs) p in
    let giver = contains_privilege (row_of ts gs) q in
    contains_row t ts (passed g c) (pass_row gs cs) p
    ∙ ap (λ (x : Bool). (tag_eq t p.tag && x) || contains_privilege (row_of ts (pass_row gs cs)) p) (has_passed g c p.right)
    ∙ ap (λ (x : Bool). (tag_eq t p.tag && (has c p.right || has g (auth_of p.right))) || x) (contains_pass ts gs cs (let z : length gs ≡ length cs = omega arith in z) p)
    ∙ both_rows (tag_eq t p.tag) (has c p.right) (has g (auth_of p.right)) old giver
    ∙ ap (λ (x : Bool). x || ((tag_eq t p.tag && has g (auth_of p.right)) || giver)) (sym (contains_row t ts c cs p))
    ∙ ap (λ (x : Bool). contains_privilege (row_of (t ∷ ts) (c ∷ cs)) p || x) (sym (contains_row t ts g gs q))

tag_apart : (t u : List ℕ) → tag_cmp t u ≡ Less → tag_eq u t ≡ false
tag_apart t u less = go (tag_eq u t) refl
  where
    go : (b : Bool) → tag_eq u t ≡ b → b ≡ false
    go false e = refl
    go true e =
        let itself : tag_cmp t t ≡ Less = subst (λ (x : List ℕ). tag_cmp t x ≡ Less) (tag_eq-exact u t e) less in
        let z : true ≡ false = sym (tag_eq-itself t) ∙ ap is_eq itself in z

below_at : (t : List ℕ) (ts : List (List ℕ)) (k : ℕ) (d : List ℕ) → IsBelow tag_cmp t ts → k < length ts → tag_eq t (slice_index_or ts k d) ≡ false
below_at t [] k d b lt = absurd (let z : ⊥ = omega arith in z)
below_at t (u ∷ ts) zero d b lt = ap is_eq b.0
below_at t (u ∷ ts) (suc k) d b lt = below_at t ts k d b.1 (let z : k < length ts = omega arith in z)

not_below : (t : List ℕ) (ts : List (List ℕ)) (cs : List Cell) (r : Right) → IsBelow tag_cmp t ts → contains_privilege (row_of ts cs) (record { tag = t; right = r }) ≡ false
not_below t [] cs r b = refl
not_below t (u ∷ ts) [] r b = refl
not_below t (u ∷ ts) (c ∷ cs) r b =
    contains_row u ts c cs (record { tag = t; right = r })
    ∙ ap (λ (x : Bool). (x && has c r) || contains_privilege (row_of ts cs) (record { tag = t; right = r })) (tag_apart t u b.0)
    ∙ not_below t ts cs r b.1

-- a look-up by a tag's place
pub contains_at : (ts : List (List ℕ)) → IsAscending tag_cmp ts → (cs : List Cell) (k : ℕ) (r : Right) (d : List ℕ) → length cs ≡ length ts → k < length ts →
    contains_privilege (row_of ts cs) (record { tag = slice_index_or ts k d; right = r }) ≡ has (cell_at cs k) r
contains_at [] s cs k r d e lt = absurd (let z : ⊥ = omega arith in z)
contains_at (t ∷ ts) s [] k r d e lt = absurd (let z : ⊥ = omega arith in z)
contains_at (t ∷ ts) s (c ∷ cs) zero r d e lt =
    contains_row t ts c cs (record { tag = t; right = r })
    ∙ ap (λ (x : Bool). (x && has c r) || contains_privilege (row_of ts cs) (record { tag = t; right = r })) (tag_eq-itself t)
    ∙ ap (λ (x : Bool). has c r || x) (not_below t ts cs r s.0) ∙ or_false (has c r)
contains_at (t ∷ ts) s (c ∷ cs) (suc k) r d e lt =
    let short : k < length ts = omega arith in
    let p : Privilege = record { tag = slice_index_or ts k d; right = r } in
    contains_row t ts c cs p
    ∙ ap (λ (x : Bool). (x && has c r) || contains_privilege (row_of ts cs) p) (below_at t ts k d s.0 short)
    ∙ contains_at ts s.1 cs k r d (let z : length cs ≡ length ts = omega arith in z) short

pub contains_away : (ts : List (List ℕ)) (cs : List Cell) (p : Privilege) → contains ts p.tag ≡ false → contains_privilege (row_of ts cs) p ≡ false
contains_away [] cs p away = refl
contains_away (t ∷ ts) [] p away = refl
contains_away (t ∷ ts) (c ∷ cs) p away =
    let parts = or_parts (tag_eq t p.tag) (contains ts p.tag) away in
    contains_row t ts c cs p ∙ ap (λ (x : Bool). (x && has c p.right) || contains_privilege (row_of ts cs) p) parts.0 ∙ contains_away ts cs p parts.1

pub place_of_tag : (ts : List (List ℕ)) (t : List ℕ) → contains ts t ≡ true → (k : ℕ) × (k < length ts) × (slice_index_or ts k [] ≡ t)
place_of_tag [] t m = absurd (let z : ⊥ = cc in z)
place_of_tag (u ∷ ts) t m = elim (or_cases (tag_eq u t) (contains ts t) m) [
  | inl e ↦ (0, (let z : 0 < length (u ∷ ts) = omega arith in z), tag_eq-exact u t e)
  | inr k ↦ (let rest = place_of_tag ts t k in (suc rest.0, (let lt = rest.1 in let z : suc rest.0 < length (u ∷ ts) = omega arith in z), rest.2))
]

in_cells : (cs : List Cell) (k : ℕ) (r : Right) → has (cell_at cs k) r ≡ true → k < length cs
in_cells [] k Plus m = absurd (let z : ⊥ = cc in z)
in_cells [] k Minus m = absurd (let z : ⊥ = cc in z)
in_cells [] k PlusAuth m = absurd (let z : ⊥ = cc in z)
in_cells [] k MinusAuth m = absurd (let z : ⊥ = cc in z)
in_cells (c ∷ cs) zero r m = omega arith
in_cells (c ∷ cs) (suc k) r m = let lt = in_cells cs k r m in omega arith

pub grows_gains : (ts : List (List ℕ)) (old new : List Cell) → IsAscending tag_cmp ts → length old ≡ length ts → length new ≡ length ts → Grows old new → Gains (row_of ts old) (row_of ts new)
grows_gains ts old new s old_many new_many grown =
    let lt = in_cells new grown.0 grown.1 grown.3 in
    let short : grown.0 < length ts = omega arith in
    (record { tag = slice_index_or ts grown.0 []; right = grown.1 }, contains_at ts s old grown.0 grown.1 [] old_many short ∙ grown.2, contains_at ts s new grown.0 grown.1 [] new_many short ∙ grown.3)

-- rows stay rows

pub length-pass : (gs cs : List Cell) → length (pass_row gs cs) ≡ length cs
length-pass [] cs = refl
length-pass (g ∷ gs) [] = refl
length-pass (g ∷ gs) (c ∷ cs) = ap suc (length-pass gs cs)

asked-pass : (gs cs : List Cell) (k : ℕ) → (cell_at (pass_row gs cs) k).asked ≡ (cell_at cs k).asked
asked-pass [] cs k = refl
asked-pass (g ∷ gs) [] k = refl
asked-pass (g ∷ gs) (c ∷ cs) zero = refl
asked-pass (g ∷ gs) (c ∷ cs) (suc k) = asked-pass gs cs k

pub row-pass : (ts i : List (List ℕ)) (gs cs : List Cell) → IsRow ts i cs → IsRow ts i (pass_row gs cs)
row-pass ts i gs cs row = record {
  count = length-pass gs cs ∙ row.count;
  marked = λ k d lt. asked-pass gs cs k ∙ row.marked k d lt;
  named = row.named;
}

-- who is reached

pub all_contained : (f : List ℕ → Bool) (ts : List (List ℕ)) (t : List ℕ) → list_all f ts ≡ true → contains ts t ≡ true → f t ≡ true
all_contained f [] t all m = absurd (let z : ⊥ = cc in z)
all_contained f (u ∷ ts) t all m =
    let both = and_parts (f u) (list_all f ts) all in
    elim (or_cases (tag_eq u t) (contains ts t) m) [
      | inl e ↦ subst (λ (x : List ℕ). f x ≡ true) (tag_eq-exact u t e) both.0
      | inr k ↦ all_contained f ts t both.1 k
    ]

all_members : (f : List ℕ → Bool) (ts : List (List ℕ)) → ((t : List ℕ) → contains ts t ≡ true → f t ≡ true) → list_all f ts ≡ true
all_members f [] h = refl
all_members f (u ∷ ts) h = and_from (f u) (list_all f ts) (h u (or_left (tag_eq u u) (contains ts u) (tag_eq-itself u))) (all_members f ts (λ t m. h t (or_right (tag_eq u t) (contains ts t) m)))

same_test : (a b : Bool) → (a ≡ true → b ≡ true) → (b ≡ true → a ≡ true) → a ≡ b
same_test true b f g = sym (f refl)
same_test false true f g = g refl
same_test false false f g = refl

module _ (ts : List (List ℕ)) (s : IsAscending tag_cmp ts) (from to : Label) (gs cs : List Cell) (giver : IsRow ts from.i gs) (taker : IsRow ts to.i cs) where
  bar_at : (k : ℕ) → k < length ts → is_bar (cell_at gs k) (cell_at cs k) ≡ (contains to.i (slice_index_or ts k []) && not (row_passes from (row_of ts gs) (row_of ts cs) (slice_index_or ts k [])))
  bar_at k lt =
      let t = slice_index_or ts k [] in
      let g = cell_at gs k in
      let c = cell_at cs k in
      ap (λ (x : Bool). x && not (c.minus || (g.asked || g.plus))) (taker.marked k [] lt)
      ∙ ap (λ (x : Bool). contains to.i t && not (x || (g.asked || g.plus))) (sym (contains_at ts s cs k Minus [] taker.count lt))
      ∙ ap (λ (x : Bool). contains to.i t && not (contains_privilege (row_of ts cs) (needed Del t) || (x || g.plus))) (giver.marked k [] lt)
      ∙ ap (λ (x : Bool). contains to.i t && not (contains_privilege (row_of ts cs) (needed Del t) || (contains from.i t || x))) (sym (contains_at ts s gs k Plus [] giver.count lt))

  pub same_many : length gs ≡ length cs
  same_many = giver.count ∙ sym taker.count

  no_bar_passes : no_bar gs cs ≡ true → row_reaches from (row_of ts gs) to (row_of ts cs) ≡ true
  no_bar_passes none = all_members (row_passes from (row_of ts gs) (row_of ts cs)) to.i (λ t m.
      let place = place_of_tag ts t (taker.named t m) in
      let asks : contains to.i (slice_index_or ts place.0 []) ≡ true = ap (contains to.i) place.2 ∙ m in
      let in_range = place.1 in
      let count = giver.count in
      let short : place.0 < length gs = omega arith in
      subst (λ (x : List ℕ). row_passes from (row_of ts gs) (row_of ts cs) x ≡ true) place.2 (go place.0 short (row_passes from (row_of ts gs) (row_of ts cs) (slice_index_or ts place.0 [])) refl asks (bar_at place.0 place.1)))
    where
      go : (k : ℕ) → k < length gs → (b : Bool) → row_passes from (row_of ts gs) (row_of ts cs) (slice_index_or ts k []) ≡ b → contains to.i (slice_index_or ts k []) ≡ true →
          is_bar (cell_at gs k) (cell_at cs k) ≡ (contains to.i (slice_index_or ts k []) && not (row_passes from (row_of ts gs) (row_of ts cs) (slice_index_or ts k []))) → b ≡ true
      go k lt true e asks bar = refl
      go k lt false e asks bar =
          let is : is_bar (cell_at gs k) (cell_at cs k) ≡ true = bar ∙ ap (λ (x : Bool). x && not (row_passes from (row_of ts gs) (row_of ts cs) (slice_index_or ts k []))) asks ∙ ap not e in
          sym (bar_found gs cs k same_many lt is) ∙ none

  passes_no_bar : row_reaches from (row_of ts gs) to (row_of ts cs) ≡ true → no_bar gs cs ≡ true
  passes_no_bar reach = no_bar_from gs cs same_many (λ k lt.
      let count = giver.count in
      let short : k < length ts = omega arith in
      bar_at k short ∙ go (slice_index_or ts k []) (contains to.i (slice_index_or ts k [])) refl)
    where
      go : (t : List ℕ) (b : Bool) → contains to.i t ≡ b → (b && not (row_passes from (row_of ts gs) (row_of ts cs) t)) ≡ false
      go t false e = refl
      go t true e = ap not (all_contained (row_passes from (row_of ts gs) (row_of ts cs)) to.i t reach e)

  pub reaches_exactly : no_bar gs cs ≡ row_reaches from (row_of ts gs) to (row_of ts cs)
  reaches_exactly = same_test (no_bar gs cs) (row_reaches from (row_of ts gs) to (row_of ts cs)) no_bar_passes passes_no_bar

pub read_at : (cs : List Cell) (k : ℕ) (c : Cell) → k < length cs → c ≡ slice_index_or cs k c → c ≡ cell_at cs k
read_at cs k c lt e = e ∙ go cs k lt
  where
    go : (xs : List Cell) (n : ℕ) → n < length xs → slice_index_or xs n c ≡ slice_index_or xs n blank
    go [] n lt = absurd (let z : ⊥ = omega arith in z)
    go (x ∷ xs) zero lt = refl
    go (x ∷ xs) (suc n) lt = go xs n (let z : n < length xs = omega arith in z)
