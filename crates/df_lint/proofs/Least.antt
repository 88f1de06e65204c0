-- What the rows have in the end is the least relation that keeps the rules.
use Rattle.df_lint.proofs.Names.{inl, inr, ◌≡◌, ◌⊎◌, ℕ, zero, suc, ◌<◌, List, [], ◌∷◌, Bool, true, false, not, ◌&&◌, ◌||◌, refl, sym, ◌∙◌, ap, subst, cond, length, map, Some, arith, slice_get, slice_index_or, filter, list_all, list_any, and_from, and_parts, or_cases, or_left, or_right, begins_with, names, IsClosed, IsLeast, MayHold, Relation, can_write, maker_of, tag_cmp, tag_eq, contains, Label, Privilege, tag_eq-itself, privilege_eq, privilege_eq-Decides, Roots, begun, RootStart, AreTagsOf, row_can_write, row_passes, row_reaches, IsRow, cell_at, cells_at, has, row_of, first_cell, first_cells, first_has, IsFirstRow, IsTable, found, row_at, rows_of, Cell, IsAscending, Right, Plus, Minus, PlusAuth, MinusAuth, length-map, HasRows, IsSpread, PassesOn, needed, needed_to_attach, Add, Del}
use Rattle.df_family.proofs.Bound.{reached, root_named}
use Rattle.df_label.specs.Privileges.{contains as contains_privilege}
use Rattle.df_lint.proofs.CellRows.{row_at_of}
use Rattle.df_lint.proofs.Cells.{all_contained, contains_at, contains_away, or_false, place_of_tag}
use Rattle.df_lint.proofs.Steps.{or_comm}

all_or : {X : Type 0} (q p : X → Bool) (xs : List X) → list_all p (filter (λ x. not (q x)) xs) ≡ true → list_all (λ x. q x || p x) xs ≡ true
all_or q p [] h = refl
all_or {X} q p (x ∷ xs) h = go (q x) refl h (all_or q p xs)
  where
    go : (b : Bool) → q x ≡ b → list_all p (cond (not b) (x ∷ filter (λ x. not (q x)) xs) (filter (λ x. not (q x)) xs)) ≡ true → (list_all p (filter (λ x. not (q x)) xs) ≡ true → list_all (λ x. q x || p x) xs ≡ true) → ((q x || p x) && list_all (λ x. q x || p x) xs) ≡ true
    go true e k rest = and_from (q x || p x) (list_all (λ x. q x || p x) xs) (or_left (q x) (p x) e) (rest k)
    go false e k rest = let both = and_parts (p x) (list_all p (filter (λ x. not (q x)) xs)) k in and_from (q x || p x) (list_all (λ x. q x || p x) xs) (or_right (q x) (p x) both.0) (rest both.1)

-- a root of the start
root_there : (roots : List RootStart) (k : ℕ) (root : Label × List Privilege) → slice_get (map begun roots) k ≡ Some root → (k < length roots) × ((d : RootStart) → begun (slice_index_or roots k d) ≡ root)
root_there [] k root e = absurd (let z : ⊥ = cc in z)
root_there (r ∷ rs) zero root e = ((let z : 0 < length (r ∷ rs) = omega arith in z), λ d. (let z : begun r ≡ root = cc in z))
root_there (r ∷ rs) (suc k) root e = let rest = root_there rs k root e in ((let lt = rest.0 in let z : suc k < length (r ∷ rs) = omega arith in z), rest.1)

there_root : (roots : List RootStart) (k : ℕ) (d : RootStart) → k < length roots → slice_get (map begun roots) k ≡ Some (begun (slice_index_or roots k d))
there_root [] k d lt = absurd (let z : ⊥ = omega arith in z)
there_root (r ∷ rs) zero d lt = refl
there_root (r ∷ rs) (suc k) d lt = there_root rs k d (let z : k < length rs = omega arith in z)

in_row : (rows : List (List Privilege)) (k : ℕ) (p : Privilege) → contains_privilege (row_at rows k) p ≡ true → k < length rows
in_row [] k p m = absurd (let z : ⊥ = cc in z)
in_row (r ∷ rows) zero p m = omega arith
in_row (r ∷ rows) (suc k) p m = let lt = in_row rows k p m in omega arith

some_root : (roots : List RootStart) (k : ℕ) → k < length roots → RootStart
some_root [] k lt = absurd (let z : ⊥ = omega arith in z)
some_root (r ∷ rs) k lt = r

given_in : (ps : List Privilege) (p : Privilege) → contains_privilege ps p ≡ true → list_any (λ q. tag_eq q.tag p.tag) ps ≡ true
given_in [] p m = absurd (let z : ⊥ = cc in z)
given_in (q ∷ ps) p m = elim (or_cases (privilege_eq q p) (contains_privilege ps p) m) [
  | inl e ↦ or_left (tag_eq q.tag p.tag) (list_any (λ q. tag_eq q.tag p.tag) ps) (subst (λ (x : Privilege). tag_eq q.tag x.tag ≡ true) ((privilege_eq-Decides q p).0 e) (tag_eq-itself q.tag))
  | inr k ↦ or_right (tag_eq q.tag p.tag) (list_any (λ q. tag_eq q.tag p.tag) ps) (given_in ps p k)
]

given_named : (start : Roots) (k : ℕ) (root : Label × List Privilege) (p : Privilege) → slice_get start k ≡ Some root → contains_privilege root.1 p ≡ true → names start p.tag ≡ true
given_named start k root p e m = root_named start k root p.tag e (or_right (contains root.0.s p.tag) (contains root.0.i p.tag || list_any (λ q. tag_eq q.tag p.tag) root.1) (or_right (contains root.0.i p.tag) (list_any (λ q. tag_eq q.tag p.tag) root.1) (given_in root.1 p m)))

module _ (roots : List RootStart) (tags : List (List ℕ)) (first rows : List (List Privilege)) (tags_are : AreTagsOf (map begun roots) tags) (many : length first ≡ length roots)
    (firsts : (k : ℕ) (d : RootStart) → k < length roots → IsFirstRow tags k (slice_index_or roots k d).privileges (row_at first k)) (spread : IsSpread roots first rows) where
  closed : IsClosed (map begun roots) (found rows)
  closed = record {
    given = λ k root p e m. let at = root_there roots k root e in let d = some_root roots k at.0 in
        spread.had k p (firsts k d at.0 p ∙ or_left (contains_privilege (slice_index_or roots k d).privileges p) (contains tags p.tag && begins_with k (maker_of p.tag)) (subst (λ (r : Label × List Privilege). contains_privilege r.1 p ≡ true) (sym (at.1 d)) m));
    made = λ k root p e named mine. let at = root_there roots k root e in let d = some_root roots k at.0 in
        spread.had k p (firsts k d at.0 p ∙ or_right (contains_privilege (slice_index_or roots k d).privileges p) (contains tags p.tag && begins_with k (maker_of p.tag)) (and_from (contains tags p.tag) (begins_with k (maker_of p.tag)) (tags_are p.tag ∙ named) mine));
    passed = λ j k from to p e f named has reach.
        let at = root_there roots j from e in
        let bt = root_there roots k to f in
        let a = some_root roots j at.0 in
        let b = some_root roots k bt.0 in
        let direct : row_reaches from.0 (row_at rows j) to.0 (row_at rows k) ≡ true = all_or (λ t. contains_privilege (row_at rows k) (needed Del t)) (can_write (found rows) j from.0) to.0.i reach in
        spread.settled j k at.0 bt.0 a b p
        (subst (λ (r : Label × List Privilege). row_reaches (slice_index_or roots j a).label (row_at rows j) r.0 (row_at rows k) ≡ true) (sym (bt.1 b))
        (subst (λ (r : Label × List Privilege). row_reaches r.0 (row_at rows j) to.0 (row_at rows k) ≡ true) (sym (at.1 a)) direct)) has;
  }

  module _ (g : Relation) (keeps : IsClosed (map begun roots) g) where
    within : Relation
    within k p = g k p && names (map begun roots) p.tag

    from_first : HasRows within first
    unfolding within
    from_first k p m =
        let lt : k < length roots = (let l = in_row first k p m in omega arith) in
        let d = some_root roots k lt in
        let root = there_root roots k d lt in
        elim (or_cases (contains_privilege (slice_index_or roots k d).privileges p) (contains tags p.tag && begins_with k (maker_of p.tag)) (sym (firsts k d lt p) ∙ m)) [
          | inl given ↦ and_from (g k p) (names (map begun roots) p.tag) (keeps.given k (begun (slice_index_or roots k d)) p root given) (given_named (map begun roots) k (begun (slice_index_or roots k d)) p root given)
          | inr made ↦ (let both = and_parts (contains tags p.tag) (begins_with k (maker_of p.tag)) made in let named = sym (tags_are p.tag) ∙ both.0 in and_from (g k p) (names (map begun roots) p.tag) (keeps.made k (begun (slice_index_or roots k d)) p root named both.1) named)
        ]

    passes : PassesOn roots within
    unfolding within
    passes held j k a b p has j_lt k_lt reach giver =
        let q = and_parts (g j (needed_to_attach p)) (names (map begun roots) p.tag) (has j (needed_to_attach p) giver) in
        let from = begun (slice_index_or roots j a) in
        let to = begun (slice_index_or roots k b) in
        and_from (g k p) (names (map begun roots) p.tag)
        (keeps.passed j k from to p (there_root roots j a j_lt) (there_root roots k b k_lt) q.1 q.0 (reached g j from.0 k to.0 (λ t m. one t (all_contained (row_passes from.0 (row_at held j) (row_at held k)) to.0.i t reach m))))
        q.1
      where
        one : (t : List ℕ) → row_passes (begun (slice_index_or roots j a)).0 (row_at held j) (row_at held k) t ≡ true → (can_write g j (begun (slice_index_or roots j a)).0 t ≡ true) ⊎ (g k (needed Del t) ≡ true)
        one t m = elim (or_cases (contains_privilege (row_at held k) (needed Del t)) (row_can_write (begun (slice_index_or roots j a)).0 (row_at held j) t) m) [
          | inl taker ↦ inr (and_parts (g k (needed Del t)) (names (map begun roots) t) (has k (needed Del t) taker)).0
          | inr writes ↦ elim (or_cases (contains (slice_index_or roots j a).label.i t) (contains_privilege (row_at held j) (needed Add t)) writes) [
            | inl in_label ↦ inl (or_left (contains (slice_index_or roots j a).label.i t) (g j (needed Add t)) in_label)
            | inr added ↦ inl (or_right (contains (slice_index_or roots j a).label.i t) (g j (needed Add t)) (and_parts (g j (needed Add t)) (names (map begun roots) t) (has j (needed Add t) added)).0)
          ]
        ]

    below : HasRows g rows
    unfolding within
    below k p m = (and_parts (g k p) (names (map begun roots) p.tag) (spread.least within passes from_first k p m)).0

  pub rows_are_least : IsLeast (map begun roots) (found rows)
  rows_are_least = record { closed = closed; least = λ g keeps k p m. below g keeps k p m }

-- the first rows

mapped_at : (f : List ℕ → Cell) (ts : List (List ℕ)) (i : ℕ) (d : List ℕ) → i < length ts → cell_at (map f ts) i ≡ f (slice_index_or ts i d)
mapped_at f [] i d lt = absurd (let z : ⊥ = omega arith in z)
mapped_at f (t ∷ ts) zero d lt = refl
mapped_at f (t ∷ ts) (suc i) d lt = mapped_at f ts i d (let z : i < length ts = omega arith in z)

has_first : (k : ℕ) (root : RootStart) (t : List ℕ) (r : Right) → has (first_cell k root t) r ≡ first_has k root t r
has_first k root t Plus = refl
has_first k root t Minus = refl
has_first k root t PlusAuth = refl
has_first k root t MinusAuth = refl

first_is : (tags : List (List ℕ)) (k : ℕ) (root : RootStart) → IsAscending tag_cmp tags → ((p : Privilege) → contains_privilege root.privileges p ≡ true → contains tags p.tag ≡ true) → IsFirstRow tags k root.privileges (row_of tags (first_cells tags k root))
first_is tags k root s named p = go (contains tags p.tag) refl
  where
    given_none : (b : Bool) → contains_privilege root.privileges p ≡ b → contains tags p.tag ≡ false → b ≡ false
    given_none false e away = refl
    given_none true e away = let z : true ≡ false = sym (named p e) ∙ away in z

    here : contains tags p.tag ≡ true → contains_privilege (row_of tags (first_cells tags k root)) p ≡ (begins_with k (maker_of p.tag) || contains_privilege root.privileges p)
    here e =
        let place = place_of_tag tags p.tag e in
        let at : contains_privilege (row_of tags (first_cells tags k root)) (record { tag = slice_index_or tags place.0 []; right = p.right }) ≡ first_has k root (slice_index_or tags place.0 []) p.right =
        contains_at tags s (first_cells tags k root) place.0 p.right [] (length-map tags (first_cell k root)) place.1
        ∙ ap (λ (c : Cell). has c p.right) (mapped_at (first_cell k root) tags place.0 [] place.1) ∙ has_first k root (slice_index_or tags place.0 []) p.right in
        subst (λ (t : List ℕ). contains_privilege (row_of tags (first_cells tags k root)) (record { tag = t; right = p.right }) ≡ first_has k root t p.right) place.2 at

    go : (b : Bool) → contains tags p.tag ≡ b → contains_privilege (row_of tags (first_cells tags k root)) p ≡ (contains_privilege root.privileges p || (contains tags p.tag && begins_with k (maker_of p.tag)))
    go false e =
        contains_away tags (first_cells tags k root) p e ∙ sym (given_none (contains_privilege root.privileges p) refl e) ∙ sym (or_false (contains_privilege root.privileges p))
        ∙ ap (λ (x : Bool). contains_privilege root.privileges p || (x && begins_with k (maker_of p.tag))) (sym e)
    go true e =
        here e ∙ or_comm (begins_with k (maker_of p.tag)) (contains_privilege root.privileges p)
        ∙ ap (λ (x : Bool). contains_privilege root.privileges p || (x && begins_with k (maker_of p.tag))) (sym e)

module _ (roots : List RootStart) (tags : List (List ℕ)) (rows : List (List Cell)) (are : AreTagsOf (map begun roots) tags) (s : IsAscending tag_cmp tags) (many : length rows ≡ length roots)
    (firsts : (k : ℕ) (d : RootStart) → k < length roots → cells_at rows k ≡ first_cells tags k (slice_index_or roots k d)) where
  privilege_named : (k : ℕ) (d : RootStart) → k < length roots → (p : Privilege) → contains_privilege (slice_index_or roots k d).privileges p ≡ true → contains tags p.tag ≡ true
  privilege_named k d lt p m = are p.tag ∙ given_named (map begun roots) k (begun (slice_index_or roots k d)) p (there_root roots k d lt) m

  integrity_named : (k : ℕ) (d : RootStart) → k < length roots → (t : List ℕ) → contains (slice_index_or roots k d).label.i t ≡ true → contains tags t ≡ true
  integrity_named k d lt t m =
      let root = begun (slice_index_or roots k d) in
      are t ∙ root_named (map begun roots) k root t (there_root roots k d lt) (or_right (contains root.0.s t) (contains root.0.i t || list_any (λ q. tag_eq q.tag t) root.1) (or_left (contains root.0.i t) (list_any (λ q. tag_eq q.tag t) root.1) m))

  pub first_table : IsTable roots tags rows
  first_table = record {
    ascending = s;
    count = many;
    rows_are = λ k d lt. subst (λ (cells : List Cell). IsRow tags (slice_index_or roots k d).label.i cells) (sym (firsts k d lt)) (record {
      count = length-map tags (first_cell k (slice_index_or roots k d));
      marked = λ i e i_lt. ap (λ (c : Cell). c.asked) (mapped_at (first_cell k (slice_index_or roots k d)) tags i e i_lt);
      named = integrity_named k d lt;
    });
  }

  pub first_privileges : (k : ℕ) (d : RootStart) → k < length roots → IsFirstRow tags k (slice_index_or roots k d).privileges (row_at (rows_of tags rows) k)
  first_privileges k d lt = subst (λ (row : List Privilege). IsFirstRow tags k (slice_index_or roots k d).privileges row) (sym (row_at_of tags rows k ∙ ap (row_of tags) (firsts k d lt)))
      (first_is tags k (slice_index_or roots k d) s (privilege_named k d lt))

-- a look-up in the rows

pub looked_up : (roots : List RootStart) (tags : List (List ℕ)) (rows : List (List Cell)) (k place : ℕ) (p : Privilege) (b : Bool) → IsTable roots tags rows → k < length roots → place < length tags → slice_index_or tags place [] ≡ p.tag → b ≡ has (cell_at (cells_at rows k) place) p.right → b ≡ found (rows_of tags rows) k p
looked_up roots tags rows k place p b table lt place_lt at e =
    let row = table.rows_are k (some_root roots k lt) lt in
    e ∙ sym (contains_at tags table.ascending (cells_at rows k) place p.right [] row.count place_lt)
    ∙ ap (λ (t : List ℕ). contains_privilege (row_of tags (cells_at rows k)) (record { tag = t; right = p.right })) at
    ∙ ap (λ (r : List Privilege). contains_privilege r p) (sym (row_at_of tags rows k))

pub row_many : (roots : List RootStart) (tags : List (List ℕ)) (rows : List (List Cell)) (k : ℕ) → IsTable roots tags rows → k < length rows → length (cells_at rows k) ≡ length tags
row_many roots tags rows k table lt =
    let count = table.count in
    let short : k < length roots = omega arith in
    (table.rows_are k (some_root roots k short) short).count

pub may_holds : (start : Roots) (rows : List (List Privilege)) (k : ℕ) (p : Privilege) (b : Bool) → IsLeast start (found rows) → b ≡ found rows k p → b ≡ true → MayHold start k p
may_holds start rows k p b least e m h closed = least.least h closed k p (sym e ∙ m)

pub holds_may : (start : Roots) (rows : List (List Privilege)) (k : ℕ) (p : Privilege) (b : Bool) → IsLeast start (found rows) → b ≡ found rows k p → MayHold start k p → b ≡ true
holds_may start rows k p b least e f = e ∙ f (found rows) least.closed
