-- Rows grow by what is passed on, and the work that is left gets less.
use Rattle.df_lint.proofs.Names.{inl, inr, ◌≡◌, ◌≢◌, ◌⊎◌, ℕ, zero, suc, ◌+◌, ◌<◌, ◌≤◌, List, [], ◌∷◌, ◌++◌, Bool, true, false, ◌&&◌, ◌||◌, ◌==◌, refl, sym, ◌∙◌, ap, subst, cond, length, map, arith, slice_set, slice_index_or, Contains, list_any, flat_map, is_eq, ordering_then, Ordering, Less, Equal, Greater, and_parts, eqb-true, eqb-false, or_cases, or_left, or_right, below_more, Contains-append_left, Contains-push, Contains-push_cases, get_or-set_other, length-append, length-set, Relation, privilege_eq, right_cmp, tag_cmp, tag_eq, Privilege, Right, Plus, Minus, PlusAuth, MinusAuth, privilege_eq-Decides, tag_eq-itself, RootStart, Gains, row_reaches, IsGivenBy, Settles, row_at, AreWithin, Extends, HasRows, IsSeen, IsSeenBy, IsSettled, PassesOn, lacks, missing, work, needed_to_attach}
use Rattle.df_label.specs.Privileges.{contains as contains_privilege}
use Rattle.df_lint.proofs.Steps.{or_assoc}
use Rattle.df_unit.specs.Held.{all_over}

-- all privileges over the tags of some rows

any_append : {X : Type 0} (p : X → Bool) (xs ys : List X) → list_any p (xs ++ ys) ≡ (list_any p xs || list_any p ys)
any_append p [] ys = refl
any_append p (x ∷ xs) ys = ap (λ (b : Bool). p x || b) (any_append p xs ys) ∙ sym (or_assoc (p x) (list_any p xs) (list_any p ys))

one_tag : (o : Ordering) (r : Right) → (is_eq (ordering_then o (right_cmp Plus r)) || (is_eq (ordering_then o (right_cmp Minus r)) || (is_eq (ordering_then o (right_cmp PlusAuth r)) || (is_eq (ordering_then o (right_cmp MinusAuth r)) || false)))) ≡ is_eq o
one_tag Less r = refl
one_tag Greater r = refl
one_tag Equal Plus = refl
one_tag Equal Minus = refl
one_tag Equal PlusAuth = refl
one_tag Equal MinusAuth = refl

over : List (List ℕ) → List Privilege
over ts = flat_map all_over ts

contains-over : (ts : List (List ℕ)) (p : Privilege) → contains_privilege (over ts) p ≡ list_any (λ t. tag_eq t p.tag) ts
unfolding over
contains-over [] p = refl
contains-over (t ∷ ts) p =
    any_append (λ q. privilege_eq q p) (all_over t) (flat_map all_over ts)
    ∙ ap (λ (b : Bool). b || contains_privilege (flat_map all_over ts) p) (one_tag (tag_cmp t p.tag) p.right)
    ∙ ap (λ (b : Bool). tag_eq t p.tag || b) (contains-over ts p)

tags_in : List Privilege → List (List ℕ)
tags_in row = map (λ p. p.tag) row

tag_in : (row : List Privilege) (p : Privilege) → contains_privilege row p ≡ true → list_any (λ t. tag_eq t p.tag) (tags_in row) ≡ true
unfolding tags_in
tag_in [] p m = absurd (let z : ⊥ = cc in z)
tag_in (q ∷ row) p m = elim (or_cases (privilege_eq q p) (contains_privilege row p) m) [
  | inl e ↦ or_left (tag_eq q.tag p.tag) (list_any (λ t. tag_eq t p.tag) (map (λ p. p.tag) row)) (subst (λ (x : Privilege). tag_eq q.tag x.tag ≡ true) ((privilege_eq-Decides q p).0 e) (tag_eq-itself q.tag))
  | inr k ↦ or_right (tag_eq q.tag p.tag) (list_any (λ t. tag_eq t p.tag) (map (λ p. p.tag) row)) (tag_in row p k)
]

pub all_over_rows : List (List Privilege) → List Privilege
all_over_rows rows = over (flat_map tags_in rows)

tag_in_rows : (rows : List (List Privilege)) (k : ℕ) (p : Privilege) → contains_privilege (row_at rows k) p ≡ true → list_any (λ t. tag_eq t p.tag) (flat_map tags_in rows) ≡ true
tag_in_rows [] k p m = absurd (let z : ⊥ = cc in z)
tag_in_rows (row ∷ rows) zero p m = any_append (λ t. tag_eq t p.tag) (tags_in row) (flat_map tags_in rows) ∙ or_left (list_any (λ t. tag_eq t p.tag) (tags_in row)) (list_any (λ t. tag_eq t p.tag) (flat_map tags_in rows)) (tag_in row p m)
tag_in_rows (row ∷ rows) (suc k) p m = any_append (λ t. tag_eq t p.tag) (tags_in row) (flat_map tags_in rows) ∙ or_right (list_any (λ t. tag_eq t p.tag) (tags_in row)) (list_any (λ t. tag_eq t p.tag) (flat_map tags_in rows)) (tag_in_rows rows k p m)

pub rows_within : (rows : List (List Privilege)) → AreWithin (all_over_rows rows) rows
unfolding all_over_rows
rows_within rows = record {
  rows_are = λ k p m. contains-over (flat_map tags_in rows) p ∙ tag_in_rows rows k p m;
  attached = λ p m. contains-over (flat_map tags_in rows) p ∙ sym (contains-over (flat_map tags_in rows) (needed_to_attach p)) ∙ m;
}

-- how many are missing

lacks_no_more : (all old new : List Privilege) → ((p : Privilege) → contains_privilege old p ≡ true → contains_privilege new p ≡ true) → lacks all new ≤ lacks all old
lacks_no_more [] old new f = omega arith
lacks_no_more (q ∷ qs) old new f = go (contains_privilege old q) refl (contains_privilege new q) refl (lacks_no_more qs old new f)
  where
    go : (b : Bool) → contains_privilege old q ≡ b → (d : Bool) → contains_privilege new q ≡ d → lacks qs new ≤ lacks qs old → cond d (lacks qs new) (suc (lacks qs new)) ≤ cond b (lacks qs old) (suc (lacks qs old))
    go true e true k rest = rest
    go true e false k rest = let z : true ≡ false = sym (f q e) ∙ k in absurd (let y : ⊥ = cc in y)
    go false e true k rest = omega arith
    go false e false k rest = omega arith

lacks_less : (all old new : List Privilege) (g : Privilege) → ((p : Privilege) → contains_privilege old p ≡ true → contains_privilege new p ≡ true) → contains_privilege old g ≡ false → contains_privilege new g ≡ true → contains_privilege all g ≡ true → lacks all new + 1 ≤ lacks all old
lacks_less [] old new g f lack got m = absurd (let z : ⊥ = cc in z)
lacks_less (q ∷ qs) old new g f lack got m = elim (or_cases (privilege_eq q g) (contains_privilege qs g) m) [
  | inl e ↦ here ((privilege_eq-Decides q g).0 e) (lacks_no_more qs old new f)
  | inr k ↦ there (contains_privilege old q) refl (contains_privilege new q) refl (lacks_less qs old new g f lack got k)
]
  where
    here : q ≡ g → lacks qs new ≤ lacks qs old → lacks (q ∷ qs) new + 1 ≤ lacks (q ∷ qs) old
    here e rest =
        let o : contains_privilege old q ≡ false = ap (contains_privilege old) e ∙ lack in
        let n : contains_privilege new q ≡ true = ap (contains_privilege new) e ∙ got in
        let a : lacks (q ∷ qs) new ≡ lacks qs new = ap (λ (b : Bool). cond b (lacks qs new) (suc (lacks qs new))) n in
        let b : lacks (q ∷ qs) old ≡ suc (lacks qs old) = ap (λ (b : Bool). cond b (lacks qs old) (suc (lacks qs old))) o in
        omega arith

    there : (b : Bool) → contains_privilege old q ≡ b → (d : Bool) → contains_privilege new q ≡ d → lacks qs new + 1 ≤ lacks qs old → cond d (lacks qs new) (suc (lacks qs new)) + 1 ≤ cond b (lacks qs old) (suc (lacks qs old))
    there true e true k rest = rest
    there true e false k rest = let z : true ≡ false = sym (f q e) ∙ k in absurd (let y : ⊥ = cc in y)
    there false e true k rest = omega arith
    there false e false k rest = omega arith

missing-set : (all : List Privilege) (rows : List (List Privilege)) (k : ℕ) (row : List Privilege) → k < length rows → missing all (slice_set rows k row) + lacks all (row_at rows k) ≡ missing all rows + lacks all row
missing-set all [] k row lt = absurd (let z : ⊥ = omega arith in z)
missing-set all (r ∷ rows) zero row lt = omega arith
missing-set all (r ∷ rows) (suc k) row lt = let rest = missing-set all rows k row (let short : k < length rows = omega arith in short) in omega arith

-- a step

some_root : (roots : List RootStart) (k : ℕ) → k < length roots → RootStart
some_root [] k lt = absurd (let z : ⊥ = omega arith in z)
some_root (r ∷ rs) k lt = r

module _ (roots : List RootStart) where
  pub extends_none : (rows : List (List Privilege)) (waiting : List ℕ) → Extends roots rows waiting rows waiting
  extends_none rows waiting = record {
    count = refl;
    had = λ k p m. m;
    kept = λ k m. m;
    moved = λ k. inr refl;
    in_range = λ f k m. f k m;
    least = λ g passes has. has;
    within = λ all w. w;
    work_falls = λ all w. omega arith;
  }

  pub extends_more : (a : List (List Privilege)) (x : List ℕ) (b : List (List Privilege)) (y : List ℕ) (c : List (List Privilege)) (z : List ℕ) → Extends roots a x b y → Extends roots b y c z → Extends roots a x c z
  extends_more a x b y c z e f = record {
    count = f.count ∙ e.count;
    had = λ k p m. f.had k p (e.had k p m);
    kept = λ k m. f.kept k (e.kept k m);
    moved = λ k. moved k (f.moved k) (e.moved k);
    in_range = λ g k m. f.in_range (e.in_range g) k m;
    least = λ g passes has. f.least g passes (e.least g passes has);
    within = λ all w. f.within all (e.within all w);
    work_falls = λ all w. let one = e.work_falls all w in let two = f.work_falls all (e.within all w) in omega arith;
  }
    where
      moved : (k : ℕ) → Contains z k ⊎ (row_at c k ≡ row_at b k) → Contains y k ⊎ (row_at b k ≡ row_at a k) → Contains z k ⊎ (row_at c k ≡ row_at a k)
      moved k (inl m) h = inl m
      moved k (inr s) (inl m) = inl (f.kept k m)
      moved k (inr s) (inr t) = inr (s ∙ t)

  -- what is seen stays so
  pub carry : (a : List (List Privilege)) (x : List ℕ) (b : List (List Privilege)) (y : List ℕ) (j k : ℕ) → Extends roots a x b y → IsSeen roots a x j k → IsSeen roots b y j k
  carry a x b y j k e (inl m) = inl (e.kept j m)
  carry a x b y j k e (inr (inl m)) = inr (inl (e.kept k m))
  carry a x b y j k e (inr (inr s)) = by (e.moved j) (e.moved k)
    where
      by : Contains y j ⊎ (row_at b j ≡ row_at a j) → Contains y k ⊎ (row_at b k ≡ row_at a k) → IsSeen roots b y j k
      by (inl m) h = inl m
      by (inr t) (inl m) = inr (inl m)
      by (inr t) (inr u) = inr (inr (λ r q p reach has.
          subst (λ (row : List Privilege). contains_privilege row p ≡ true) (sym u) (s r q p
          (subst (λ (row : List Privilege). row_reaches (slice_index_or roots j r).label (row_at a j) (slice_index_or roots k q).label row ≡ true) u
          (subst (λ (row : List Privilege). row_reaches (slice_index_or roots j r).label row (slice_index_or roots k q).label (row_at b k) ≡ true) t reach))
          (subst (λ (row : List Privilege). contains_privilege row (needed_to_attach p) ≡ true) t has))))

  module _ (from to : ℕ) (rows : List (List Privilege)) (waiting : List ℕ) (rows' : List (List Privilege)) (waiting' : List ℕ) (from_lt : from < length roots) (to_lt : to < length roots) (many : length rows ≡ length roots) (step : Settles roots from to rows waiting rows' waiting') where
    at_to : (p : Privilege) → contains_privilege (row_at rows to) p ≡ true → contains_privilege (row_at rows' to) p ≡ true
    at_to p m = step.given (some_root roots from from_lt) (some_root roots from from_lt) p ∙ or_left (contains_privilege (row_at rows to) p) _ m

    elsewhere : (k : ℕ) → k ≢ to → row_at rows' k ≡ row_at rows k
    elsewhere k other = ap (λ (rs : List (List Privilege)). row_at rs k) step.row ∙ get_or-set_other rows to k (row_at rows' to) [] other

    by_row : (P : ℕ → Type 0) (k : ℕ) → P to → (k ≢ to → P k) → P k
    by_row P k here there = go (k == to) refl
      where
        go : (b : Bool) → (k == to) ≡ b → P k
        go true e = subst P (sym (eqb-true k to e)) here
        go false e = there (eqb-false k to e)

    what_came : (p : Privilege) → contains_privilege (row_at rows' to) p ≡ true → (contains_privilege (row_at rows to) p ≡ true)
        ⊎ ((row_reaches (slice_index_or roots from (some_root roots from from_lt)).label (row_at rows from) (slice_index_or roots to (some_root roots from from_lt)).label (row_at rows to) ≡ true) × (contains_privilege (row_at rows from) (needed_to_attach p) ≡ true))
    what_came p m =
        let r = some_root roots from from_lt in
        elim (or_cases (contains_privilege (row_at rows to) p) _ (sym (step.given r r p) ∙ m)) [
          | inl old ↦ inl old
          | inr new ↦ inr (and_parts (row_reaches (slice_index_or roots from r).label (row_at rows from) (slice_index_or roots to r).label (row_at rows to)) (contains_privilege (row_at rows from) (needed_to_attach p)) new)
        ]

    pub settle_extends : Extends roots rows waiting rows' waiting'
    settle_extends = record {
      count = ap length step.row ∙ length-set rows to (row_at rows' to);
      had = had;
      kept = step.kept;
      moved = λ k. by_row (λ k. Contains waiting' k ⊎ (row_at rows' k ≡ row_at rows k)) k (noted step.noted) (λ other. inr (elsewhere k other));
      in_range = step.in_range;
      least = least;
      within = within;
      work_falls = work_falls;
    }
      where
        had : (k : ℕ) (p : Privilege) → contains_privilege (row_at rows k) p ≡ true → contains_privilege (row_at rows' k) p ≡ true
        had k p = by_row (λ k. contains_privilege (row_at rows k) p ≡ true → contains_privilege (row_at rows' k) p ≡ true) k (at_to p) (λ other m. subst (λ (row : List Privilege). contains_privilege row p ≡ true) (sym (elsewhere k other)) m)

        noted : Contains waiting' to ⊎ (rows' ≡ rows) → Contains waiting' to ⊎ (row_at rows' to ≡ row_at rows to)
        noted (inl m) = inl m
        noted (inr e) = inr (ap (λ (rs : List (List Privilege)). row_at rs to) e)

        least : (g : Relation) → PassesOn roots g → HasRows g rows → HasRows g rows'
        least g passes has k p = by_row (λ k. contains_privilege (row_at rows' k) p ≡ true → g k p ≡ true) k
            (λ m. elim (what_came p m) [
              | inl old ↦ has to p old
              | inr new ↦ passes rows from to (some_root roots from from_lt) (some_root roots from from_lt) p has from_lt to_lt new.0 new.1
            ])
            (λ other m. has k p (subst (λ (row : List Privilege). contains_privilege row p ≡ true) (elsewhere k other) m))

        within : (all : List Privilege) → AreWithin all rows → AreWithin all rows'
        within all w = record {
          rows_are = λ k p. by_row (λ k. contains_privilege (row_at rows' k) p ≡ true → contains_privilege all p ≡ true) k
              (λ m. elim (what_came p m) [
                | inl old ↦ w.rows_are to p old
                | inr new ↦ w.attached p (w.rows_are from (needed_to_attach p) new.1)
              ])
              (λ other m. w.rows_are k p (subst (λ (row : List Privilege). contains_privilege row p ≡ true) (elsewhere k other) m));
          attached = w.attached;
        }

        work_falls : (all : List Privilege) → AreWithin all rows → work all rows' waiting' ≤ work all rows waiting
        work_falls all w = go step.few
          where
            short : to < length rows
            short = omega arith

            sums : missing all rows' + lacks all (row_at rows to) ≡ missing all rows + lacks all (row_at rows' to)
            sums = ap (λ (rs : List (List Privilege)). missing all rs + lacks all (row_at rows to)) step.row ∙ missing-set all rows to (row_at rows' to) short

            came : (p : Privilege) → contains_privilege (row_at rows' to) p ≡ true → contains_privilege all p ≡ true
            came p m = elim (what_came p m) [
              | inl old ↦ w.rows_are to p old
              | inr new ↦ w.attached p (w.rows_are from (needed_to_attach p) new.1)
            ]

            go : (waiting' ≡ waiting) ⊎ ((length waiting' ≡ length waiting + 1) × Gains (row_at rows to) (row_at rows' to)) → work all rows' waiting' ≤ work all rows waiting
            go (inl same) =
                let less = lacks_no_more all (row_at rows to) (row_at rows' to) at_to in
                let long : length waiting' ≡ length waiting = ap length same in
                omega (arith, sums)
            go (inr more) =
                let g = more.1 in
                let less = lacks_less all (row_at rows to) (row_at rows' to) g.0 at_to g.1 g.2 (came g.0 g.2) in
                let long = more.0 in
                omega (arith, sums)

    pub settle_seen : IsSeen roots rows' waiting' from to
    settle_seen = go step.noted
      where
        settled : IsGivenBy roots from to rows (row_at rows to) → IsSettled roots rows from to
        settled given a b p reach has = given a b p ∙ ap (λ (x : Bool). contains_privilege (row_at rows to) p || x) (ap (λ (x : Bool). x && contains_privilege (row_at rows from) (needed_to_attach p)) reach ∙ has) ∙ or_right (contains_privilege (row_at rows to) p) true refl

        go : Contains waiting' to ⊎ (rows' ≡ rows) → IsSeen roots rows' waiting' from to
        go (inl m) = inr (inl m)
        go (inr e) = inr (inr (subst (λ (rs : List (List Privilege)). IsSettled roots rs from to) (sym e) (settled (subst (λ (rs : List (List Privilege)). IsGivenBy roots from to rows (row_at rs to)) e step.given))))

  -- one more other root
  pub seen_more : (root n : ℕ) (rows : List (List Privilege)) (waiting : List ℕ) (rows1 : List (List Privilege)) (waiting1 : List ℕ) (rows2 : List (List Privilege)) (waiting2 : List ℕ) → root < length roots → n < length roots → length rows ≡ length roots →
      Settles roots root n rows waiting rows1 waiting1 → Settles roots n root rows1 waiting1 rows2 waiting2 → IsSeenBy roots rows waiting root n → Extends roots rows waiting rows2 waiting2 × IsSeenBy roots rows2 waiting2 root (n + 1)
  seen_more root n rows waiting rows1 waiting1 rows2 waiting2 root_lt n_lt many there back seen =
      let one = settle_extends root n rows waiting rows1 waiting1 root_lt n_lt many there in
      let two = settle_extends n root rows1 waiting1 rows2 waiting2 n_lt root_lt (one.count ∙ many) back in
      let both = extends_more rows waiting rows1 waiting1 rows2 waiting2 one two in (
        both,
        below_more (λ m. IsSeen roots rows2 waiting2 root m × IsSeen roots rows2 waiting2 m root) n
            (λ m lt. (carry rows waiting rows2 waiting2 root m both (seen m lt).0, carry rows waiting rows2 waiting2 m root both (seen m lt).1))
            (carry rows1 waiting1 rows2 waiting2 root n two (settle_seen root n rows waiting rows1 waiting1 root_lt n_lt many there), settle_seen n root rows1 waiting1 rows2 waiting2 n_lt root_lt (one.count ∙ many) back),
      )

  -- once a root that waited was settled with all
  pub seen_popped : (root : ℕ) (rows : List (List Privilege)) (left : List ℕ) (rows' : List (List Privilege)) (waiting' : List ℕ) → Extends roots rows left rows' waiting' → IsSeenBy roots rows' waiting' root (length roots) →
      (j k : ℕ) → j < length roots → k < length roots → IsSeen roots rows (left ++ root ∷ []) j k → IsSeen roots rows' waiting' j k
  seen_popped root rows left rows' waiting' e seen j k j_lt k_lt (inl m) = elim (Contains-push_cases left root j m) [
    | inl old ↦ inl (e.kept j old)
    | inr same ↦ subst (λ (x : ℕ). IsSeen roots rows' waiting' x k) same (seen k k_lt).0
  ]
  seen_popped root rows left rows' waiting' e seen j k j_lt k_lt (inr (inl m)) = elim (Contains-push_cases left root k m) [
    | inl old ↦ inr (inl (e.kept k old))
    | inr same ↦ subst (λ (x : ℕ). IsSeen roots rows' waiting' j x) same (seen j j_lt).1
  ]
  seen_popped root rows left rows' waiting' e seen j k j_lt k_lt (inr (inr s)) = carry rows left rows' waiting' j k e (inr (inr s))

  pub settled_at_end : (rows : List (List Privilege)) (j k : ℕ) → IsSeen roots rows [] j k → IsSettled roots rows j k
  settled_at_end rows j k (inl m) = let lt : m.0 < 0 = m.1 in absurd (let z : ⊥ = omega arith in z)
  settled_at_end rows j k (inr (inl m)) = let lt : m.0 < 0 = m.1 in absurd (let z : ⊥ = omega arith in z)
  settled_at_end rows j k (inr (inr s)) = s

pub places_only : (xs : List ℕ) (n : ℕ) → ((k : ℕ) → Contains xs k → k < n) → (k : ℕ) → Contains (xs ++ n ∷ []) k → k < n + 1
places_only xs n f k m = elim (Contains-push_cases xs n k m) [
  | inl old ↦ (let lt : k < n = f k old in let z : k < n + 1 = omega arith in z)
  | inr e ↦ (let z : k < n + 1 = omega arith in z)
]

pub nothing_left : (xs : List ℕ) → length xs ≡ 0 → xs ≡ []
nothing_left [] e = refl
nothing_left (x ∷ xs) e = absurd (let z : ⊥ = omega arith in z)

pub settle_push : (roots : List RootStart) (from to : ℕ) (rows rows' : List (List Privilege)) (waiting waiting' : List ℕ) → to < length roots → rows' ≡ slice_set rows to (row_at rows' to) → IsGivenBy roots from to rows (row_at rows' to) → Gains (row_at rows to) (row_at rows' to) → waiting' ≡ waiting ++ to ∷ [] →
    Settles roots from to rows waiting rows' waiting'
settle_push roots from to rows rows' waiting waiting' to_lt row given gains e = record {
  row = row;
  given = given;
  kept = λ k m. subst (λ (xs : List ℕ). Contains xs k) (sym e) (Contains-append_left waiting (to ∷ []) k m);
  noted = inl (subst (λ (xs : List ℕ). Contains xs to) (sym e) (Contains-push waiting to));
  in_range = λ f k m. elim (Contains-push_cases waiting to k (subst (λ (xs : List ℕ). Contains xs k) e m)) [
    | inl old ↦ f k old
    | inr same ↦ subst (λ (x : ℕ). x < length roots) same to_lt
  ];
  few = inr (ap length e ∙ length-append waiting (to ∷ []), gains);
}
