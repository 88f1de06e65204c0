-- The rows of a table as cells and as privileges.
use Rattle.df_lint.proofs.Names.{◌≡◌, ◌≢◌, ℕ, zero, suc, ◌<◌, List, [], ◌∷◌, Bool, true, false, ◌&&◌, ◌||◌, ◌==◌, refl, sym, ◌∙◌, ap, subst, length, arith, slice_set, slice_index_or, eqb-true, eqb-false, get_or-set_other, length-set, Privilege, RootStart, Grows, IsRow, cells_at, no_bar, pass_row, row_of, Gains, row_reaches, IsGivenBy, IsTable, row_at, rows_of, Cell, needed_to_attach}
use Rattle.df_label.specs.Privileges.{contains as contains_privilege}
use Rattle.df_lint.proofs.Cells.{contains_pass, grows_gains, length-pass, or_false, reaches_exactly, row-pass}

-- lists of rows

pub put_back : {X : Type 0} (xs : List (List X)) (k : ℕ) → slice_set xs k (slice_index_or xs k []) ≡ xs
put_back [] k = refl
put_back (x ∷ xs) zero = refl
put_back (x ∷ xs) (suc k) = ap (λ (rest : List (List _)). x ∷ rest) (put_back xs k)

pub put_at : {X : Type 0} (xs : List (List X)) (k : ℕ) (y : List X) → k < length xs → slice_index_or (slice_set xs k y) k [] ≡ y
put_at [] k y lt = absurd (let z : ⊥ = omega arith in z)
put_at (x ∷ xs) zero y lt = refl
put_at (x ∷ xs) (suc k) y lt = put_at xs k y (let z : k < length xs = omega arith in z)

pub put_twice : {X : Type 0} (xs : List (List X)) (k : ℕ) (a b : List X) → slice_set (slice_set xs k a) k b ≡ slice_set xs k b
put_twice [] k a b = refl
put_twice (x ∷ xs) zero a b = refl
put_twice (x ∷ xs) (suc k) a b = ap (λ (rest : List (List _)). x ∷ rest) (put_twice xs k a b)

pub read_row : (rows : List (List Cell)) (k : ℕ) (row : List Cell) → k < length rows → row ≡ slice_index_or rows k row → row ≡ cells_at rows k
read_row rows k row lt e = e ∙ go rows k lt
  where
    go : (xs : List (List Cell)) (n : ℕ) → n < length xs → slice_index_or xs n row ≡ slice_index_or xs n []
    go [] n lt = absurd (let z : ⊥ = omega arith in z)
    go (x ∷ xs) zero lt = refl
    go (x ∷ xs) (suc n) lt = go xs n (let z : n < length xs = omega arith in z)

-- what two rows give, where the taker's was taken out meanwhile
pub taken_out : (rows : List (List Cell)) (from to : ℕ) (empty slot giver taker new : List Cell) → from < length rows → to < length rows → from ≢ to → slot ≡ slice_index_or rows to slot → taker ≡ slot → giver ≡ slice_index_or (slice_set rows to empty) from giver → new ≡ pass_row giver taker →
    slice_set (slice_set rows to empty) to new ≡ slice_set rows to (pass_row (cells_at rows from) (cells_at rows to))
taken_out rows from to empty slot giver taker new from_lt to_lt other slot_is taker_is giver_is n =
    let many : length (slice_set rows to empty) ≡ length rows = length-set rows to empty in
    let short : from < length (slice_set rows to empty) = omega arith in
    let one : giver ≡ cells_at rows from = read_row (slice_set rows to empty) from giver short giver_is ∙ get_or-set_other rows to from empty [] other in
    let two : taker ≡ cells_at rows to = taker_is ∙ read_row rows to slot to_lt slot_is in
    put_twice rows to empty new ∙ ap (slice_set rows to) (n ∙ ap (λ (g : List Cell). pass_row g taker) one ∙ ap (pass_row (cells_at rows from)) two)

pub nothing_out : (rows : List (List Cell)) (to : ℕ) (empty slot taker new : List Cell) → to < length rows → slot ≡ slice_index_or rows to slot → taker ≡ slot → new ≡ taker → slice_set (slice_set rows to empty) to new ≡ rows
nothing_out rows to empty slot taker new to_lt slot_is taker_is n = put_twice rows to empty new ∙ ap (slice_set rows to) (n ∙ taker_is ∙ read_row rows to slot to_lt slot_is) ∙ put_back rows to

-- rows of privileges

row_of_none : (tags : List (List ℕ)) → row_of tags [] ≡ []
row_of_none [] = refl
row_of_none (t ∷ ts) = refl

pub row_at_of : (tags : List (List ℕ)) (rows : List (List Cell)) (k : ℕ) → row_at (rows_of tags rows) k ≡ row_of tags (cells_at rows k)
row_at_of tags [] k = sym (row_of_none tags)
row_at_of tags (r ∷ rows) zero = refl
row_at_of tags (r ∷ rows) (suc k) = row_at_of tags rows k

rows_of_set : (tags : List (List ℕ)) (rows : List (List Cell)) (k : ℕ) (r : List Cell) → rows_of tags (slice_set rows k r) ≡ slice_set (rows_of tags rows) k (row_of tags r)
rows_of_set tags [] k r = refl
rows_of_set tags (x ∷ rows) zero r = refl
rows_of_set tags (x ∷ rows) (suc k) r = ap (λ (rest : List (List Privilege)). row_of tags x ∷ rest) (rows_of_set tags rows k r)

pub length-rows_of : (tags : List (List ℕ)) (rows : List (List Cell)) → length (rows_of tags rows) ≡ length rows
length-rows_of tags [] = refl
length-rows_of tags (r ∷ rows) = ap suc (length-rows_of tags rows)

module _ (roots : List RootStart) (tags : List (List ℕ)) (rows : List (List Cell)) (from to : ℕ) (table : IsTable roots tags rows) (from_lt : from < length roots) (to_lt : to < length roots) where
  some : (k : ℕ) → (xs : List RootStart) → k < length xs → RootStart
  some k [] lt = absurd (let z : ⊥ = omega arith in z)
  some k (x ∷ xs) lt = x

  giver_many : length (cells_at rows from) ≡ length tags
  giver_many = (table.rows_are from (some from roots from_lt) from_lt).count

  taker_many : length (cells_at rows to) ≡ length tags
  taker_many = (table.rows_are to (some to roots to_lt) to_lt).count

  pub as_many : length (cells_at rows from) ≡ length (cells_at rows to)
  as_many = giver_many ∙ sym taker_many

  pub is_reached : (a b : RootStart) → no_bar (cells_at rows from) (cells_at rows to) ≡ row_reaches (slice_index_or roots from a).label (row_at (rows_of tags rows) from) (slice_index_or roots to b).label (row_at (rows_of tags rows) to)
  is_reached a b =
      reaches_exactly tags table.ascending (slice_index_or roots from a).label (slice_index_or roots to b).label (cells_at rows from) (cells_at rows to) (table.rows_are from a from_lt) (table.rows_are to b to_lt)
      ∙ ap (λ (g : List Privilege). row_reaches (slice_index_or roots from a).label g (slice_index_or roots to b).label (row_of tags (cells_at rows to))) (sym (row_at_of tags rows from))
      ∙ ap (λ (t : List Privilege). row_reaches (slice_index_or roots from a).label (row_at (rows_of tags rows) from) (slice_index_or roots to b).label t) (sym (row_at_of tags rows to))

  -- where a tag is a bar nothing is given
  pub none_given : no_bar (cells_at rows from) (cells_at rows to) ≡ false → IsGivenBy roots from to (rows_of tags rows) (row_at (rows_of tags rows) to)
  none_given bar a b p =
      let old = contains_privilege (row_at (rows_of tags rows) to) p in
      let has = contains_privilege (row_at (rows_of tags rows) from) (needed_to_attach p) in
      sym (ap (λ (x : Bool). old || (x && has)) (sym (is_reached a b) ∙ bar) ∙ or_false old)

  module _ (next : List (List Cell)) (n : next ≡ slice_set rows to (pass_row (cells_at rows from) (cells_at rows to))) where
    in_rows : to < length rows
    in_rows = let count = table.count in omega arith

    next_at : row_at (rows_of tags next) to ≡ row_of tags (pass_row (cells_at rows from) (cells_at rows to))
    next_at = row_at_of tags next to ∙ ap (row_of tags) (ap (λ (rs : List (List Cell)). cells_at rs to) n ∙ put_at rows to (pass_row (cells_at rows from) (cells_at rows to)) in_rows)

    pub row_put : rows_of tags next ≡ slice_set (rows_of tags rows) to (row_at (rows_of tags next) to)
    row_put = ap (rows_of tags) n ∙ rows_of_set tags rows to (pass_row (cells_at rows from) (cells_at rows to)) ∙ ap (slice_set (rows_of tags rows) to) (sym next_at)

    pub all_given : no_bar (cells_at rows from) (cells_at rows to) ≡ true → IsGivenBy roots from to (rows_of tags rows) (row_at (rows_of tags next) to)
    all_given free a b p =
        let q = needed_to_attach p in
        let old = contains_privilege (row_at (rows_of tags rows) to) p in
        let has = contains_privilege (row_at (rows_of tags rows) from) q in
        ap (λ (r : List Privilege). contains_privilege r p) next_at
        ∙ contains_pass tags (cells_at rows from) (cells_at rows to) as_many p
        ∙ ap (λ (r : List Privilege). contains_privilege r p || contains_privilege (row_of tags (cells_at rows from)) q) (sym (row_at_of tags rows to))
        ∙ ap (λ (r : List Privilege). old || contains_privilege r q) (sym (row_at_of tags rows from))
        ∙ ap (λ (x : Bool). old || (x && has)) (sym free ∙ is_reached a b)

    pub is_gained : Grows (cells_at rows to) (pass_row (cells_at rows from) (cells_at rows to)) → Gains (row_at (rows_of tags rows) to) (row_at (rows_of tags next) to)
    is_gained grown =
        let g = grows_gains tags (cells_at rows to) (pass_row (cells_at rows from) (cells_at rows to)) table.ascending taker_many (length-pass (cells_at rows from) (cells_at rows to) ∙ taker_many) grown in
        (g.0, ap (λ (r : List Privilege). contains_privilege r g.0) (row_at_of tags rows to) ∙ g.1, ap (λ (r : List Privilege). contains_privilege r g.0) next_at ∙ g.2)

    pub table_put : IsTable roots tags next
    table_put = record {
      ascending = table.ascending;
      count = ap length n ∙ length-set rows to (pass_row (cells_at rows from) (cells_at rows to)) ∙ table.count;
      rows_are = λ k d lt. go k d lt (k == to) refl;
    }
      where
        go : (k : ℕ) (d : RootStart) → k < length roots → (b : Bool) → (k == to) ≡ b → IsRow tags (slice_index_or roots k d).label.i (cells_at next k)
        go k d lt true e =
            let same : k ≡ to = eqb-true k to e in
            subst (λ (x : ℕ). IsRow tags (slice_index_or roots x d).label.i (cells_at next x)) (sym same)
            (subst (λ (r : List Cell). IsRow tags (slice_index_or roots to d).label.i r) (sym (ap (λ (rs : List (List Cell)). cells_at rs to) n ∙ put_at rows to (pass_row (cells_at rows from) (cells_at rows to)) in_rows))
            (row-pass tags (slice_index_or roots to d).label.i (cells_at rows from) (cells_at rows to) (table.rows_are to d to_lt)))
        go k d lt false e =
            let other : k ≢ to = eqb-false k to e in
            subst (λ (r : List Cell). IsRow tags (slice_index_or roots k d).label.i r) (sym (ap (λ (rs : List (List Cell)). cells_at rs k) n ∙ get_or-set_other rows to k (pass_row (cells_at rows from) (cells_at rows to)) [] other))
            (table.rows_are k d lt)
