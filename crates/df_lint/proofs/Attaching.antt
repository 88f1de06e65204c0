-- A row of which nothing may be passed on passes nothing on.
use Rattle.df_lint.proofs.Names.{◌≡◌, ℕ, suc, ◌+◌, ◌<◌, ◌⊎◌, inl, inr, List, [], ◌∷◌, ◌++◌, Bool, true, false, ◌&&◌, ◌||◌, refl, sym, ◌∙◌, ap, subst, arith, slice_index_or, Contains, list_any, or_parts, below_more, Contains-append_left, Contains-push, tag_eq, Privilege, Right, Plus, Minus, PlusAuth, MinusAuth, RootStart, attaches, cells_at, has, row_of, row_at, rows_of, IsSeen, IsSettled, Cell, auth_of, needed_to_attach}
use Rattle.df_label.specs.Privileges.{contains as contains_privilege}
use Rattle.df_lint.proofs.CellRows.{row_at_of}
use Rattle.df_lint.proofs.Cells.{contains_row}

no_auth : (c : Cell) (r : Right) → attaches c ≡ false → has c (auth_of r) ≡ false
no_auth c Plus none = (or_parts c.plus_auth c.minus_auth none).0
no_auth c Minus none = (or_parts c.plus_auth c.minus_auth none).1
no_auth c PlusAuth none = (or_parts c.plus_auth c.minus_auth none).0
no_auth c MinusAuth none = (or_parts c.plus_auth c.minus_auth none).1

and_none : (b : Bool) → (b && false) ≡ false
and_none true = refl
and_none false = refl

none_attached : (ts : List (List ℕ)) (cs : List Cell) (p : Privilege) → list_any attaches cs ≡ false → contains_privilege (row_of ts cs) (needed_to_attach p) ≡ false
none_attached [] cs p none = refl
none_attached (t ∷ ts) [] p none = refl
none_attached (t ∷ ts) (c ∷ cs) p none =
    let parts = or_parts (attaches c) (list_any attaches cs) none in
    let rest = contains_privilege (row_of ts cs) (needed_to_attach p) in
    contains_row t ts c cs (needed_to_attach p)
    ∙ ap (λ (b : Bool). (tag_eq t p.tag && b) || rest) (no_auth c p.right parts.0)
    ∙ ap (λ (b : Bool). b || rest) (and_none (tag_eq t p.tag))
    ∙ none_attached ts cs p parts.1

-- nothing more can be passed on from such a root
settled_so : (roots : List RootStart) (tags : List (List ℕ)) (rows : List (List Cell)) (j k : ℕ) → list_any attaches (cells_at rows j) ≡ false → IsSettled roots (rows_of tags rows) j k
settled_so roots tags rows j k none = λ a b p reaches may.
    let row = ap (λ (r : List Privilege). contains_privilege r (needed_to_attach p)) (row_at_of tags rows j) in
    let both : true ≡ false = sym may ∙ row ∙ none_attached tags (cells_at rows j) p none in
    absurd (let no : ⊥ = cc in no)

-- the list of such roots, one root further

pub givers_more : (rows : List (List Cell)) (old : List ℕ) (n : ℕ) → ((k : ℕ) → k < n → list_any attaches (cells_at rows k) ≡ true → Contains old k) → (k : ℕ) → k < n + 1 → list_any attaches (cells_at rows k) ≡ true → Contains (old ++ n ∷ []) k
givers_more rows old n all =
    below_more (λ k. list_any attaches (cells_at rows k) ≡ true → Contains (old ++ n ∷ []) k) n (λ k lt a. Contains-append_left old (n ∷ []) k (all k lt a)) (λ a. Contains-push old n)

pub givers_same : (rows : List (List Cell)) (old : List ℕ) (n : ℕ) → list_any attaches (cells_at rows n) ≡ false → ((k : ℕ) → k < n → list_any attaches (cells_at rows k) ≡ true → Contains old k) → (k : ℕ) → k < n + 1 → list_any attaches (cells_at rows k) ≡ true → Contains old k
givers_same rows old n none all =
    below_more (λ k. list_any attaches (cells_at rows k) ≡ true → Contains old k) n all (λ a. absurd (let both : true ≡ false = sym a ∙ none in let no : ⊥ = cc in no))

-- where the roots wait of which something may be passed on, all is seen to
pub seen_first : (roots : List RootStart) (tags : List (List ℕ)) (rows : List (List Cell)) (waiting : List ℕ) → ((k : ℕ) → list_any attaches (cells_at rows k) ≡ true → Contains waiting k) → (j k : ℕ) → IsSeen roots (rows_of tags rows) waiting j k
seen_first roots tags rows waiting all j k = go (list_any attaches (cells_at rows j)) refl
  where
    go : (b : Bool) → list_any attaches (cells_at rows j) ≡ b → IsSeen roots (rows_of tags rows) waiting j k
    go true some = inl (all j some)
    go false none = inr (inr (settled_so roots tags rows j k none))
