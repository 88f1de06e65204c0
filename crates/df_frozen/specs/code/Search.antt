-- Where a name stands among ascending names, or would stand.
use Rattle.std.specs.Prelude.{ℕ, suc, List, [], ◌∷◌, Result, Ok, Err}
use Rattle.std.specs.Ordering.{match_ordering}
use Rattle.df_frozen.specs.Name.{name_cmp}

-- the same place behind one more name
abbrev pub behind_one : Result ℕ ℕ → Result ℕ ℕ
behind_one (Ok i) = Ok (suc i)
behind_one (Err i) = Err (suc i)

-- `Ok` with its index, or `Err` with the index before which it would stand
abbrev pub place_of : List ℕ → List (List ℕ) → Result ℕ ℕ
place_of name [] = Err 0
place_of name (n ∷ ns) =
    match_ordering (name_cmp name n) (Err 0) (Ok 0) (behind_one (place_of name ns))
