-- What a filter asks of the parts of an event: an ordinary subscription's match, and a managed
-- one's choices.
use Rattle.std.specs.Prelude.{ℕ, Bool, true, ◌&&◌, ◌||◌, List, [], ◌∷◌}
use Rattle.std.specs.List.{list_any, list_all}
use Rattle.df_filter.specs.Clause.{holds}
use Rattle.df_filter.specs.declared.clause.Clause.{Clause}
use Rattle.df_label.specs.TagSet.{tag_set_eq, is_subset, union}
use Rattle.df_part.specs.declared.part.Part.{Part}

-- whether the part serves the clause
abbrev pub serves : Clause → Part → Bool
serves c part = holds c part.name part.value

-- a filter matches where each clause holds of some part
abbrev pub matches : List Clause → List Part → Bool
matches filter parts = list_all (λ c. list_any (λ part. serves c part) parts) filter

-- whether the part serves the clause and has this integrity
abbrev pub fits : List (List ℕ) → Clause → Part → Bool
fits integrity c part = serves c part && is_subset integrity part.label.i

-- whether some choice of a part for each clause, from old and added parts, brings the tags so far
-- to t; fresh is whether an added part is among those chosen before, and at least one must be in
-- the end
abbrev pub gives : List Clause → List (List ℕ) → List (List ℕ) → List (List ℕ) → Bool → List Part →
    List Part → Bool
gives [] integrity t so_far fresh old added = fresh && tag_set_eq so_far t
gives (c ∷ cs) integrity t so_far fresh old added =
    list_any (λ part. fits integrity c part
    && gives cs integrity t (union so_far part.label.s) fresh old added) old
    || list_any (λ part. fits integrity c part
    && gives cs integrity t (union so_far part.label.s) true old added) added
