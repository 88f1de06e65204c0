-- The sets that choices for the first clauses come to, and how they go on by the next clause.
use Rattle.std.specs.Prelude.{◌≡◌, ℕ, Bool, true, false, ◌||◌, List, map}
use Rattle.std.specs.List.{filter, flat_map, list_any}
use Rattle.df_filter.specs.declared.clause.Clause.{Clause}
use Rattle.df_label.specs.TagSet.{union}
use Rattle.df_part.specs.declared.part.Part.{Part}
use Rattle.df_rules.specs.Choices.{fits, gives}

-- a set of tags
abbrev pub Tags : Type 0
Tags = List (List ℕ)

-- the two have the same elements: each test that one of them passes, one of the other passes
abbrev pub HaveSame : List Tags → List Tags → Type 0
HaveSame xs ys = (p : Tags → Bool) → list_any p xs ≡ list_any p ys

-- the confidentiality of each part that serves the clause with this integrity
abbrev pub secrets_of : Tags → Clause → List Part → List Tags
secrets_of integrity c parts = map (λ part. part.label.s) (filter (fits integrity c) parts)

-- each of the first sets with each of the second
abbrev pub joins : List Tags → List Tags → List Tags
joins sets secrets = flat_map (λ s. map (union s) secrets) sets

-- whether some choice for the clauses that are left comes to t, from a set that old parts alone
-- gave, or from one that took an added part
abbrev pub comes_to : List Clause → Tags → Tags → List Part → List Part → List Tags → List Tags →
    Bool
comes_to clauses integrity t old added stale fresh =
    list_any (λ s. gives clauses integrity t s false old added) stale
    || list_any (λ s. gives clauses integrity t s true old added) fresh
