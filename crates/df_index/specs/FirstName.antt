-- What a filter matches has a part of the name of its first clause.
use Rattle.std.specs.Prelude.{◌≡◌, ℕ, List, [], ◌∷◌, Some, Bool, true, false, ◌&&◌, ◌||◌, refl}
use Rattle.std.specs.List.{Contains, list_any, list_all}
use Rattle.std.proofs.Common.{sym, subst, arith, suc}
use Rattle.std.specs.Str.{bytes_eq}
use Rattle.std.proofs.lemmas.Slice.Eq.{bytes_eq-Decides}
use Rattle.df_filter.specs.Clause.{test_holds}
use Rattle.df_filter.specs.declared.clause.Clause.{Clause}
use Rattle.df_part.specs.declared.part.Part.{Part}
use Rattle.df_index.specs.Filter.{first_of, matches, serves}
use Rattle.df_index.specs.Listing.{names_of}

-- a part that serves the clause has its name
served_has_name : (c : Clause) (parts : List Part) → list_any (serves c) parts ≡ true
    → Contains (names_of parts) c.name
served_has_name c [] h = absurd (let z : ⊥ = cc in z)
served_has_name c (p ∷ ps) h =
    by (bytes_eq c.name p.name) (test_holds c.test p.value) (bytes_eq-Decides c.name p.name).0
    (served_has_name c ps) h
  where
    by : (a b : Bool) → (a ≡ true → c.name ≡ p.name)
        → (list_any (serves c) ps ≡ true → Contains (names_of ps) c.name)
        → ((a && b) || list_any (serves c) ps) ≡ true → Contains (names_of (p ∷ ps)) c.name
    by true true e ih k = (0, omega arith, sym (e refl))
    by true false e ih k = let r = ih k in (suc r.0, omega (arith, r.1), r.2)
    by false b e ih k = let r = ih k in (suc r.0, omega (arith, r.1), r.2)

-- a list that the filter matches has a part of the first name
pub has_first : (filter : List Clause) (parts : List Part) (name : List ℕ)
    → first_of filter ≡ Some name → matches filter parts ≡ true → Contains (names_of parts) name
has_first [] parts name e h = absurd (let z : ⊥ = cc in z)
has_first (c ∷ cs) parts name e h =
    subst (Contains (names_of parts)) (let same : c.name ≡ name = cc in same)
    (served_has_name c parts (first_part (list_any (serves c) parts) h))
  where
    first_part : (a : Bool)
        → (a && list_all (λ c. list_any (λ part. serves c part) parts) cs) ≡ true → a ≡ true
    first_part true k = refl
    first_part false k = k
