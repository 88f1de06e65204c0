-- Worked examples of filters: which events match, by the values of their parts.
use Rattle.df_rules.proofs.Names.{ℕ, pos, List, [], ◌∷◌, codes, refl, reverse, Clause, Plain, words, entries, no_entries, entry, Label, Privilege, Legal, rows, roots, CreateEvent, AddPart, Subscribe, Get, Publish, Entry, Reply}
use Rattle.df_filter.specs.declared.clause.Test.TheVariants.{Key}
use Rattle.df_filter.specs.declared.field_test.FieldTest.{FieldTest}
use Rattle.df_rules.proofs.ExampleWords.{t, price, unit, event, public, whole, part, commit, says, commits, gets}

-- the map of a price and a symbol
abbrev quote : ℕ → List ℕ → Plain
quote n symbol = entries (entry price (whole n) (entry (codes "symbol") (words symbol) no_entries))

-- a clause that asks for a part `t` with such a field
abbrev field : List ℕ → FieldTest → Clause
field name test = record { name = t; test = Key name test }

-- each clause is served by some part: an event matches where one part has the symbol and another the price
abbrev clauses_may_be_served_by_different_parts_start : List (Label × List Privilege)
clauses_may_be_served_by_different_parts_start = (public, []) ∷ (public, []) ∷ []

abbrev clauses_may_be_served_by_different_parts_journal : List Entry
clauses_may_be_served_by_different_parts_journal =
    says (unit 1) (Subscribe (field (codes "symbol") (FieldTest.TextEq (codes "AAA")) ∷ field price (FieldTest.IntIn (pos 1) (pos 9)) ∷ [])) (Reply.Sub 0)
    ∷ says (unit 0) CreateEvent (Reply.Handle 0)
    ∷ says (unit 0) (AddPart 0 public t (quote 5 (codes "AAA"))) Reply.Ok
    ∷ commits (unit 0) (Publish 0) (commit (event (unit 0) 0) [] (part public t (quote 5 (codes "AAA")) ∷ []))
    ∷ says (unit 0) CreateEvent (Reply.Handle 0)
    ∷ says (unit 0) (AddPart 0 public t (quote 10 (codes "AAA"))) Reply.Ok
    ∷ commits (unit 0) (Publish 0) (commit (event (unit 0) 1) [] (part public t (quote 10 (codes "AAA")) ∷ []))
    ∷ says (unit 0) CreateEvent (Reply.Handle 0)
    ∷ says (unit 0) (AddPart 0 public t (quote 10 (codes "AAA"))) Reply.Ok
    ∷ says (unit 0) (AddPart 0 public t (quote 3 (codes "BBB"))) Reply.Ok
    ∷ commits (unit 0) (Publish 0) (commit (event (unit 0) 2) [] (part public t (quote 10 (codes "AAA")) ∷ part public t (quote 3 (codes "BBB")) ∷ []))
    ∷ gets (unit 1) 0 0 (event (unit 0) 0) (part public t (quote 5 (codes "AAA")) ∷ [])
    ∷ gets (unit 1) 1 0 (event (unit 0) 2) (part public t (quote 10 (codes "AAA")) ∷ part public t (quote 3 (codes "BBB")) ∷ [])
    ∷ says (unit 1) Get Reply.Nothing
    ∷ []

clauses_may_be_served_by_different_parts : Legal rows (roots clauses_may_be_served_by_different_parts_start) (reverse clauses_may_be_served_by_different_parts_journal)
clauses_may_be_served_by_different_parts = ((((((((((((((tt, refl), refl), refl), refl), refl), refl), refl), refl), refl), refl), refl), refl), refl), refl)
