-- Worked examples of units that make units.
use Rattle.df_rules.proofs.Names.{◌≡◌, ℕ, zero, suc, List, [], ◌∷◌, refl, reverse, replicate, Label, Privilege, Del, Half, Legal, run, purge, rows, roots, Call, CreateEvent, AddPart, ChangeOutLabel, CreateTag, Get, Publish, ChangeInOut, Instantiate, Entry, Emitted, Root, Reply}
use Rattle.df_rules.proofs.ExampleWords.{a, unit, event, tag, public, secret, plus, minus, plus_auth, minus_auth, whole, part, commit, says, commits}

-- a child has the secrets of both labels of its maker, and the privileges that its maker may pass on
abbrev a_child_begins_with_its_makers_secrets_start : List (Label × List Privilege)
a_child_begins_with_its_makers_secrets_start = ((secret (tag 0 ∷ [])), (minus (tag 0) ∷ plus_auth (tag 0) ∷ plus (tag 2) ∷ [])) ∷ []

abbrev a_child_begins_with_its_makers_secrets_journal : List Entry
a_child_begins_with_its_makers_secrets_journal =
    says (unit 0) (Instantiate (tag 3 ∷ []) []) (Reply.Lacks (plus (tag 3)))
    ∷ says (unit 0) (Instantiate (tag 2 ∷ []) (minus (tag 0) ∷ [])) (Reply.Lacks (minus_auth (tag 0)))
    ∷ says (unit 0) (Instantiate (tag 2 ∷ []) (plus (tag 0) ∷ [])) (Reply.Unit 0)
    ∷ says (Root (0 ∷ 0 ∷ [])) CreateTag (Reply.Tag (0 ∷ 0 ∷ 0 ∷ []))
    ∷ says (Root (0 ∷ 0 ∷ [])) CreateEvent (Reply.Handle 0)
    ∷ says (Root (0 ∷ 0 ∷ [])) (AddPart 0 public a (whole 1)) Reply.Ok
    ∷ commits (Root (0 ∷ 0 ∷ [])) (Publish 0) (commit (event (Root (0 ∷ 0 ∷ [])) 0) [] (part (secret (tag 0 ∷ tag 2 ∷ [])) a (whole 1) ∷ []))
    ∷ says (Root (0 ∷ 0 ∷ [])) (ChangeOutLabel Half.S Del (tag 2)) (Reply.Lacks (minus (tag 2)))
    ∷ says (Root (0 ∷ 1 ∷ [])) Get Reply.NoSuchUnit
    ∷ says (unit 0) CreateTag (Reply.Tag (0 ∷ 0 ∷ []))
    ∷ []

a_child_begins_with_its_makers_secrets : Legal rows (roots a_child_begins_with_its_makers_secrets_start) (reverse a_child_begins_with_its_makers_secrets_journal)
a_child_begins_with_its_makers_secrets = ((((((((((tt, refl), refl), refl), refl), refl), refl), refl), refl), refl), refl)

-- the purge at the maker's label leaves out the child, which has one secret more
abbrev a_purge_below_the_child_keeps_its_maker_kept : List Entry
a_purge_below_the_child_keeps_its_maker_kept =
    says (unit 0) (Instantiate (tag 3 ∷ []) []) (Reply.Lacks (plus (tag 3)))
    ∷ says (unit 0) (Instantiate (tag 2 ∷ []) (minus (tag 0) ∷ [])) (Reply.Lacks (minus_auth (tag 0)))
    ∷ says (unit 0) (Instantiate (tag 2 ∷ []) (plus (tag 0) ∷ [])) (Reply.Unit 0)
    ∷ says (unit 0) CreateTag (Reply.Tag (0 ∷ 0 ∷ []))
    ∷ []

a_purge_below_the_child_keeps_its_maker : purge rows (roots a_child_begins_with_its_makers_secrets_start) (secret (tag 0 ∷ [])) (reverse a_child_begins_with_its_makers_secrets_journal) ≡ reverse a_purge_below_the_child_keeps_its_maker_kept
a_purge_below_the_child_keeps_its_maker = refl

-- a child of a unit that told a secret may tell it too
abbrev a_child_begins_with_what_its_maker_dropped_start : List (Label × List Privilege)
a_child_begins_with_what_its_maker_dropped_start = ((secret (tag 0 ∷ [])), (minus (tag 0) ∷ [])) ∷ []

abbrev a_child_begins_with_what_its_maker_dropped_journal : List Entry
a_child_begins_with_what_its_maker_dropped_journal =
    says (unit 0) (ChangeInOut Half.S Del (tag 0)) Reply.Ok
    ∷ says (unit 0) (Instantiate ([]) []) (Reply.Unit 0)
    ∷ says (Root (0 ∷ 0 ∷ [])) CreateEvent (Reply.Handle 0)
    ∷ says (Root (0 ∷ 0 ∷ [])) (AddPart 0 public a (whole 1)) Reply.Ok
    ∷ commits (Root (0 ∷ 0 ∷ [])) (Publish 0) (commit (event (Root (0 ∷ 0 ∷ [])) 0) [] (part public a (whole 1) ∷ []))
    ∷ []

a_child_begins_with_what_its_maker_dropped : Legal rows (roots a_child_begins_with_what_its_maker_dropped_start) (reverse a_child_begins_with_what_its_maker_dropped_journal)
a_child_begins_with_what_its_maker_dropped = (((((tt, refl), refl), refl), refl), refl)

-- of the child the purge leaves what it told
abbrev a_purge_keeps_what_a_child_told_kept : List Entry
a_purge_keeps_what_a_child_told_kept =
    Emitted (commit (event (Root (0 ∷ 0 ∷ [])) 0) [] (part public a (whole 1) ∷ []))
    ∷ []

a_purge_keeps_what_a_child_told : purge rows (roots a_child_begins_with_what_its_maker_dropped_start) public (reverse a_child_begins_with_what_its_maker_dropped_journal) ≡ reverse a_purge_keeps_what_a_child_told_kept
a_purge_keeps_what_a_child_told = refl

-- units that units make are eight deep at most
abbrev a_path_has_at_most_eight_numbers_start : List (Label × List Privilege)
a_path_has_at_most_eight_numbers_start = (public, []) ∷ []

abbrev a_path_has_at_most_eight_numbers_journal : List Entry
a_path_has_at_most_eight_numbers_journal =
    says (unit 0) (Instantiate ([]) []) (Reply.Unit 0)
    ∷ says (Root (0 ∷ 0 ∷ [])) (Instantiate ([]) []) (Reply.Unit 0)
    ∷ says (Root (0 ∷ 0 ∷ 0 ∷ [])) (Instantiate ([]) []) (Reply.Unit 0)
    ∷ says (Root (0 ∷ 0 ∷ 0 ∷ 0 ∷ [])) (Instantiate ([]) []) (Reply.Unit 0)
    ∷ says (Root (0 ∷ 0 ∷ 0 ∷ 0 ∷ 0 ∷ [])) (Instantiate ([]) []) (Reply.Unit 0)
    ∷ says (Root (0 ∷ 0 ∷ 0 ∷ 0 ∷ 0 ∷ 0 ∷ [])) (Instantiate ([]) []) (Reply.Unit 0)
    ∷ says (Root (0 ∷ 0 ∷ 0 ∷ 0 ∷ 0 ∷ 0 ∷ 0 ∷ [])) (Instantiate ([]) []) (Reply.Unit 0)
    ∷ says (Root (0 ∷ 0 ∷ 0 ∷ 0 ∷ 0 ∷ 0 ∷ 0 ∷ 0 ∷ [])) (Instantiate ([]) []) Reply.TooDeep
    ∷ []

a_path_has_at_most_eight_numbers : Legal rows (roots a_path_has_at_most_eight_numbers_start) (reverse a_path_has_at_most_eight_numbers_journal)
a_path_has_at_most_eight_numbers = ((((((((tt, refl), refl), refl), refl), refl), refl), refl), refl)

-- a unit makes 64 units and no more

abbrev spawn : Call
spawn = Instantiate [] []

-- the units of these numbers and less, the newest first
abbrev spawned : ℕ → List Entry
spawned zero = []
spawned (suc k) = says (unit 0) spawn (Reply.Unit k) ∷ spawned k

a_unit_makes_sixty_four_units : run rows (roots ((public, []) ∷ [])) (replicate 65 (unit 0, spawn)) ≡ says (unit 0) spawn Reply.TooManyUnits ∷ spawned 64
a_unit_makes_sixty_four_units = refl
