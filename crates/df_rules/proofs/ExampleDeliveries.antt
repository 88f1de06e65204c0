-- Worked examples of deliveries: what a unit is handed, and when.
use Rattle.df_rules.proofs.Names.{List, [], ◌∷◌, refl, reverse, Label, Privilege, Legal, rows, roots, CreateEvent, AddPart, ReadPart, Subscribe, Get, Publish, Release, Entry, Reply}
use Rattle.df_rules.proofs.ExampleWords.{a, b, price, unit, event, tag, public, secret, whole, part, read, present, commit, says, commits, gets}

-- a subscriber is handed an event that matches, and reads its part
abbrev a_subscriber_reads_what_is_published_start : List (Label × List Privilege)
a_subscriber_reads_what_is_published_start = (public, []) ∷ (public, []) ∷ []

abbrev a_subscriber_reads_what_is_published_journal : List Entry
a_subscriber_reads_what_is_published_journal =
    says (unit 1) (Subscribe (present price ∷ [])) (Reply.Sub 0)
    ∷ says (unit 0) CreateEvent (Reply.Handle 0)
    ∷ says (unit 0) (AddPart 0 public price (whole 5)) Reply.Ok
    ∷ commits (unit 0) (Publish 0) (commit (event (unit 0) 0) [] (part public price (whole 5) ∷ []))
    ∷ gets (unit 1) 0 0 (event (unit 0) 0) (part public price (whole 5) ∷ [])
    ∷ says (unit 1) (ReadPart 0 price) (Reply.Parts (read public (whole 5) [] ∷ []))
    ∷ []

a_subscriber_reads_what_is_published : Legal rows (roots a_subscriber_reads_what_is_published_start) (reverse a_subscriber_reads_what_is_published_journal)
a_subscriber_reads_what_is_published = ((((((tt, refl), refl), refl), refl), refl), refl)

-- events come in the order of their commits, each once
abbrev events_come_in_order_start : List (Label × List Privilege)
events_come_in_order_start = (public, []) ∷ (public, []) ∷ []

abbrev events_come_in_order_journal : List Entry
events_come_in_order_journal =
    says (unit 1) (Subscribe (present a ∷ [])) (Reply.Sub 0)
    ∷ says (unit 0) CreateEvent (Reply.Handle 0)
    ∷ says (unit 0) (AddPart 0 public a (whole 1)) Reply.Ok
    ∷ commits (unit 0) (Publish 0) (commit (event (unit 0) 0) [] (part public a (whole 1) ∷ []))
    ∷ says (unit 0) CreateEvent (Reply.Handle 0)
    ∷ says (unit 0) (AddPart 0 public a (whole 2)) Reply.Ok
    ∷ commits (unit 0) (Publish 0) (commit (event (unit 0) 1) [] (part public a (whole 2) ∷ []))
    ∷ gets (unit 1) 0 0 (event (unit 0) 0) (part public a (whole 1) ∷ [])
    ∷ gets (unit 1) 1 0 (event (unit 0) 1) (part public a (whole 2) ∷ [])
    ∷ says (unit 1) Get Reply.Nothing
    ∷ []

events_come_in_order : Legal rows (roots events_come_in_order_start) (reverse events_come_in_order_journal)
events_come_in_order = ((((((((((tt, refl), refl), refl), refl), refl), refl), refl), refl), refl), refl)

-- who may not read a part is handed the event without it
abbrev a_hidden_part_is_cut_start : List (Label × List Privilege)
a_hidden_part_is_cut_start = (public, []) ∷ (public, []) ∷ ((secret (tag 0 ∷ [])), []) ∷ []

abbrev a_hidden_part_is_cut_journal : List Entry
a_hidden_part_is_cut_journal =
    says (unit 1) (Subscribe (present a ∷ [])) (Reply.Sub 0)
    ∷ says (unit 2) (Subscribe (present a ∷ [])) (Reply.Sub 0)
    ∷ says (unit 0) CreateEvent (Reply.Handle 0)
    ∷ says (unit 0) (AddPart 0 public a (whole 1)) Reply.Ok
    ∷ says (unit 0) (AddPart 0 (secret (tag 0 ∷ [])) b (whole 2)) Reply.Ok
    ∷ commits (unit 0) (Publish 0) (commit (event (unit 0) 0) [] (part public a (whole 1) ∷ part (secret (tag 0 ∷ [])) b (whole 2) ∷ []))
    ∷ gets (unit 1) 0 0 (event (unit 0) 0) (part public a (whole 1) ∷ [])
    ∷ gets (unit 2) 0 0 (event (unit 0) 0) (part public a (whole 1) ∷ part (secret (tag 0 ∷ [])) b (whole 2) ∷ [])
    ∷ []

a_hidden_part_is_cut : Legal rows (roots a_hidden_part_is_cut_start) (reverse a_hidden_part_is_cut_journal)
a_hidden_part_is_cut = ((((((((tt, refl), refl), refl), refl), refl), refl), refl), refl)

-- a part that the unit may not read matches nothing; a later commit completes the match
abbrev parts_of_several_commits_match_start : List (Label × List Privilege)
parts_of_several_commits_match_start = (public, []) ∷ (public, []) ∷ (public, []) ∷ []

abbrev parts_of_several_commits_match_journal : List Entry
parts_of_several_commits_match_journal =
    says (unit 1) (Subscribe (present a ∷ present b ∷ [])) (Reply.Sub 0)
    ∷ says (unit 2) (Subscribe (present a ∷ [])) (Reply.Sub 0)
    ∷ says (unit 0) CreateEvent (Reply.Handle 0)
    ∷ says (unit 0) (AddPart 0 public a (whole 1)) Reply.Ok
    ∷ says (unit 0) (AddPart 0 (secret (tag 0 ∷ [])) b (whole 2)) Reply.Ok
    ∷ commits (unit 0) (Publish 0) (commit (event (unit 0) 0) [] (part public a (whole 1) ∷ part (secret (tag 0 ∷ [])) b (whole 2) ∷ []))
    ∷ says (unit 1) Get Reply.Nothing
    ∷ gets (unit 2) 0 0 (event (unit 0) 0) (part public a (whole 1) ∷ [])
    ∷ says (unit 2) (AddPart 0 public b (whole 3)) Reply.Ok
    ∷ commits (unit 2) (Release 0) (commit (event (unit 0) 0) [] (part public b (whole 3) ∷ []))
    ∷ gets (unit 1) 0 0 (event (unit 0) 0) (part public a (whole 1) ∷ part public b (whole 3) ∷ [])
    ∷ says (unit 2) Get Reply.Nothing
    ∷ []

parts_of_several_commits_match : Legal rows (roots parts_of_several_commits_match_start) (reverse parts_of_several_commits_match_journal)
parts_of_several_commits_match = ((((((((((((tt, refl), refl), refl), refl), refl), refl), refl), refl), refl), refl), refl), refl)

-- a commit that adds nothing that the unit may read brings it nothing
abbrev a_commit_must_add_a_readable_part_start : List (Label × List Privilege)
a_commit_must_add_a_readable_part_start = (public, []) ∷ ((secret (tag 0 ∷ [])), []) ∷ (public, []) ∷ []

abbrev a_commit_must_add_a_readable_part_journal : List Entry
a_commit_must_add_a_readable_part_journal =
    says (unit 1) (Subscribe (present a ∷ [])) (Reply.Sub 0)
    ∷ says (unit 0) CreateEvent (Reply.Handle 0)
    ∷ says (unit 0) (AddPart 0 public a (whole 1)) Reply.Ok
    ∷ commits (unit 0) (Publish 0) (commit (event (unit 0) 0) [] (part public a (whole 1) ∷ []))
    ∷ gets (unit 1) 0 0 (event (unit 0) 0) (part public a (whole 1) ∷ [])
    ∷ says (unit 2) (Subscribe (present a ∷ [])) (Reply.Sub 0)
    ∷ says (unit 1) (AddPart 0 public b (whole 2)) Reply.Ok
    ∷ commits (unit 1) (Release 0) (commit (event (unit 0) 0) [] (part (secret (tag 0 ∷ [])) b (whole 2) ∷ []))
    ∷ says (unit 2) Get Reply.Nothing
    ∷ []

a_commit_must_add_a_readable_part : Legal rows (roots a_commit_must_add_a_readable_part_start) (reverse a_commit_must_add_a_readable_part_journal)
a_commit_must_add_a_readable_part = (((((((((tt, refl), refl), refl), refl), refl), refl), refl), refl), refl)

-- each subscription is handed an event once, however often it is released
abbrev an_event_comes_once_per_subscription_start : List (Label × List Privilege)
an_event_comes_once_per_subscription_start = (public, []) ∷ (public, []) ∷ (public, []) ∷ []

abbrev an_event_comes_once_per_subscription_journal : List Entry
an_event_comes_once_per_subscription_journal =
    says (unit 1) (Subscribe (present a ∷ [])) (Reply.Sub 0)
    ∷ says (unit 1) (Subscribe (present a ∷ [])) (Reply.Sub 1)
    ∷ says (unit 2) (Subscribe (present a ∷ [])) (Reply.Sub 0)
    ∷ says (unit 0) CreateEvent (Reply.Handle 0)
    ∷ says (unit 0) (AddPart 0 public a (whole 1)) Reply.Ok
    ∷ commits (unit 0) (Publish 0) (commit (event (unit 0) 0) [] (part public a (whole 1) ∷ []))
    ∷ gets (unit 1) 0 0 (event (unit 0) 0) (part public a (whole 1) ∷ [])
    ∷ gets (unit 1) 1 1 (event (unit 0) 0) (part public a (whole 1) ∷ [])
    ∷ says (unit 1) Get Reply.Nothing
    ∷ gets (unit 2) 0 0 (event (unit 0) 0) (part public a (whole 1) ∷ [])
    ∷ says (unit 2) (AddPart 0 public a (whole 2)) Reply.Ok
    ∷ commits (unit 2) (Release 0) (commit (event (unit 0) 0) [] (part public a (whole 2) ∷ []))
    ∷ says (unit 1) Get Reply.Nothing
    ∷ says (unit 2) Get Reply.Nothing
    ∷ []

an_event_comes_once_per_subscription : Legal rows (roots an_event_comes_once_per_subscription_start) (reverse an_event_comes_once_per_subscription_journal)
an_event_comes_once_per_subscription = ((((((((((((((tt, refl), refl), refl), refl), refl), refl), refl), refl), refl), refl), refl), refl), refl), refl)
