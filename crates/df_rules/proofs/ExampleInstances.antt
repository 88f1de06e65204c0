-- Worked examples of managed subscriptions: an instance for each contamination.
use Rattle.df_rules.proofs.Names.{◌≡◌, List, [], ◌∷◌, refl, reverse, Label, Privilege, Add, Half, Legal, purge, rows, roots, CreateEvent, AddPart, ChangeOutLabel, CreateTag, SubscribeManaged, Get, Publish, Entry, Reply}
use Rattle.df_rules.proofs.ExampleWords.{a, b, s, t, unit, instance, event, tag, public, secret, vouched, plus, minus, whole, part, present, commit, says, commits, gets}

-- each choice of parts gives the instance of its contamination, and no join of all parts makes one
abbrev an_instance_for_each_contamination_start : List (Label × List Privilege)
an_instance_for_each_contamination_start = (public, []) ∷ (public, []) ∷ []

abbrev an_instance_for_each_contamination_journal : List Entry
an_instance_for_each_contamination_journal =
    says (unit 1) (SubscribeManaged (present a ∷ present b ∷ [])) (Reply.Sub 0)
    ∷ says (unit 0) CreateEvent (Reply.Handle 0)
    ∷ says (unit 0) (AddPart 0 (secret (tag 0 ∷ [])) a (whole 1)) Reply.Ok
    ∷ says (unit 0) (AddPart 0 (secret (tag 1 ∷ [])) b (whole 2)) Reply.Ok
    ∷ says (unit 0) (AddPart 0 public a (whole 3)) Reply.Ok
    ∷ commits (unit 0) (Publish 0) (commit (event (unit 0) 0) [] (part (secret (tag 0 ∷ [])) a (whole 1) ∷ part (secret (tag 1 ∷ [])) b (whole 2) ∷ part public a (whole 3) ∷ []))
    ∷ gets (instance (1 ∷ []) 0 (tag 0 ∷ tag 1 ∷ [])) 0 0 (event (unit 0) 0) (part (secret (tag 0 ∷ [])) a (whole 1) ∷ part (secret (tag 1 ∷ [])) b (whole 2) ∷ part public a (whole 3) ∷ [])
    ∷ gets (instance (1 ∷ []) 0 (tag 1 ∷ [])) 0 0 (event (unit 0) 0) (part (secret (tag 1 ∷ [])) b (whole 2) ∷ part public a (whole 3) ∷ [])
    ∷ says (instance (1 ∷ []) 0 (tag 0 ∷ [])) Get Reply.NoSuchUnit
    ∷ says (unit 1) Get Reply.Nothing
    ∷ says (instance (1 ∷ []) 0 (tag 1 ∷ [])) CreateTag Reply.NotInManaged
    ∷ []

an_instance_for_each_contamination : Legal rows (roots an_instance_for_each_contamination_start) (reverse an_instance_for_each_contamination_journal)
an_instance_for_each_contamination = (((((((((((tt, refl), refl), refl), refl), refl), refl), refl), refl), refl), refl), refl)

-- the purge at one of the contaminations leaves out the instance beyond it, and the get of one that does not exist
abbrev shorter_journal : List Entry
shorter_journal =
    says (unit 1) (SubscribeManaged (present a ∷ present b ∷ [])) (Reply.Sub 0)
    ∷ says (unit 0) CreateEvent (Reply.Handle 0)
    ∷ says (unit 0) (AddPart 0 (secret (tag 0 ∷ [])) a (whole 1)) Reply.Ok
    ∷ says (unit 0) (AddPart 0 (secret (tag 1 ∷ [])) b (whole 2)) Reply.Ok
    ∷ says (unit 0) (AddPart 0 public a (whole 3)) Reply.Ok
    ∷ commits (unit 0) (Publish 0) (commit (event (unit 0) 0) [] (part (secret (tag 0 ∷ [])) a (whole 1) ∷ part (secret (tag 1 ∷ [])) b (whole 2) ∷ part public a (whole 3) ∷ []))
    ∷ gets (instance (1 ∷ []) 0 (tag 0 ∷ tag 1 ∷ [])) 0 0 (event (unit 0) 0) (part (secret (tag 0 ∷ [])) a (whole 1) ∷ part (secret (tag 1 ∷ [])) b (whole 2) ∷ part public a (whole 3) ∷ [])
    ∷ gets (instance (1 ∷ []) 0 (tag 1 ∷ [])) 0 0 (event (unit 0) 0) (part (secret (tag 1 ∷ [])) b (whole 2) ∷ part public a (whole 3) ∷ [])
    ∷ says (instance (1 ∷ []) 0 (tag 0 ∷ [])) Get Reply.NoSuchUnit
    ∷ says (unit 1) Get Reply.Nothing
    ∷ []

abbrev kept_at_one : List Entry
kept_at_one =
    says (unit 1) (SubscribeManaged (present a ∷ present b ∷ [])) (Reply.Sub 0)
    ∷ says (unit 0) CreateEvent (Reply.Handle 0)
    ∷ says (unit 0) (AddPart 0 (secret (tag 0 ∷ [])) a (whole 1)) Reply.Ok
    ∷ says (unit 0) (AddPart 0 (secret (tag 1 ∷ [])) b (whole 2)) Reply.Ok
    ∷ says (unit 0) (AddPart 0 public a (whole 3)) Reply.Ok
    ∷ commits (unit 0) (Publish 0) (commit (event (unit 0) 0) [] (part (secret (tag 0 ∷ [])) a (whole 1) ∷ part (secret (tag 1 ∷ [])) b (whole 2) ∷ part public a (whole 3) ∷ []))
    ∷ gets (instance (1 ∷ []) 0 (tag 1 ∷ [])) 0 0 (event (unit 0) 0) (part (secret (tag 1 ∷ [])) b (whole 2) ∷ part public a (whole 3) ∷ [])
    ∷ says (unit 1) Get Reply.Nothing
    ∷ []

a_purge_leaves_out_the_instance_beyond : purge rows (roots an_instance_for_each_contamination_start) (secret (tag 1 ∷ [])) (reverse shorter_journal) ≡ reverse kept_at_one
a_purge_leaves_out_the_instance_beyond = refl

-- an instance begins from what the subscription kept, and not from its owner's present
abbrev a_record_is_fixed_journal : List Entry
a_record_is_fixed_journal =
    says (unit 1) (SubscribeManaged (present a ∷ [])) (Reply.Sub 0)
    ∷ says (unit 1) CreateTag (Reply.Tag (1 ∷ 0 ∷ []))
    ∷ says (unit 0) CreateEvent (Reply.Handle 0)
    ∷ says (unit 0) (AddPart 0 public a (whole 1)) Reply.Ok
    ∷ commits (unit 0) (Publish 0) (commit (event (unit 0) 0) [] (part public a (whole 1) ∷ []))
    ∷ says (instance (1 ∷ []) 0 []) (ChangeOutLabel Half.S Add (1 ∷ 0 ∷ [])) (Reply.Lacks (plus (1 ∷ 0 ∷ [])))
    ∷ says (unit 1) (ChangeOutLabel Half.S Add (1 ∷ 0 ∷ [])) Reply.Ok
    ∷ []

a_record_is_fixed : Legal rows (roots ((public, []) ∷ (public, []) ∷ [])) (reverse a_record_is_fixed_journal)
a_record_is_fixed = (((((((tt, refl), refl), refl), refl), refl), refl), refl)

-- a part without the owner's integrity serves no choice
abbrev a_choice_needs_integrity_journal : List Entry
a_choice_needs_integrity_journal =
    says (unit 1) (SubscribeManaged (present a ∷ [])) (Reply.Sub 0)
    ∷ says (unit 0) CreateEvent (Reply.Handle 0)
    ∷ says (unit 0) (AddPart 0 public a (whole 1)) Reply.Ok
    ∷ commits (unit 0) (Publish 0) (commit (event (unit 0) 0) [] (part public a (whole 1) ∷ []))
    ∷ says (instance (1 ∷ []) 0 []) Get Reply.NoSuchUnit
    ∷ []

a_choice_needs_integrity : Legal rows (roots ((public, []) ∷ (vouched (tag 0 ∷ []), []) ∷ [])) (reverse a_choice_needs_integrity_journal)
a_choice_needs_integrity = (((((tt, refl), refl), refl), refl), refl)

-- an instance reads what its owner may not, and tells it no further
abbrev an_instance_reads_for_its_owner_start : List (Label × List Privilege)
an_instance_reads_for_its_owner_start = (public, []) ∷ (secret (tag 0 ∷ []), minus (tag 0) ∷ []) ∷ (public, []) ∷ []

abbrev an_instance_reads_for_its_owner_journal : List Entry
an_instance_reads_for_its_owner_journal =
    says (unit 2) (SubscribeManaged (present s ∷ [])) (Reply.Sub 0)
    ∷ says (unit 0) CreateEvent (Reply.Handle 0)
    ∷ says (unit 0) (AddPart 0 (secret (tag 0 ∷ [])) s (whole 7)) Reply.Ok
    ∷ commits (unit 0) (Publish 0) (commit (event (unit 0) 0) [] (part (secret (tag 0 ∷ [])) s (whole 7) ∷ []))
    ∷ says (unit 2) Get Reply.Nothing
    ∷ gets (instance (2 ∷ []) 0 (tag 0 ∷ [])) 0 0 (event (unit 0) 0) (part (secret (tag 0 ∷ [])) s (whole 7) ∷ [])
    ∷ says (instance (2 ∷ []) 0 (tag 0 ∷ [])) CreateEvent (Reply.Handle 1)
    ∷ says (instance (2 ∷ []) 0 (tag 0 ∷ [])) (AddPart 1 public t (whole 7)) Reply.Ok
    ∷ commits (instance (2 ∷ []) 0 (tag 0 ∷ [])) (Publish 1) (commit (event (instance (2 ∷ []) 0 (tag 0 ∷ [])) 0) [] (part (secret (tag 0 ∷ [])) t (whole 7) ∷ []))
    ∷ []

an_instance_reads_for_its_owner : Legal rows (roots an_instance_reads_for_its_owner_start) (reverse an_instance_reads_for_its_owner_journal)
an_instance_reads_for_its_owner = (((((((((tt, refl), refl), refl), refl), refl), refl), refl), refl), refl)

-- the purge below the instance has nothing of it
abbrev a_purge_has_nothing_of_an_instance_kept : List Entry
a_purge_has_nothing_of_an_instance_kept =
    says (unit 2) (SubscribeManaged (present s ∷ [])) (Reply.Sub 0)
    ∷ says (unit 0) CreateEvent (Reply.Handle 0)
    ∷ says (unit 0) (AddPart 0 (secret (tag 0 ∷ [])) s (whole 7)) Reply.Ok
    ∷ commits (unit 0) (Publish 0) (commit (event (unit 0) 0) [] (part (secret (tag 0 ∷ [])) s (whole 7) ∷ []))
    ∷ says (unit 2) Get Reply.Nothing
    ∷ []

a_purge_has_nothing_of_an_instance : purge rows (roots an_instance_reads_for_its_owner_start) public (reverse an_instance_reads_for_its_owner_journal) ≡ reverse a_purge_has_nothing_of_an_instance_kept
a_purge_has_nothing_of_an_instance = refl
