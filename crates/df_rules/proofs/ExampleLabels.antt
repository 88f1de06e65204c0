-- Worked examples of labels: how parts are labelled, and who may write them.
use Rattle.df_rules.proofs.Names.{List, [], ◌∷◌, refl, reverse, Label, Privilege, Add, Half, Legal, rows, roots, CreateEvent, AddPart, DelPart, ReadPart, CloneEvent, Subscribe, Get, Publish, Release, ChangeInOut, Entry, Reply}
use Rattle.df_rules.proofs.ExampleWords.{a, b, unit, event, tag, public, secret, vouched, plus, whole, part, spot, present, commit, says, commits, gets}

-- a part is labelled again by the output label at the publish
abbrev parts_are_labelled_at_the_publish_start : List (Label × List Privilege)
parts_are_labelled_at_the_publish_start = (public, (plus (tag 0) ∷ [])) ∷ []

abbrev parts_are_labelled_at_the_publish_journal : List Entry
parts_are_labelled_at_the_publish_journal =
    says (unit 0) CreateEvent (Reply.Handle 0)
    ∷ says (unit 0) (AddPart 0 public a (whole 1)) Reply.Ok
    ∷ says (unit 0) (ChangeInOut Half.S Add (tag 0)) Reply.Ok
    ∷ commits (unit 0) (Publish 0) (commit (event (unit 0) 0) [] (part (secret (tag 0 ∷ [])) a (whole 1) ∷ []))
    ∷ []

parts_are_labelled_at_the_publish : Legal rows (roots parts_are_labelled_at_the_publish_start) (reverse parts_are_labelled_at_the_publish_journal)
parts_are_labelled_at_the_publish = ((((tt, refl), refl), refl), refl)

-- a part has no more integrity than its writer
abbrev integrity_is_cut_to_the_writer_start : List (Label × List Privilege)
integrity_is_cut_to_the_writer_start = (public, []) ∷ (public, []) ∷ ((vouched (tag 1 ∷ [])), []) ∷ []

abbrev integrity_is_cut_to_the_writer_journal : List Entry
integrity_is_cut_to_the_writer_journal =
    says (unit 1) (Subscribe (present a ∷ [])) (Reply.Sub 0)
    ∷ says (unit 2) (Subscribe (present a ∷ [])) (Reply.Sub 0)
    ∷ says (unit 0) CreateEvent (Reply.Handle 0)
    ∷ says (unit 0) (AddPart 0 (vouched (tag 1 ∷ [])) a (whole 1)) Reply.Ok
    ∷ commits (unit 0) (Publish 0) (commit (event (unit 0) 0) [] (part public a (whole 1) ∷ []))
    ∷ gets (unit 1) 0 0 (event (unit 0) 0) (part public a (whole 1) ∷ [])
    ∷ says (unit 2) Get Reply.Nothing
    ∷ []

integrity_is_cut_to_the_writer : Legal rows (roots integrity_is_cut_to_the_writer_start) (reverse integrity_is_cut_to_the_writer_journal)
integrity_is_cut_to_the_writer = (((((((tt, refl), refl), refl), refl), refl), refl), refl)

-- a hidden part is answered as an absent one, and a deletion needs the output label to flow to the part
abbrev hidden_parts_are_as_absent_start : List (Label × List Privilege)
hidden_parts_are_as_absent_start = (public, []) ∷ (public, []) ∷ ((secret (tag 0 ∷ tag 1 ∷ [])), []) ∷ []

abbrev hidden_parts_are_as_absent_journal : List Entry
hidden_parts_are_as_absent_journal =
    says (unit 1) (Subscribe (present a ∷ [])) (Reply.Sub 0)
    ∷ says (unit 2) (Subscribe (present a ∷ [])) (Reply.Sub 0)
    ∷ says (unit 0) CreateEvent (Reply.Handle 0)
    ∷ says (unit 0) (AddPart 0 public a (whole 1)) Reply.Ok
    ∷ says (unit 0) (AddPart 0 (secret (tag 0 ∷ [])) b (whole 2)) Reply.Ok
    ∷ commits (unit 0) (Publish 0) (commit (event (unit 0) 0) [] (part public a (whole 1) ∷ part (secret (tag 0 ∷ [])) b (whole 2) ∷ []))
    ∷ gets (unit 1) 0 0 (event (unit 0) 0) (part public a (whole 1) ∷ [])
    ∷ gets (unit 2) 0 0 (event (unit 0) 0) (part public a (whole 1) ∷ part (secret (tag 0 ∷ [])) b (whole 2) ∷ [])
    ∷ says (unit 1) (DelPart 0 (secret (tag 0 ∷ [])) b) Reply.NoSuchPart
    ∷ says (unit 1) (ReadPart 0 b) Reply.NoSuchPart
    ∷ says (unit 2) (DelPart 0 (secret (tag 0 ∷ [])) b) (Reply.CannotWrite (secret (tag 0 ∷ tag 1 ∷ [])) (secret (tag 0 ∷ [])))
    ∷ says (unit 1) (DelPart 0 public a) Reply.Ok
    ∷ says (unit 1) (ReadPart 0 a) Reply.NoSuchPart
    ∷ commits (unit 1) (Release 0) (commit (event (unit 0) 0) (spot a public ∷ []) [])
    ∷ says (unit 2) (CloneEvent 0 public) (Reply.Handle 1)
    ∷ commits (unit 2) (Publish 1) (commit (event (unit 2) 0) [] (part (secret (tag 0 ∷ tag 1 ∷ [])) a (whole 1) ∷ part (secret (tag 0 ∷ tag 1 ∷ [])) b (whole 2) ∷ []))
    ∷ []

hidden_parts_are_as_absent : Legal rows (roots hidden_parts_are_as_absent_start) (reverse hidden_parts_are_as_absent_journal)
hidden_parts_are_as_absent = ((((((((((((((((tt, refl), refl), refl), refl), refl), refl), refl), refl), refl), refl), refl), refl), refl), refl), refl), refl)

-- a draft is not released, a view is not published, and who does not exist is no unit
abbrev kinds_of_handles_are_told_apart_start : List (Label × List Privilege)
kinds_of_handles_are_told_apart_start = (public, []) ∷ (public, []) ∷ []

abbrev kinds_of_handles_are_told_apart_journal : List Entry
kinds_of_handles_are_told_apart_journal =
    says (unit 1) (Subscribe (present a ∷ [])) (Reply.Sub 0)
    ∷ says (unit 0) CreateEvent (Reply.Handle 0)
    ∷ says (unit 0) (Release 0) Reply.NotReceived
    ∷ says (unit 0) (AddPart 0 public a (whole 1)) Reply.Ok
    ∷ commits (unit 0) (Publish 0) (commit (event (unit 0) 0) [] (part public a (whole 1) ∷ []))
    ∷ gets (unit 1) 0 0 (event (unit 0) 0) (part public a (whole 1) ∷ [])
    ∷ says (unit 1) (Publish 0) Reply.NotDraft
    ∷ says (unit 1) (Release 0) Reply.Ok
    ∷ says (unit 9) Get Reply.NoSuchUnit
    ∷ []

kinds_of_handles_are_told_apart : Legal rows (roots kinds_of_handles_are_told_apart_start) (reverse kinds_of_handles_are_told_apart_journal)
kinds_of_handles_are_told_apart = (((((((((tt, refl), refl), refl), refl), refl), refl), refl), refl), refl)
