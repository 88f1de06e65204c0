-- Worked examples of privileges: what they permit, and how they pass from unit to unit.
use Rattle.df_rules.proofs.Names.{◌≡◌, List, [], ◌∷◌, refl, reverse, Label, Privilege, Add, Del, Half, Legal, purge, rows, roots, CreateEvent, AddPart, ReadPart, AttachPrivilege, ChangeOutLabel, CreateTag, Subscribe, Publish, ChangeInOut, Entry, Emitted, Reply}
use Rattle.df_rules.proofs.ExampleWords.{a, s, t, grant, unit, event, tag, public, secret, plus, minus, plus_auth, minus_auth, whole, part, bearing, read, present, commit, says, commits, gets}

-- who reads a part holds the privileges that it bears
abbrev a_part_bears_a_privilege_start : List (Label × List Privilege)
a_part_bears_a_privilege_start = ((secret (tag 0 ∷ [])), []) ∷ (public, (minus_auth (tag 0) ∷ [])) ∷ []

abbrev a_part_bears_a_privilege_journal : List Entry
a_part_bears_a_privilege_journal =
    says (unit 0) (ChangeOutLabel Half.S Del (tag 0)) (Reply.Lacks (minus (tag 0)))
    ∷ says (unit 0) (Subscribe (present grant ∷ [])) (Reply.Sub 0)
    ∷ says (unit 1) CreateEvent (Reply.Handle 0)
    ∷ says (unit 1) (AddPart 0 public grant (whole 1)) Reply.Ok
    ∷ says (unit 1) (AttachPrivilege 0 public grant (plus (tag 0))) (Reply.Lacks (plus_auth (tag 0)))
    ∷ says (unit 1) (AttachPrivilege 0 public grant (minus (tag 0))) Reply.Ok
    ∷ commits (unit 1) (Publish 0) (commit (event (unit 1) 0) [] (bearing (minus (tag 0) ∷ []) (part public grant (whole 1)) ∷ []))
    ∷ gets (unit 0) 0 0 (event (unit 1) 0) (bearing (minus (tag 0) ∷ []) (part public grant (whole 1)) ∷ [])
    ∷ says (unit 0) (ReadPart 0 grant) (Reply.Parts (read public (whole 1) (minus (tag 0) ∷ []) ∷ []))
    ∷ says (unit 0) (ChangeOutLabel Half.S Del (tag 0)) Reply.Ok
    ∷ says (unit 1) CreateTag (Reply.Tag (1 ∷ 0 ∷ []))
    ∷ []

a_part_bears_a_privilege : Legal rows (roots a_part_bears_a_privilege_start) (reverse a_part_bears_a_privilege_journal)
a_part_bears_a_privilege = (((((((((((tt, refl), refl), refl), refl), refl), refl), refl), refl), refl), refl), refl)

-- anyone may label a part by a tag, but the privileges over it are its maker's
abbrev a_tag_gives_no_privilege_to_others_start : List (Label × List Privilege)
a_tag_gives_no_privilege_to_others_start = (public, []) ∷ (public, []) ∷ []

abbrev a_tag_gives_no_privilege_to_others_journal : List Entry
a_tag_gives_no_privilege_to_others_journal =
    says (unit 0) CreateEvent (Reply.Handle 0)
    ∷ says (unit 0) (AddPart 0 (secret ((1 ∷ 0 ∷ []) ∷ [])) a (whole 1)) Reply.Ok
    ∷ says (unit 1) CreateTag (Reply.Tag (1 ∷ 0 ∷ []))
    ∷ says (unit 0) (ChangeOutLabel Half.S Add (1 ∷ 0 ∷ [])) (Reply.Lacks (plus (1 ∷ 0 ∷ [])))
    ∷ says (unit 0) (ChangeOutLabel Half.S Del (1 ∷ 0 ∷ [])) (Reply.Lacks (minus (1 ∷ 0 ∷ [])))
    ∷ says (unit 0) (AttachPrivilege 0 (secret ((1 ∷ 0 ∷ []) ∷ [])) a (plus (1 ∷ 0 ∷ []))) (Reply.Lacks (plus_auth (1 ∷ 0 ∷ [])))
    ∷ commits (unit 0) (Publish 0) (commit (event (unit 0) 0) [] (part (secret ((1 ∷ 0 ∷ []) ∷ [])) a (whole 1) ∷ []))
    ∷ []

a_tag_gives_no_privilege_to_others : Legal rows (roots a_tag_gives_no_privilege_to_others_start) (reverse a_tag_gives_no_privilege_to_others_journal)
a_tag_gives_no_privilege_to_others = (((((((tt, refl), refl), refl), refl), refl), refl), refl)

-- a unit with the privilege takes its tag out of its labels and tells
abbrev a_secret_is_told_by_privilege_start : List (Label × List Privilege)
a_secret_is_told_by_privilege_start = (public, []) ∷ ((secret (tag 0 ∷ [])), (minus (tag 0) ∷ [])) ∷ (public, []) ∷ []

abbrev a_secret_is_told_by_privilege_journal : List Entry
a_secret_is_told_by_privilege_journal =
    says (unit 1) (Subscribe (present s ∷ [])) (Reply.Sub 0)
    ∷ says (unit 2) (Subscribe (present t ∷ [])) (Reply.Sub 0)
    ∷ says (unit 0) CreateEvent (Reply.Handle 0)
    ∷ says (unit 0) (AddPart 0 (secret (tag 0 ∷ [])) s (whole 7)) Reply.Ok
    ∷ commits (unit 0) (Publish 0) (commit (event (unit 0) 0) [] (part (secret (tag 0 ∷ [])) s (whole 7) ∷ []))
    ∷ gets (unit 1) 0 0 (event (unit 0) 0) (part (secret (tag 0 ∷ [])) s (whole 7) ∷ [])
    ∷ says (unit 1) (ReadPart 0 s) (Reply.Parts (read (secret (tag 0 ∷ [])) (whole 7) [] ∷ []))
    ∷ says (unit 1) (ChangeInOut Half.S Del (tag 0)) Reply.Ok
    ∷ says (unit 1) CreateEvent (Reply.Handle 1)
    ∷ says (unit 1) (AddPart 1 public t (whole 7)) Reply.Ok
    ∷ commits (unit 1) (Publish 1) (commit (event (unit 1) 0) [] (part public t (whole 7) ∷ []))
    ∷ gets (unit 2) 0 0 (event (unit 1) 0) (part public t (whole 7) ∷ [])
    ∷ []

a_secret_is_told_by_privilege : Legal rows (roots a_secret_is_told_by_privilege_start) (reverse a_secret_is_told_by_privilege_journal)
a_secret_is_told_by_privilege = ((((((((((((tt, refl), refl), refl), refl), refl), refl), refl), refl), refl), refl), refl), refl)

-- of the unit that read the secret the purge leaves what it told
abbrev a_purge_keeps_what_was_told_kept : List Entry
a_purge_keeps_what_was_told_kept =
    says (unit 2) (Subscribe (present t ∷ [])) (Reply.Sub 0)
    ∷ says (unit 0) CreateEvent (Reply.Handle 0)
    ∷ says (unit 0) (AddPart 0 (secret (tag 0 ∷ [])) s (whole 7)) Reply.Ok
    ∷ commits (unit 0) (Publish 0) (commit (event (unit 0) 0) [] (part (secret (tag 0 ∷ [])) s (whole 7) ∷ []))
    ∷ Emitted (commit (event (unit 1) 0) [] (part public t (whole 7) ∷ []))
    ∷ gets (unit 2) 0 0 (event (unit 1) 0) (part public t (whole 7) ∷ [])
    ∷ []

a_purge_keeps_what_was_told : purge rows (roots a_secret_is_told_by_privilege_start) public (reverse a_secret_is_told_by_privilege_journal) ≡ reverse a_purge_keeps_what_was_told_kept
a_purge_keeps_what_was_told = refl
