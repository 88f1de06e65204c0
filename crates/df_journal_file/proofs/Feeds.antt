-- The lines of a journal have no line feed but their last byte.
use Rattle.df_journal_file.proofs.Names.{event_line, note_line, call_words, call_line, part_line, read_line, spot_line, ArePrivileges, IsCalled, IsEvent, IsPart, IsPartRead, IsReply, IsSpot, spaced, word, event_text, unit_text, reply_words, Label, IsLine, Spot, Part, Avoids, Avoids-line, Avoids-words, IsLine-value, IsLine-word, AreWords-privileges, is_word, is_word-actor, is_word-append, is_word-decimal, is_word-label, is_word-name, is_word-privilege, is_word-tag, number_word, Call, EventName, UnitName, PartRead, Reply, IsLabel, IsPrivilege, label_text, privilege_text, value_text, List, [], ap, append_assoc, codes, decimal, map, refl, subst, sym, true, ℕ, ◌++◌, ◌<◌, ◌^◌, ◌∙◌, ◌∷◌, ◌≡◌, flat_map-append, recursion_from_All, AllByRecursion, Avoids-text}
use Rattle.df_label.specs.declared.privilege.Privilege.{Privilege}
use Rattle.df_lines.proofs.Rows.{IsFed}
use Rattle.df_unit.specs.declared.reply.Reply.TheVariants as reply
use Rattle.df_script_text.proofs.Calls.{Avoids-call}

-- a line of words with its line feed
fed_words : (mark : List ℕ) (words : List (List ℕ)) → is_word mark ≡ true → AllByRecursion (Avoids 10) words → IsFed ((mark ++ spaced words) ++ 10 ∷ [])
fed_words mark words is free = record { line = mark ++ spaced words; free = Avoids-line mark words (IsLine-word mark is) free; is = refl }

-- words of privileges have no line feed
IsLine-privileges : (ps : List Privilege) → ArePrivileges ps → AllByRecursion (Avoids 10) (map privilege_text ps)
IsLine-privileges ps f = Avoids-words (map privilege_text ps) (AreWords-privileges ps (recursion_from_All IsPrivilege ps f.0))

-- nor has the word of a label
IsLine-label : (label : Label) → IsLabel label → IsLine (label_text label)
IsLine-label label f = IsLine-word (label_text label) (is_word-label label f)

-- a part behind a mark
pub part_feeds : (mark : List ℕ) → is_word mark ≡ true → (part : Part) → IsPart part → IsFed (part_line mark part)
part_feeds mark is part f =
    fed_words mark (label_text part.label ∷ part.name ∷ value_text part.value ∷ map privilege_text part.privileges) is
    (search (IsLine-label, IsLine-word, is_word-name, IsLine-value, IsLine-privileges, f))

-- what a read shows
pub shown_feeds : (part : PartRead) → IsPartRead part → IsFed (read_line part)
shown_feeds part f =
    fed_words (codes ":") (label_text part.label ∷ value_text part.value ∷ map privilege_text part.privileges) refl
    (IsLine-label part.label f.0, (IsLine-value part.value f.1, IsLine-privileges part.privileges f.2))

-- a deletion
pub spot_feeds : (spot : Spot) → IsSpot spot → IsFed (spot_line spot)
spot_feeds spot f =
    fed_words (codes "-") (label_text spot.label ∷ spot.name ∷ []) refl
    (IsLine-label spot.label f.1, (IsLine-word spot.name (is_word-name spot.name f.0), tt))

-- a contamination that is noted
pub note_feeds : (label : Label) → IsLabel label → IsFed (note_line label)
note_feeds label f = fed_words (codes "@") (label_text label ∷ []) refl (IsLine-label label f, tt)

-- an event is a word
event_word : (event : EventName) → IsEvent event → is_word (event_text event) ≡ true
event_word event f =
    let unit = unit_text event.unit in
    is_word-append (unit ++ codes "!") (decimal event.number) (is_word-append unit (codes "!") (is_word-actor event.unit f.0) refl)
    (number_word event.number f.1)

-- an event behind a mark
pub event_feeds : (mark : List ℕ) → is_word mark ≡ true → (event : EventName) → IsEvent event → IsFed (event_line mark event)
event_feeds mark is event f = fed_words mark (event_text event ∷ []) is (IsLine-word (event_text event) (event_word event f), tt)

-- a number's word has no line feed
IsLine-number : (n : ℕ) → n < 2 ^ 32 → IsLine (decimal n)
IsLine-number n small = IsLine-word (decimal n) (number_word n small)

-- the words of a reply have no line feed
IsLine-reply : (r : Reply) → IsReply r → AllByRecursion (Avoids 10) (reply_words r)
IsLine-reply (reply.Handle h) f = (Avoids-text (codes "handle") refl, (IsLine-number h f, tt))
IsLine-reply _ f = search (Avoids-text, IsLine-word, IsLine-label, IsLine-number, is_word-tag, is_word-decimal, is_word-privilege, f) parts 6

-- what a call's line tells, and the line
abbrev pub CallTold : Type 0
CallTold = UnitName × Call × Reply

-- the line
abbrev pub told_line : CallTold → List ℕ
told_line c = call_line c.0 c.1 c.2

-- a call with its reply
pub call_feeds : (c : CallTold) → IsCalled c → IsFed (told_line c)
call_feeds c f =
    let front : List ℕ = unit_text c.0 ++ spaced (call_words c.1) in
    let answer : List (List ℕ) = codes "->" ∷ reply_words c.2 in
    let called : IsLine front = Avoids-call (record { actor = c.0; call = c.1 }) (f.0, f.1) in
    let whole : front ++ spaced answer ≡ unit_text c.0 ++ spaced (call_words c.1 ++ answer) =
    append_assoc (unit_text c.0) (spaced (call_words c.1)) (spaced answer)
    ∙ ap (λ (u : List ℕ). unit_text c.0 ++ u) (sym (flat_map-append word (call_words c.1) answer)) in
    record {
      line = unit_text c.0 ++ spaced (call_words c.1 ++ answer);
      free = subst IsLine whole (Avoids-line front answer called (Avoids-text (codes "->") refl, IsLine-reply c.2 f.2.0));
      is = refl;
    }
