-- What stays of a journal with the right notes is the purge, with the right notes.
use Rattle.df_purge.proofs.Names.{◌≡◌, Bool, true, false, if◌then◌else◌, List, [], ◌∷◌, ◌++◌, Option, Some, None, map, refl, ap, sym, subst, ◌∙◌, append-nil, flat_map, Label, contamination_in, firsts, purge_keeps, row_laws, commit_of, own, echo, emitted, is_within, left_of, purge, rows, begun, RootStart, Commit, Entry, Done, Emitted, AreRight, noted, noted_in, past_of, emitted_noted, is_noted_within, left_noted}
use Rattle.std.specs.Option.{option_map}
use Rattle.std.proofs.lemmas.Grind.{flat_map-append}
use Rattle.df_unit.specs.OwnState.{OwnState}
use Rattle.df_unit.specs.declared.entry.Noted.{Noted}
use Rattle.df_unit.specs.declared.name.UnitName.{UnitName}

module _ (begin : List RootStart) (label : Label) where
  abbrev left : List Entry → List Entry
  left past = purge rows (firsts begin) label past

  -- what is noted of a commit that stays
  noted_echo : (past : List Entry) (k : Option Commit) → noted begin past ++ emitted_noted k ≡ noted begin (emitted k ++ past)
  noted_echo past None = append-nil (noted begin past)
  noted_echo past (Some k) = refl

  -- a unit that is within the label has in the purge the contamination that it has in the journal
  same_note : (past : List Entry) (u : UnitName) (o : Option OwnState) → own rows (firsts begin) past u ≡ o → is_within label o ≡ true → contamination_in (begin, left past) u ≡ contamination_in (begin, past) u
  same_note past u None absent within = absurd (let no : ⊥ = cc in no)
  same_note past u (Some st) exists within =
      ap (option_map (λ (s : OwnState). s.contamination)) ((purge_keeps rows (firsts begin) (row_laws (map begun begin)) label past).same_own u st exists within ∙ sym exists)

  -- a note tells whether the unit is within the label
  pub same_within : (o : Option OwnState) → is_noted_within label (option_map (λ (s : OwnState). s.contamination) o) ≡ is_within label o
  same_within None = refl
  same_within (Some st) = refl

  -- an entry stays with its note, or what the label shows of its commit
  either_way : (past : List Entry) (e : Entry) (b : Bool) → (b ≡ true → noted_in (begin, left past) e ≡ noted_in (begin, past) e)
      → noted begin (left past) ++ (if b then noted_in (begin, past) e ∷ [] else emitted_noted (echo label (commit_of e))) ≡ noted begin (left_of label b e ++ left past)
  either_way past e true same = ap (λ (n : Noted). noted begin (left past) ++ n ∷ []) (sym (same refl))
  either_way past e false same = noted_echo (left past) (echo label (commit_of e))

  -- of one more entry stays what stays by the rules
  one_more : (past : List Entry) (e : Entry) → noted begin (left past) ++ left_noted label (noted_in (begin, past) e) ≡ noted begin (left (e ∷ past))
  one_more past (Done u c r f) =
      let e = Done u c r f in
      let o = own rows (firsts begin) past u in
      let same : is_within label o ≡ true → noted_in (begin, left past) e ≡ noted_in (begin, past) e = λ within.
      ap (λ (note : Option Label). let n : Noted = record { entry = e; contamination = note } in n) (same_note past u o refl within) in
      subst (λ (b : Bool). noted begin (left past) ++ (if b then noted_in (begin, past) e ∷ [] else emitted_noted (echo label (commit_of e))) ≡ noted begin (left (e ∷ past))) (sym (same_within o)) (either_way past e (is_within label o) same)
  one_more past (Emitted k) = noted_echo (left past) (echo label (Some k))

  purged_noted : (past : List Entry) → flat_map (left_noted label) (noted begin past) ≡ noted begin (left past)
  purged_noted [] = refl
  purged_noted (e ∷ past) =
      let n = noted_in (begin, past) e in
      flat_map-append (left_noted label) (noted begin past) (n ∷ [])
      ∙ ap (λ (ns : List Noted). ns ++ (left_noted label n ++ [])) (purged_noted past)
      ∙ ap (λ (ns : List Noted). noted begin (left past) ++ ns) (append-nil (left_noted label n))
      ∙ one_more past e

  -- what stays by the notes, where they are right
  pub purged_by_notes : (journal left_items : List Noted) → left_items ≡ flat_map (left_noted label) journal → AreRight begin journal → left_items ≡ noted begin (purge rows (firsts begin) label (past_of journal))
  purged_by_notes journal left_items is right = is ∙ ap (flat_map (left_noted label)) right.noted ∙ purged_noted (past_of journal)
