-- What the readers of lines with a value answer.
use Rattle.df_journal_text.proofs.Names.{◌≡◌, ℕ, true, List, [], ◌∷◌, ◌++◌, map, Ok, codes, refl, sym, ap, subst, ◌∙◌, append_assoc, append-nil, inl, flat_map-append, recursion_from_All, Read, behind_at, is_name, Label, Privilege, Part, Call, UnitName, PartRead, Reply, IsLabel, IsPrivilege, IsValue, label_text, privilege_text, label_at, name_at, value_at, EndsWord, value_back, call_words, call_line, part_line, read_line, ArePrivileges, IsAnswer, IsBare, IsCall, IsCalled, IsPart, IsPartRead, IsUnit, IsLargeCall, IsLargeWord, spaced, word, unit_text, call_at, unit_at, reply_at, named_at, privileges_at, word_at, reply_words, EndsCall, answer_at, call_text, ended, reply_text}
use Rattle.df_unit.specs.declared.reply.Reply.TheVariants as reply
use Rattle.df_journal_text.proofs.Appends.{part_apart, shown_apart}
use Rattle.df_journal_text.proofs.CallBacks.{call_back}
use Rattle.df_journal_text.proofs.CallFounds.{named_finds}
use Rattle.df_journal_text.proofs.CallTells.{call_apart}
use Rattle.df_journal_text.proofs.Founds.{Finds, finds_behind, finds_word, label_finds, privileges_finds, unit_finds}
use Rattle.df_journal_text.proofs.Frames.{Frame, Parted}
use Rattle.df_journal_text.proofs.NameBacks.{unit_word}
use Rattle.df_journal_text.proofs.ReplyBacks.{bare_of, reply_back}
use Rattle.df_journal_text.proofs.ReplyFounds.{reply_finds}
use Rattle.df_journal_text.proofs.StartBacks.{behind_back}
use Rattle.df_journal_text.proofs.ValueTells.{value_apart, value_word_text}
use Rattle.df_journal_text.proofs.WordBacks.{ends_spaced, label_word, name_word, privileges_back}

-- ---- calls

bare_is : (r : Reply) → IsBare r → bare_of r ≡ r
bare_is (reply.Parts parts) h = ap (λ (ps : List PartRead). reply.Parts ps) (sym h)
bare_is _ h = refl

-- what stands behind a call
abbrev pub answer_text : Reply → List ℕ
answer_text r = codes " ->" ++ reply_text r

pub called : Frame unit_text IsUnit EndsWord unit_at call_text IsCall EndsCall IsLargeCall call_at answer_text IsAnswer answer_at
called = record {
  front_found = unit_finds.found;
  front_back = unit_word.back;
  front_next = λ y z fy fz. ends_spaced (call_words y) (answer_text z) (inl refl);
  front_large = λ rest l. subst EndsWord (sym l.parts) (inl refl);
  middle_back = λ y rest fits next. call_back y rest fits next.0 next.1;
  middle_next = λ z fz. (inl refl, refl);
  apart = call_apart;
  tail_found = (finds_behind (codes " ->") reply_finds).found;
  tail_back = λ z fz.
      behind_back (codes " ->") reply_at (reply_text z) ∙ ap reply_at (sym (append-nil (reply_text z))) ∙ reply_back z [] fz.0 tt
      ∙ ap (λ (r : Reply). Ok (r, [])) (bare_is z fz.1);
}

pub called_line : (actor : UnitName) (call : Call) (r : Reply) → call_line actor call r ≡ ended (unit_text actor ++ (call_text call ++ answer_text r))
called_line actor call r =
    ap (λ (u : List ℕ). (unit_text actor ++ u) ++ 10 ∷ []) (flat_map-append word (call_words call) (codes "->" ∷ reply_words r))

-- ---- parts

abbrev pub privileges_text : List Privilege → List ℕ
privileges_text ps = spaced (map privilege_text ps)

privileges_end : (ps : List Privilege) → EndsWord (privileges_text ps)
privileges_end [] = tt
privileges_end (p ∷ ps) = inl refl

privileges_read : (ps : List Privilege) → ArePrivileges ps → privileges_at (privileges_text ps) ≡ Ok (ps, [])
privileges_read ps f = ap privileges_at (sym (append-nil (privileges_text ps))) ∙ privileges_back ps [] (recursion_from_All IsPrivilege ps f.0) f.1 tt refl

abbrev pub named_text : Label × List ℕ → List ℕ
named_text n = word (label_text n.0) ++ word n.1

abbrev pub IsNamed : Label × List ℕ → Type 0
IsNamed n = IsLabel n.0 × (is_name n.1 ≡ true)

named_back : (n : Label × List ℕ) (rest : List ℕ) → IsNamed n → EndsWord rest → named_at (named_text n ++ rest) ≡ Ok (n, rest)
named_back n rest fits end =
    let e1 : label_at (label_text n.0 ++ (word n.1 ++ rest)) ≡ Ok (n.0, word n.1 ++ rest) = label_word.back n.0 (word n.1 ++ rest) fits.0 (inl refl) in
    let e2 : name_at (n.1 ++ rest) ≡ Ok (n.1, rest) = name_word.back n.1 rest fits.1 end in
    ap named_at (append_assoc (word (label_text n.0)) (word n.1) rest) ∙ rw (e1, e2) refl

-- a value and privileges behind it
abbrev pub ValueFrame : {F : Type 0} → (F → List ℕ) → (F → Type 0) → (List ℕ → Read ℕ F) → Type 0
ValueFrame sf Ff rf = Frame sf Ff EndsWord rf value_word_text IsValue EndsWord IsLargeWord (word_at value_at) privileges_text ArePrivileges privileges_at

valued : {F : Type 0} {sf : F → List ℕ} {Ff : F → Type 0} {rf : List ℕ → Read ℕ F} → Finds sf Ff rf
    → ((x : F) (rest : List ℕ) → Ff x → EndsWord rest → rf (sf x ++ rest) ≡ Ok (x, rest)) → ValueFrame sf Ff rf
valued finds back = record {
  front_found = finds.found;
  front_back = back;
  front_next = λ y z fy fz. inl refl;
  front_large = λ rest l. subst EndsWord (sym l.parts) (inl refl);
  middle_back = λ p rest fits end. value_back p rest fits.0 end;
  middle_next = λ z fz. privileges_end z;
  apart = value_apart;
  tail_found = privileges_finds.found;
  tail_back = privileges_read;
}

pub part_frame : (mark : List ℕ) → ValueFrame (λ (n : Label × List ℕ). mark ++ named_text n) IsNamed (behind_at mark named_at)
part_frame mark = valued (finds_behind mark named_finds) (λ n rest fits end.
    ap (behind_at mark named_at) (append_assoc mark (named_text n) rest) ∙ behind_back mark named_at (named_text n ++ rest) ∙ named_back n rest fits end)

pub shown_frame : ValueFrame (λ (label : Label). codes ":" ++ word (label_text label)) IsLabel (behind_at (codes ":") (word_at label_at))
shown_frame = valued (finds_behind (codes ":") (finds_word label_finds)) (λ label rest fits end. label_word.back label rest fits end)

pub part_text : (mark : List ℕ) (part : Part)
    → part_line mark part ≡ ended ((mark ++ named_text (part.label, part.name)) ++ (value_word_text part.value ++ privileges_text part.privileges))
part_text mark part = part_apart mark (word (label_text part.label)) (word part.name) (value_word_text part.value) (privileges_text part.privileges) (10 ∷ [])

pub shown_text : (part : PartRead)
    → read_line part ≡ ended ((codes ":" ++ word (label_text part.label)) ++ (value_word_text part.value ++ privileges_text part.privileges))
shown_text part = shown_apart (codes ":") (word (label_text part.label)) (value_word_text part.value) (privileges_text part.privileges) (10 ∷ [])

-- ---- each line of three

pub called_parts : (w : UnitName × Call × Reply) → IsCalled w
    → Parted unit_text IsUnit call_text IsCall answer_text IsAnswer (λ (w : UnitName × Call × Reply). call_line w.0 w.1 w.2) IsCalled w
called_parts w f = record { front = w.0; middle = w.1; tail = w.2; front_fits = f.0; middle_fits = f.1; tail_fits = f.2; parts = called_line w.0 w.1 w.2 }

pub part_parts : (mark : List ℕ) (w : Part) → IsPart w
    → Parted (λ (n : Label × List ℕ). mark ++ named_text n) IsNamed value_word_text IsValue privileges_text ArePrivileges (part_line mark) IsPart w
part_parts mark w f = record
    { front = (w.label, w.name); middle = w.value; tail = w.privileges; front_fits = (f.1, f.0); middle_fits = f.2; tail_fits = f.3; parts = part_text mark w }

pub shown_parts : (w : PartRead) → IsPartRead w
    → Parted (λ (label : Label). codes ":" ++ word (label_text label)) IsLabel value_word_text IsValue privileges_text ArePrivileges read_line IsPartRead w
shown_parts w f = record { front = w.label; middle = w.value; tail = w.privileges; front_fits = f.0; middle_fits = f.1; tail_fits = f.2; parts = shown_text w }
