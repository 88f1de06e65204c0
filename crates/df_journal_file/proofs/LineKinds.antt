-- The kinds of lines of an entry, their first bytes, and their rows in the table.
use Rattle.df_journal_file.proofs.Names.{event_line, note_line, IsPartFront, IsValueFront, AddsFrom, BehindSome, CommitFrom, EditFrom, EffectFrom, EntriesFrom, GivenFrom, HandedFrom, called_line, part_text, shown_text, part_line, read_line, spot_line, ArePrivileges, IsCalled, IsEvent, IsPart, IsPartRead, IsSpot, IsLargeCalled, IsLargePart, IsLargeShown, word, unit_text, begins_pair, Label, Part, is_word, EventName, UnitName, Root, PartRead, Reply, IsLabel, IsPrivilege, IsValue, label_text, begins_with, begins_digit, value_text, Bool, List, [], ap, append_assoc, arith, codes, decimal, eqb, false, inl, inr, length, lit<, lit≤, pos, refl, subst, sym, true, ℕ, ◌++◌, ◌+◌, ◌∙◌, ◌∷◌, ◌≡◌, All-nil, is_ascii_digit, flat_map}
use Rattle.df_unit.specs.declared.call.Call.TheVariants.{AddPart}
use Rattle.df_unit.specs.declared.reply.Reply.TheVariants as reply
use Rattle.df_journal_file.specs.code.Marks.{IsCommitMark}
use Rattle.df_frozen.specs.Name.{is_name}
use Rattle.df_frozen.specs.Plain.{Plain, int}
use Rattle.df_journal_file.proofs.Feeds.{CallTold, event_feeds, part_feeds, shown_feeds, spot_feeds, told_line}
use Rattle.df_journal_file.proofs.Fronts.{IsFrontOf, add_front, and_false, digit_begins, is_call_front, is_front, pair_with}
use Rattle.df_journal_file.proofs.Opens.{AtHead, called_begins, none_left, opened}
use Rattle.df_lines.proofs.Rows.{IsRow, row_some}
use Rattle.df_journal_file.proofs.Rows.{IsKind, IsRun, bare_kind, run_row, then_row}

-- ---- first bytes

-- no mark stands in front of an end or an entry
head_begins : (has : Bool) (s : List ℕ) → AtHead has s → (m : ℕ) → is_ascii_digit m ≡ false → begins_pair m 32 s ≡ false
head_begins has s (inl (inl (inl e))) m none = ap (begins_pair m 32) e
head_begins has s (inl (inl (inr e))) m none = ap (begins_pair m 32) e.1 ∙ and_false (eqb 45 m)
head_begins has s (inl (inr t)) m none = ap (begins_pair m 32) t.4 ∙ and_false (eqb 101 m)
head_begins has s (inr d) m none = (digit_begins m s (ap begins_digit d.4 ∙ called_begins d.0 d.1 d.2) none).1

pub entries_begin : (has : Bool) (s : List ℕ) → EntriesFrom has s → (m : ℕ) → is_ascii_digit m ≡ false → begins_pair m 32 s ≡ false
entries_begin has s t m none = head_begins has s (opened has s t) m none

-- nor another than those of effects in front of an effect
pub effect_begins : (has : Bool) (r : Reply) (s : List ℕ) → EffectFrom has r s → (m : ℕ) → is_ascii_digit m ≡ false → eqb 61 m ≡ false → eqb 60 m ≡ false
    → begins_pair m 32 s ≡ false
effect_begins has r s (inl t) m none a b = entries_begin has s t m none
effect_begins has r s (inr (inl t)) m none a b = ap (begins_pair m 32) t.4 ∙ rw a refl
effect_begins has r s (inr (inr t)) m none a b = ap (begins_pair m 32) t.1.4 ∙ rw b refl

-- nor a deletion in front of additions
pub adds_begin : (has : Bool) (n : ℕ) (s : List ℕ) → AddsFrom has n s → begins_pair 45 32 s ≡ false
adds_begin has n s t = none t.0 t.1 t.3 t.4
  where
    none : (xs : List Part) (rest : List ℕ) → BehindSome (EntriesFrom has) (n + length xs) rest → s ≡ flat_map (part_line (codes "+")) xs ++ rest
        → begins_pair 45 32 s ≡ false
    none [] rest r e = ap (begins_pair 45 32) e ∙ entries_begin has rest r.1 45 refl
    none (x ∷ xs) rest r e = ap (begins_pair 45 32) e

-- ---- what fits

-- a label without tags
pub no_label : Label
no_label = record { s = []; i = [] }

pub label_fits : IsLabel no_label
unfolding no_label
label_fits = ((tt, tt), (tt, tt))

-- no privileges
no_privileges : ArePrivileges []
no_privileges = (All-nil IsPrivilege, tt)

-- a value
abbrev pub zero_value : Plain
zero_value = int (pos 0)

pub zero_fits : IsValue zero_value
zero_fits = (lit< tt, record { nodes = lit≤ tt; bytes = lit≤ tt; flat = lit≤ tt })

-- a part with this label and name
abbrev pub part_with : Label → List ℕ → Part
part_with label name = record { name = name; label = label; value = zero_value; privileges = [] }

pub part_fits : (label : Label) (name : List ℕ) → IsLabel label → is_name name ≡ true → IsPart (part_with label name)
part_fits label name f h = (h, f, zero_fits, no_privileges)

-- what a read shows of such a part
abbrev pub read_with : Label → PartRead
read_with label = record { label = label; value = zero_value; privileges = [] }

pub read_fits : (label : Label) → IsLabel label → IsPartRead (read_with label)
read_fits label f = (f, zero_fits, no_privileges)

-- an event
abbrev pub an_event : EventName
an_event = record { unit = Root (0 ∷ []); number = 0 }

pub event_fits : IsEvent an_event
event_fits = ((lit< tt, tt), lit< tt)

-- the last word of a line, and its end
abbrev zero_word : List ℕ
zero_word = (word (value_text zero_value) ++ []) ++ 10 ∷ []

-- ---- one line

-- a contamination that is noted
pub note_kind : IsKind note_line IsLabel (λ _. ⊥)
note_kind = bare_kind 64 (λ front no. no) (λ label u. refl)

-- an event that is handed over
pub handed_kind : IsKind (event_line (codes "<")) IsEvent (λ _. ⊥)
handed_kind = bare_kind 60 (λ front no. no) (λ event u. refl)

-- the event of a commit, by a call or by the world
pub commit_kind : (mark : List ℕ) → IsCommitMark mark → IsKind (event_line mark) IsEvent (λ _. ⊥)
commit_kind mark (inl e) = subst (λ (m : List ℕ). IsKind (event_line m) IsEvent (λ _. ⊥)) (sym e)
    (bare_kind 61 (λ front no. no) (λ event u. refl))
commit_kind mark (inr e) = subst (λ (m : List ℕ). IsKind (event_line m) IsEvent (λ _. ⊥)) (sym e)
    (bare_kind 101 (λ front no. no) (λ event u. refl))

-- words behind one another, and a rest
five_words : (u a h l n rest : List ℕ) → (u ++ (a ++ (h ++ (l ++ n)))) ++ rest ≡ u ++ (a ++ (h ++ (l ++ (n ++ rest))))
five_words u a h l n rest = simp append_assoc

-- words of a call in other groups
add_group : (u a h l n v w f : List ℕ) → (u ++ ((a ++ (h ++ (l ++ (n ++ v)))) ++ w)) ++ f ≡ (u ++ (a ++ (h ++ (l ++ n)))) ++ ((v ++ w) ++ f)
add_group u a h l n v w f = simp append_assoc

-- a call that adds a part, and is answered `ok`
abbrev add_call : UnitName → ℕ → Label × List ℕ → CallTold
add_call actor h n = (actor, AddPart h n.0 n.1 zero_value, reply.Ok)

-- a call with its reply
pub called_kind : IsKind told_line IsCalled IsLargeCalled
called_kind = record {
  small = λ c f u front more rest w e l.
      let p = is_call_front front more w (ap begins_digit e ∙ called_begins c u f) in
      let n = p.2 in
      let named : List ℕ = word (label_text n.0) ++ (word n.1 ++ rest) in (
        p.0,
        word (codes "add") ++ (word (decimal p.1) ++ named),
        p.3,
        ap (λ (f : List ℕ). f ++ rest) p.6
            ∙ five_words (unit_text p.0) (word (codes "add")) (word (decimal p.1)) (word (label_text n.0)) (word n.1) rest,
        record {
          h = p.1;
          rest = named;
          parts = refl;
          small = p.4;
          large = record { label = n.0; name = n.1; rest = rest; parts = refl; label_fits = p.5.0; name_fits = p.5.1; large = l };
        },
      );
  large = λ bad l.
      let call = l.4 in
      let named = call.large in
      let n : Label × List ℕ = (named.label, named.name) in
      let words = call.parts ∙ ap (λ (u : List ℕ). word (codes "add") ++ (word (decimal call.h) ++ u)) named.parts in
      let five = five_words (unit_text l.0) (word (codes "add")) (word (decimal call.h)) (word (label_text n.0)) (word n.1) named.rest in
      record {
        front = add_front l.0 call.h n;
        rest = named.rest;
        parts = l.3 ∙ ap (λ (u : List ℕ). unit_text l.0 ++ u) words ∙ sym five;
        wanting = inl (l.0, call.h, n, l.2, call.small, (named.label_fits, named.name_fits), refl);
        large = named.large;
        item = add_call l.0 call.h n;
        fits = (l.2, (call.small, named.label_fits, named.name_fits, zero_fits), (tt, tt));
        more = ((word (value_text zero_value) ++ []) ++ (codes " ->" ++ word (codes "ok"))) ++ 10 ∷ [];
        is = called_line l.0 (AddPart call.h n.0 n.1 zero_value) reply.Ok
            ∙ add_group (unit_text l.0) (word (codes "add")) (word (decimal call.h)) (word (label_text n.0)) (word n.1) (word (value_text zero_value) ++ [])
            (codes " ->" ++ word (codes "ok")) (10 ∷ []);
      };
}

-- ---- as many lines as there are

module _ (has : Bool) where
  -- what a commit deletes
  pub spots_run : IsRun spot_line IsSpot 45 (λ _. ⊥) (AddsFrom has)
  spots_run = record {
    feeds = spot_feeds;
    kind = bare_kind 45 (λ front no. no) (λ spot u. refl);
    free = refl;
    marks = λ spot u. refl;
    ends = adds_begin has;
    some = λ n. ([], ([], [], All-nil IsPart, (omega arith, none_left has [] (inl refl)), refl));
    one = (record { name = codes "a"; label = no_label }, (refl, label_fits));
  }

  -- parts behind a mark, which tells them from other values
  part_run : (mark : ℕ) → is_word (mark ∷ []) ≡ true → eqb 10 mark ≡ false → is_ascii_digit mark ≡ false
      → ((part : Part) (u : List ℕ) → begins_pair mark 32 (part_line (mark ∷ []) part ++ u) ≡ true)
      → ((front : List ℕ) → IsFrontOf mark front → IsPartFront (mark ∷ []) front) → ((front : List ℕ) → IsPartFront (mark ∷ []) front → IsValueFront front)
      → IsRun (part_line (mark ∷ [])) IsPart mark (IsLargePart (mark ∷ [])) (BehindSome (EntriesFrom has))
  part_run mark one free digit marks is wanting = record {
    feeds = part_feeds (mark ∷ []) one;
    kind = record {
      small = λ part f u front more rest w e l.
          let p = is front (is_front mark front more w (ap (begins_with mark) e ∙ pair_with mark (part_line (mark ∷ []) part ++ u) (marks part u))) in
          (p.0, rest, p.1, ap (λ (f : List ℕ). f ++ rest) p.2, l);
      large = λ bad l. record {
        front = (mark ∷ []) ++ (word (label_text l.0.0) ++ word l.0.1);
        rest = l.1;
        parts = l.3;
        wanting = wanting _ (l.0, l.2, refl);
        large = l.4;
        item = part_with l.0.0 l.0.1;
        fits = part_fits l.0.0 l.0.1 l.2.0 l.2.1;
        more = zero_word;
        is = part_text (mark ∷ []) (part_with l.0.0 l.0.1) ∙ append_assoc ((mark ∷ []) ++ (word (label_text l.0.0) ++ word l.0.1)) _ (10 ∷ []);
      };
    };
    free = free;
    marks = marks;
    ends = λ n u t. entries_begin has u t.1 mark digit;
    some = λ n. ([], (omega arith, none_left has [] (inl refl)));
    one = (part_with no_label (codes "a"), part_fits no_label (codes "a") label_fits refl);
  }

  -- what it adds
  pub adds_run : IsRun (part_line (codes "+")) IsPart 43 (IsLargePart (codes "+")) (BehindSome (EntriesFrom has))
  adds_run = part_run 43 refl refl refl (λ part u. refl) (λ front p. p) (λ front p. inr (inr (inl p)))

  -- the parts of an event that is handed over
  pub given_run : IsRun (part_line (codes ".")) IsPart 46 (IsLargePart (codes ".")) (BehindSome (EntriesFrom has))
  given_run = part_run 46 refl refl refl (λ part u. refl) (λ front p. p) (λ front p. inr (inr (inr p)))

  -- what a read shows
  pub read_run : IsRun read_line IsPartRead 58 IsLargeShown (BehindSome (EffectFrom has (reply.Parts [])))
  read_run = record {
    feeds = shown_feeds;
    kind = record {
      small = λ part f u front more rest w e l.
          let s = is_front 58 front more w (ap (begins_with 58) e) in
          (s.0, rest, s.1, ap (λ (f : List ℕ). f ++ rest) s.2, l);
      large = λ bad l. record {
        front = codes ":" ++ word (label_text l.0);
        rest = l.1;
        parts = l.3;
        wanting = inr (inl (l.0, l.2, refl));
        large = l.4;
        item = read_with l.0;
        fits = read_fits l.0 l.2;
        more = zero_word;
        is = shown_text (read_with l.0) ∙ append_assoc (codes ":" ++ word (label_text l.0)) _ (10 ∷ []);
      };
    };
    free = refl;
    marks = λ part u. refl;
    ends = λ n u t. effect_begins has (reply.Parts []) u t.1 58 refl refl refl;
    some = λ n. ([], (omega arith, inl (none_left has [] (inl refl))));
    one = (read_with no_label, read_fits no_label label_fits);
  }

  -- a commit
  pub commit_row : (mark : List ℕ) → IsCommitMark mark → IsRow (event_line mark) IsEvent (CommitFrom has mark) (λ _. EditFrom has 0) (λ _. ⊥)
  commit_row mark is =
      let one : is_word mark ≡ true = elim is [ inl e ↦ ap is_word e | inr e ↦ ap is_word e ] in
      then_row (event_line mark) IsEvent (EditFrom has 0) (event_feeds mark one) an_event event_fits (row_some (run_row spots_run 0))

  -- an event that is handed over
  pub handed_row : IsRow (event_line (codes "<")) IsEvent (HandedFrom has) (λ _. GivenFrom has 0) (λ _. ⊥)
  handed_row =
      then_row (event_line (codes "<")) IsEvent (GivenFrom has 0) (event_feeds (codes "<") refl) an_event event_fits (row_some (run_row given_run 0))
