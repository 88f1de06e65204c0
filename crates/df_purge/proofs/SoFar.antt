-- A purge, as far as it has come.
use Rattle.df_purge.proofs.Names.{◌≡◌, Bool, true, false, ℕ, List, ◌∷◌, ◌++◌, ◌+◌, ◌<◌, ◌≤◌, Option, Some, None, length, take, drop, get_or, reverse, refl, ap, sym, subst, ◌∙◌, drop_more, reverse-append, take_all, take-append-drop, Label, firsts, AgreesWith, purge_keeps, purge_legal, row_laws, commit_of, own, Keeps, echo, emitted, left_of, purge, stays, rows, begun, RootStart, Commit, Entry, Done, Emitted, contamination_of, entry_for, replayed, is_noted_within}
use Rattle.df_machine.specs.declared.tables.Tables.{Tables}
use Rattle.df_rules.proofs.Exercised.{exercised}
use Rattle.df_rules.proofs.Places.{legal_at, legal_before}
use Rattle.df_rules.proofs.ReleaseLaws.{row_release_laws}
use Rattle.df_rules.specs.Legal.{Legal}
use Rattle.std.specs.Prelude.{map}
use Rattle.df_replay.proofs.Replayed.{reversed_more}
use Rattle.df_replay.proofs.Right.{right_is}
use Rattle.df_purge.proofs.ByNotes.{same_within}
use Rattle.df_purge.specs.Purged.{EmitsByPrivileges}

-- the tables are those of what was kept so far, and what stays of it stands there
pub record IsSoFar (begin : List RootStart) (label : Label) (journal : List Entry) (i : ℕ) (tables : Tables) (left : List Entry) : Type 0 where
  pub made : AgreesWith (begin, reverse (take i journal)) tables
  pub purged : reverse left ≡ purge rows (firsts begin) label (reverse (take i journal))

-- of an entry at most one stays
emitted_reversed : (c : Option Commit) → reverse (emitted c) ≡ emitted c
emitted_reversed None = refl
emitted_reversed (Some c) = refl

left_reversed : (label : Label) (stays : Bool) (e : Entry) → reverse (left_of label stays e) ≡ left_of label stays e
left_reversed label true e = refl
left_reversed label false e = emitted_reversed (echo label (commit_of e))

module _ (begin : List RootStart) (label : Label) (journal : List Entry) where
  -- an entry of a legal journal is the one that the rules give
  pub right_here : Legal rows (firsts begin) (reverse journal) → (i : ℕ) (d : Entry) → i < length journal → entry_for (begin, reverse (take i journal)) (get_or journal i d) ≡ get_or journal i d
  right_here legal i d inside =
      right_is begin (reverse (take i journal)) (get_or journal i d)
      (legal_at rows (firsts begin) journal legal (take i journal) (drop (i + 1) journal) (get_or journal i d)
      (sym (take-append-drop i journal) ∙ ap (λ (l : List Entry). take i journal ++ l) (drop_more journal i d inside)))

  -- a unit is within a label where the contamination before its entry is
  noted_stays : (past : List Entry) (e : Entry) → is_noted_within label (contamination_of (begin, past) e) ≡ stays rows (firsts begin) label past e
  noted_stays past (Done u c r f) = same_within begin label (own rows (firsts begin) past u)
  noted_stays past (Emitted k) = refl

  pub so_far_more : Legal rows (firsts begin) (reverse journal) → (i : ℕ) (d : Entry) (old new : Tables) (note : Option Label) (before now : List Entry)
      → i < length journal → IsSoFar begin label journal i old before → note ≡ contamination_of (begin, reverse (take i journal)) (get_or journal i d)
      → now ≡ before ++ left_of label (is_noted_within label note) (get_or journal i d)
      → AgreesWith (replayed (begin, reverse (take i journal)) (get_or journal i d)) new → IsSoFar begin label journal (i + 1) new now
  so_far_more legal i d old new note before now inside so is pushed made =
      let past = reverse (take i journal) in
      let kept = get_or journal i d in
      let more = sym (reversed_more journal i d inside) in
      let stay = stays rows (firsts begin) label past kept in
      record {
        made = subst (λ (p : List Entry). AgreesWith (begin, p) new) (ap (λ (e : Entry). e ∷ past) (right_here legal i d inside) ∙ more) made;
        purged =
            ap (reverse {A = Entry})
            (pushed ∙ ap (λ (b : Bool). before ++ left_of label b kept) (ap (is_noted_within label) is ∙ noted_stays past kept))
            ∙ reverse-append before (left_of label stay kept)
            ∙ ap (λ (l : List Entry). l ++ reverse before) (left_reversed label stay kept)
            ∙ ap (λ (l : List Entry). left_of label stay kept ++ l) so.purged
            ∙ ap (purge rows (firsts begin) label) more;
      }

  pub so_far_all : (i : ℕ) (tables : Tables) (left : List Entry) → length journal ≤ i → IsSoFar begin label journal i tables left → reverse left ≡ purge rows (firsts begin) label (reverse journal)
  so_far_all i tables left done so = so.purged ∙ ap (λ (j : List Entry). purge rows (firsts begin) label (reverse j)) (take_all i journal done)

  module _ (left : List Entry) (same : reverse left ≡ purge rows (firsts begin) label (reverse journal)) where
    pub left_legal : Legal rows (firsts begin) (reverse journal) → Legal rows (firsts begin) (reverse left)
    left_legal legal = subst (Legal rows (firsts begin)) (sym same) (purge_legal rows (firsts begin) (row_laws (map begun begin)) label (reverse journal) legal)

    pub left_keeps : Keeps rows (firsts begin) label (reverse journal) (reverse left)
    left_keeps = subst (Keeps rows (firsts begin) label (reverse journal)) (sym same) (purge_keeps rows (firsts begin) (row_laws (map begun begin)) label (reverse journal))

  pub by_privileges : Legal rows (firsts begin) (reverse journal) → EmitsByPrivileges (firsts begin) label (reverse journal)
  by_privileges legal newer older u call r f k same h =
      exercised rows (firsts begin) (row_laws (map begun begin)) (row_release_laws (map begun begin)) label older u call r f k (legal_before rows (firsts begin) (reverse journal) legal newer (Done u call r f ∷ older) same) h
