-- What is told of a journal whose notes are known.
use Rattle.df_audit.proofs.Names.{◌≡◌, ℕ, List, Result, Ok, Err, IfOk, reverse, ap, sym, subst, ◌∙◌, Label, firsts, Legal, purge, rows, RootStart, Entry, Noted, AreRight, noted, past_of, noted_past, right_notes, journal_text, First, Journal, Second, IsPurgeOf, IsRightJournal, IsUpgradeOf, IsWrongAt, Purges, Upgrades, past_in, roots_in, Audit, Finding, Right}
use Rattle.df_audit.specs.code.Noting.{IsNotedOf}
use Rattle.df_audit.specs.declared.right.Noting.{Noting}
use Rattle.df_audit.specs.declared.right.Noting.TheVariants as noting
use Rattle.df_audit.proofs.Sound.{legal_is_sound, legal_separates}

-- the journal is right, and these are its roots and its notes
pub record IsKnown (journal : Journal) (start : List RootStart) (notes : List Noted) : Type 0 where
  pub same : start ≡ roots_in journal
  pub right : IsRightJournal journal
  pub are : AreRight start notes
  pub past : past_of notes ≡ past_in journal

abbrev pub Knows : Journal → Noting → Type 0
Knows journal (noting.Noted start notes) = IsKnown journal start notes.items
Knows journal (noting.Wrong place) = IsWrongAt journal place

-- notes that are made are right
made_known : (roots start : List RootStart) (past : List Entry) (notes : List Noted) → start ≡ roots → Legal rows (firsts roots) past
    → notes ≡ noted roots past → AreRight start notes × (past_of notes ≡ past)
made_known roots start past notes same legal is = (
  subst (λ (r : List RootStart). AreRight r notes) (sym same) (subst (AreRight roots) (sym is) (right_notes roots past legal)),
  ap past_of is ∙ noted_past roots past,
)

pub knows : (journal : Journal) (n : Noting) → IsNotedOf journal n → Knows journal n
knows (First roots entries) (noting.Noted start notes) h =
    let made = made_known roots start (reverse entries) notes.items h.0 h.1 h.2 in
    record { same = h.0; right = h.1; are = made.0; past = made.1 }
knows (First roots entries) (noting.Wrong place) h = h
knows (Second roots kept) (noting.Noted start notes) h =
    record {
      same = h.0;
      right = h.1;
      are = subst (λ (r : List RootStart). AreRight r notes.items) (sym h.0) (subst (AreRight roots) (sym h.2) h.1);
      past = ap
          past_of h.2;
    }
knows (Second roots kept) (noting.Wrong place) h = h

-- a right journal is legal
pub legal_in : (journal : Journal) → IsRightJournal journal → Legal rows (firsts (roots_in journal)) (past_in journal)
legal_in (First roots entries) right = right
legal_in (Second roots notes) right = right.legal

module _ (journal : Journal) (start : List RootStart) (notes : List Noted) (k : IsKnown journal start notes) where
  pub purge_told : (label : Label) (left : List Noted) (text : List ℕ) → left ≡ noted start (purge rows (firsts start) label (past_of notes))
      → text ≡ journal_text start left → IsPurgeOf label journal text
  purge_told label left text is told =
      let separates = legal_separates (roots_in journal) (past_in journal) (legal_in journal k.right) label in
      record {
        right = k.right;
        told =
            told
            ∙ ap (journal_text start) is
            ∙ ap (λ (p : List Entry). journal_text start (noted start (purge rows (firsts start) label p))) k.past
            ∙ ap (λ (s : List RootStart). journal_text s (noted s (purge rows (firsts s) label (past_in journal)))) k.same;
        separates = separates;
        sound = legal_is_sound (roots_in journal) (purge rows (firsts (roots_in journal)) label (past_in journal)) separates.legal;
      }

  pub upgrade_told : (text : List ℕ) → text ≡ journal_text start notes → IsUpgradeOf journal text
  upgrade_told text told =
      record {
        right = k.right;
        told =
            told
            ∙ ap (journal_text start) k.are.noted
            ∙ ap (λ (p : List Entry). journal_text start (noted start p)) k.past
            ∙ ap (λ (s : List RootStart). journal_text s (noted s (past_in journal))) k.same;
        sound = legal_is_sound (roots_in journal) (past_in journal) (legal_in journal k.right);
      }

  -- what is told, where there was memory
  pub purge_ok : {E : Type 0} (label : Label) (left : List Noted) (r : Result Audit E) → left ≡ noted start (purge rows (firsts start) label (past_of notes))
      → IfOk r (λ a. a.finding ≡ Right) → IfOk r (λ a. a.text.items ≡ journal_text start left) → IfOk r (λ a. Purges label journal a.finding a.text.items)
  purge_ok label left (Ok a) is found told = subst (λ (f : Finding). Purges label journal f a.text.items) (sym found)
      (purge_told label left a.text.items is told)
  purge_ok label left (Err e) is found told = found

  pub upgrade_ok : {E : Type 0} (r : Result Audit E) → IfOk r (λ a. a.finding ≡ Right) → IfOk r (λ a. a.text.items ≡ journal_text start notes)
      → IfOk r (λ a. Upgrades journal a.finding a.text.items)
  upgrade_ok (Ok a) found told = subst (λ (f : Finding). Upgrades journal f a.text.items) (sym found) (upgrade_told a.text.items told)
  upgrade_ok (Err e) found told = found
