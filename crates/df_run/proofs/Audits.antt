-- What an audit tells is what the command writes.
use Rattle.df_run.proofs.Names.{◌≡◌, ℕ, List, [], ◌∷◌, sym, subst, Explains, IsCheckOf, OfJournal, Purges, Upgrades, First, Journal, Second, Label, Command, Check, Purge, Upgrade, Why, IsText, end_of, End}
use Rattle.df_audit.specs.declared.audit.Finding.{Finding}
use Rattle.df_audit.specs.declared.audit.Finding.TheVariants.{Right, Wrong, NoPlace}

-- the text and the end that were handed on
same_text : (c : Command) (bytes : List ℕ) (d e : End) (text told : List ℕ) → IsText c (bytes ∷ []) d text → e ≡ d → told ≡ text → IsText c (bytes ∷ []) e told
same_text c bytes d e text told h end same = subst (λ (x : End). IsText c (bytes ∷ []) x told) (sym end) (subst (IsText c (bytes ∷ []) d) (sym same) h)

-- a check asks for no place
check_none : (journal : Journal) (count : ℕ) (text : List ℕ) → IsCheckOf journal (NoPlace count) text → ⊥
check_none (First start entries) count text h = h
check_none (Second start notes) count text h = h

check_ends : (journal : ℕ) (bytes : List ℕ) (finding : Finding) (text : List ℕ) → OfJournal bytes (λ j. IsCheckOf j finding text)
    → IsText (Check journal) (bytes ∷ []) (end_of finding) text
check_ends journal bytes Right text h = h
check_ends journal bytes (Wrong place) text h = h
check_ends journal bytes (NoPlace count) text h = absurd (check_none h.0 count text h.2)

purge_ends : (label : Label) (journal : ℕ) (bytes : List ℕ) (finding : Finding) (text : List ℕ) → OfJournal bytes (λ j. Purges label j finding text)
    → IsText (Purge label journal) (bytes ∷ []) (end_of finding) text
purge_ends label journal bytes Right text h = h
purge_ends label journal bytes (Wrong place) text h = h
purge_ends label journal bytes (NoPlace count) text h = absurd h.2

upgrade_ends : (journal : ℕ) (bytes : List ℕ) (finding : Finding) (text : List ℕ) → OfJournal bytes (λ j. Upgrades j finding text)
    → IsText (Upgrade journal) (bytes ∷ []) (end_of finding) text
upgrade_ends journal bytes Right text h = h
upgrade_ends journal bytes (Wrong place) text h = h
upgrade_ends journal bytes (NoPlace count) text h = absurd h.2

why_ends : (journal place : ℕ) (bytes : List ℕ) (finding : Finding) (text : List ℕ) → OfJournal bytes (λ j. Explains place j finding text)
    → IsText (Why journal place) (bytes ∷ []) (end_of finding) text
why_ends journal place bytes Right text h = h
why_ends journal place bytes (Wrong first) text h = h
why_ends journal place bytes (NoPlace count) text h = h

module _ (journal : ℕ) (bytes : List ℕ) (finding : Finding) (text : List ℕ) (e : End) (told : List ℕ) where
  pub check_given : OfJournal bytes (λ j. IsCheckOf j finding text) → e ≡ end_of finding → told ≡ text → IsText (Check journal) (bytes ∷ []) e told
  check_given h = same_text (Check journal) bytes (end_of finding) e text told (check_ends journal bytes finding text h)

  pub upgrade_given : OfJournal bytes (λ j. Upgrades j finding text) → e ≡ end_of finding → told ≡ text → IsText (Upgrade journal) (bytes ∷ []) e told
  upgrade_given h = same_text (Upgrade journal) bytes (end_of finding) e text told (upgrade_ends journal bytes finding text h)

  pub purge_given : (label : Label) → OfJournal bytes (λ j. Purges label j finding text) → e ≡ end_of finding → told ≡ text
      → IsText (Purge label journal) (bytes ∷ []) e told
  purge_given label h = same_text (Purge label journal) bytes (end_of finding) e text told (purge_ends label journal bytes finding text h)

  pub why_given : (place : ℕ) → OfJournal bytes (λ j. Explains place j finding text) → e ≡ end_of finding → told ≡ text
      → IsText (Why journal place) (bytes ∷ []) e told
  why_given place h = same_text (Why journal place) bytes (end_of finding) e text told (why_ends journal place bytes finding text h)
