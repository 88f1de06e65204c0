-- A journal that was read in one of its versions.
use Rattle.df_journal_file.proofs.Names.{ℕ, List, None, refl, subst, RootStart, Entry, Noted, First, IsEitherText, IsFirstOf, IsJournalOf, IsSecondOf, Journal, Second}
use Rattle.df_journal_file.proofs.Texts.{one_journal, text_of, version_of, wanted_text}

module _ (bytes : List ℕ) (journal : Journal) where
  pub either_text : IsJournalOf journal bytes → IsEitherText bytes
  either_text r = wanted_text None (version_of journal) bytes tt (text_of bytes journal r)

  pub either_first : (roots : List RootStart) (entries : List Entry) → IsJournalOf journal bytes → IsJournalOf (First roots entries) bytes
      → IsFirstOf roots entries journal
  either_first roots entries r s = subst (IsFirstOf roots entries) (one_journal bytes (First roots entries) journal s r) (refl, refl)

  pub either_second : (roots : List RootStart) (noted : List Noted) → IsJournalOf journal bytes → IsJournalOf (Second roots noted) bytes
      → IsSecondOf roots noted journal
  either_second roots noted r s = subst (IsSecondOf roots noted) (one_journal bytes (Second roots noted) journal s r) (refl, refl)
