use Rattle.df_journal_file.proofs.Names.{◌≡◌, IfErr, false, subst, sym, true, ◌∙◌, CursorState, HasPassed, IsJournalOf, journal_by, EntriesFrom, StopsIn}
use Rattle.df_journal_file.proofs.Texts.{all_read, passed_on}
use Rattle.df_journal_file.proofs.Ontos.{stopped}
use Rattle.df_journal_file.proofs.cursor.JournalCursor.next_entry.Goals as goal

pub returns-then-is_end-clause-next : goal.returns-then-is_end-clause-next
returns-then-is_end-clause-next c = λ roots notes h.
    subst (λ (v : CursorState). IsJournalOf (journal_by v.has_notes roots notes) v.bytes) c.self.view_is
    (all_read _ _ roots notes _ (subst (HasPassed roots notes) (sym c.self.view_is) h) (c.is_end.ensures.0 c.if-is_end.true))

pub returns-in_err-noted-clause-stops : goal.returns-in_err-noted-clause-stops
returns-in_err-noted-clause-stops c =
    let stops = c.in_err-noted.ensures.stops (λ ends. let no : true ≡ false = sym (c.is_end.ensures.1 ends) ∙ c.if-is_end.false in cc) in
    subst (λ (v : CursorState). IfErr c.from_residual.result (StopsIn (EntriesFrom v.has_notes) v.bytes v.place)) c.self.view_is
    (stopped _ _ c.from_residual.ensures.1 stops)

pub returns-clause-next : goal.returns-clause-next
returns-clause-next c = λ roots notes h.
    passed_on _ _ roots notes _ _ _ (subst (HasPassed roots notes) (sym c.self.view_is) h) c.in_ok-noted.ensures.read
