use Rattle.df_journal_text.proofs.Names.{drop, subst, sym, ◌∙◌, true≢false, IsAscending, privilege_cmp}
use Rattle.df_journal_text.proofs.Words.{privileges_low, privileges_made}
use Rattle.df_journal_text.proofs.word_reader.privileges_at.Goals as goal

pub returns-then-not-are_ascending : goal.returns-then-not-are_ascending
returns-then-not-are_ascending
    c = (
      c.requires,
      privileges_low (drop c.args.at c.args.bytes.now) c.in_ok-privileges.privileges.items (drop c.in_ok-privileges.end c.args.bytes.now)
          c.in_ok-privileges.ensures.1
          (λ a. true≢false (sym (c.are_ascending.ensures.1 (subst (IsAscending privilege_cmp) (sym c.as_slice.ensures.value) a))
          ∙ c.if-not-are_ascending.true)),
    )

pub returns : goal.returns
returns c = (
  c.in_ok-privileges.ensures.0,
  privileges_made (drop c.args.at c.args.bytes.now) c.in_ok-privileges.privileges.items
      c.in_ok-from_ascending.field-0 (drop c.in_ok-privileges.end c.args.bytes.now) c.in_ok-privileges.ensures.1
      (subst (IsAscending privilege_cmp) c.as_slice.ensures.value (c.are_ascending.ensures.0 c.if-not-are_ascending.false)) c.in_ok-from_ascending.ensures,
)
