use Rattle.df_journal_text.proofs.Names.{drop, sym, ◌∙◌, failed_is, fails_by}
use Rattle.df_journal_text.proofs.Loops.{all_done, all_failed, all_read, front_nil}
use Rattle.df_journal_text.proofs.Words.{several_privileges}
use Rattle.df_journal_text.proofs.word_reader.each_privilege_at.Goals as goal

pub returns-in_err-privilege : goal.returns-in_err-privilege
returns-in_err-privilege c =
    rw (failed_is _ c.from_residual.ensures.1) (fails_by c.in_err-privilege.field-0.0 c.args.bytes.now _ _
    (λ stop e. sym (front_nil _) ∙ all_failed several_privileges c.words.privileges.items (drop c.words.place c.args.bytes.now) _ c.words.invariant.0 stop
    (sym c.privilege_stands.ensures ∙ c.words-test.true) e) c.in_err-privilege.ensures.exact)

pub words-preserved : goal.words-preserved
words-preserved c = (
  all_read several_privileges c.words.privileges.items (drop c.words.place c.args.bytes.now) _ c.words.invariant.0 c.push.new.self.items
      c.in_ok-privilege.privilege (drop c.in_ok-privilege.after c.args.bytes.now) (sym c.privilege_stands.ensures ∙ c.words-test.true)
      c.in_ok-privilege.ensures.exact.1 c.in_ok-push.ensures.items,
  c.in_ok-privilege.ensures.exact.0,
)

pub returns : goal.returns
returns c = (
  c.words.invariant.1,
  sym (front_nil _) ∙ all_done several_privileges c.words.privileges.items (drop c.words.place c.args.bytes.now) _ c.words.invariant.0
      (sym c.privilege_stands.ensures ∙ c.words-test.false),
)
