use Rattle.df_journal_text.proofs.Names.{drop, sym, ◌∙◌, failed_is, fails_by}
use Rattle.df_journal_text.proofs.Units.{instance_read, instance_stops, root_read}
use Rattle.df_journal_text.proofs.name_reader.unit_at.Goals as goal

pub returns-then-not-byte_stands : goal.returns-then-not-byte_stands
returns-then-not-byte_stands c = (
  c.in_ok-owner.ensures.0,
  root_read (drop c.args.at c.args.bytes.now) c.in_ok-owner.owner (drop c.in_ok-owner.place c.args.bytes.now) c.in_ok-owner.ensures.1
      (sym c.byte_stands.ensures ∙ c.if-not-byte_stands.true),
)

pub returns-in_err-sub : goal.returns-in_err-sub
returns-in_err-sub c =
    rw (failed_is _ c.from_residual-in_err-sub.ensures.1) (fails_by c.in_err-sub.field-0.0 c.args.bytes.now _ _
    (instance_stops (drop c.args.at c.args.bytes.now) c.in_ok-owner.owner (drop c.in_ok-owner.place c.args.bytes.now) c.in_ok-owner.ensures.1
    (sym c.byte_stands.ensures ∙ c.if-not-byte_stands.false)) c.in_err-sub.ensures)

pub returns : goal.returns
returns c = (
  c.in_ok-sub.ensures.0,
  instance_read (drop c.args.at c.args.bytes.now) c.in_ok-owner.owner (drop c.in_ok-owner.place c.args.bytes.now) c.in_ok-owner.ensures.1
      (sym c.byte_stands.ensures ∙ c.if-not-byte_stands.false) c.in_ok-sub.sub c.in_ok-sub.s (drop c.in_ok-sub.end c.args.bytes.now) c.in_ok-sub.ensures.1,
)
