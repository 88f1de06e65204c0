use Rattle.df_filter_text.proofs.Names.{List, drop, length-drop, sym, ap, arith, length, ◌∙◌, Clause, begins_with}
use Rattle.std.proofs.lemmas.Bool.{true≢false}
use Rattle.df_format.proofs.Laws.{failed_is}
use Rattle.df_filter_text.proofs.Whole.{some_bytes, nothing_left, failed_only, failed_many, failed_refused, whole_is, fifth_stands, has_fifth, read_fits, read_is, bad_behind, none_whole}
use Rattle.df_filter_text.proofs.read.read_filter.Goals as goal

pub returns-then-is_empty-clause-only : goal.returns-then-is_empty-clause-only
returns-then-is_empty-clause-only c filter fits is = absurd (none_whole c.args.bytes.now filter (sym c.is_empty.ensures ∙ c.if-is_empty.true) fits is)

pub returns-in_err-filter-clause-only : goal.returns-in_err-filter-clause-only
returns-in_err-filter-clause-only c =
    rw (failed_is _ c.from_residual.ensures.1) (failed_only c.args.bytes.now c.in_err-filter.field-0.0 c.in_err-filter.ensures)

pub returns-in_err-filter-clause-many : goal.returns-in_err-filter-clause-many
returns-in_err-filter-clause-many c =
    rw (failed_is _ c.from_residual.ensures.1) (failed_many c.args.bytes.now c.in_err-filter.field-0.0 c.in_err-filter.ensures (List Clause))

pub returns-in_err-filter-clause-refused : goal.returns-in_err-filter-clause-refused
returns-in_err-filter-clause-refused c =
    rw (failed_is _ c.from_residual.ensures.1) (failed_refused c.args.bytes.now c.in_err-filter.field-0.0 (some_bytes c.args.bytes.now (sym c.is_empty.ensures
    ∙ c.if-is_empty.false)) c.in_err-filter.ensures)

pub returns-then-byte_stands-clause-only : goal.returns-then-byte_stands-clause-only
returns-then-byte_stands-clause-only c filter fits is =
    let none = (whole_is c.args.bytes.now c.in_ok-filter.ensures.1 filter fits is).1 in
    absurd (true≢false (sym (sym c.byte_stands.ensures ∙ c.if-byte_stands.true) ∙ ap (begins_with 38) none))

pub returns-then-byte_stands-clause-refused : goal.returns-then-byte_stands-clause-refused
returns-then-byte_stands-clause-refused c =
    has_fifth c.args.bytes.now (drop c.in_ok-filter.end c.args.bytes.now) c.in_ok-filter.ensures.1 (sym c.byte_stands.ensures ∙ c.if-byte_stands.true)

pub returns-then-end-bytes-clause-only : goal.returns-then-end-bytes-clause-only
returns-then-end-bytes-clause-only c filter fits is =
    let none = (whole_is c.args.bytes.now c.in_ok-filter.ensures.1 filter fits is).1 in
    absurd (omega (arith, ap length none, length-drop c.in_ok-filter.end c.args.bytes.now, c.if-end-bytes.true))

pub returns-then-end-bytes-clause-many : goal.returns-then-end-bytes-clause-many
returns-then-end-bytes-clause-many c m =
    absurd (true≢false (sym (fifth_stands c.args.bytes.now c.in_ok-filter.ensures.1 m) ∙ sym c.byte_stands.ensures ∙ c.if-byte_stands.false))

pub returns-then-end-bytes-clause-refused : goal.returns-then-end-bytes-clause-refused
returns-then-end-bytes-clause-refused c = (
  c.in_ok-filter.ensures.0,
  bad_behind c.args.bytes.now c.in_ok-filter.ensures.1,
  some_bytes c.args.bytes.now (sym c.is_empty.ensures ∙ c.if-is_empty.false),
  λ m. true≢false (sym (fifth_stands c.args.bytes.now c.in_ok-filter.ensures.1 m) ∙ sym c.byte_stands.ensures ∙ c.if-byte_stands.false),
)

pub returns-clause-found : goal.returns-clause-found
returns-clause-found c = (
  read_fits c.args.bytes.now c.in_ok-filter.ensures.1,
  read_is c.args.bytes.now c.in_ok-filter.ensures.1 (nothing_left c.args.bytes.now c.in_ok-filter.end c.if-end-bytes.false),
)

pub returns-clause-only : goal.returns-clause-only
returns-clause-only c filter fits is = (whole_is c.args.bytes.now c.in_ok-filter.ensures.1 filter fits is).0

pub returns-clause-many : goal.returns-clause-many
returns-clause-many c m = true≢false (sym (fifth_stands c.args.bytes.now c.in_ok-filter.ensures.1 m) ∙ sym c.byte_stands.ensures ∙ c.if-byte_stands.false)
