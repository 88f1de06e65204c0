use Rattle.df_value_text.proofs.Names.{drop, sym, ◌∙◌, arith, failed_is, chars_at}
use Rattle.df_value_text.proofs.Loops.{fails_by, front_done}
use Rattle.df_value_text.proofs.WordsSteps.{char_read, char_broken, chars_none}
use Rattle.df_value_text.proofs.words_reader.chars_at.Goals as goal

pub returns-in_err-behind-clause-exact : goal.returns-in_err-behind-clause-exact
returns-in_err-behind-clause-exact c =
    let here = drop c.loop-text.place c.args.bytes.now in
    rw (failed_is _ c.from_residual-in_err-behind.ensures.1) (fails_by c.in_err-behind.field-0.0 c.args.bytes.now _ _
    (λ stop e. char_broken here c.loop-text.text.items stop _ (sym c.char_stands.ensures ∙ c.loop-text-test.true) c.loop-text.invariant.rest e)
    c.in_err-behind.ensures.exact)

pub loop-text-preserved : goal.loop-text-preserved
loop-text-preserved c =
    let here = drop c.loop-text.place c.args.bytes.now in
    record {
      onward = omega (arith, c.loop-text.invariant.onward, c.in_ok-behind.ensures.onward, c.in_ok-place-2.ensures.onward);
      within = c.in_ok-place-2.ensures.within;
      rest = c.in_ok-place-2.ensures.rest ∙ char_read here c.loop-text.text.items c.append_char.new.text.items (drop c.in_ok-behind.behind c.args.bytes.now) _
          (sym c.char_stands.ensures ∙ c.loop-text-test.true) c.in_ok-behind.ensures.exact.1 c.loop-text.invariant.rest;
    }

pub returns-clause-exact : goal.returns-clause-exact
returns-clause-exact c =
    let here = drop c.loop-text.place c.args.bytes.now in
    let none = chars_none here (sym c.char_stands.ensures ∙ c.loop-text-test.false) in
    (c.loop-text.invariant.within, front_done c.loop-text.text.items (chars_at here) here _ none c.loop-text.invariant.rest)
