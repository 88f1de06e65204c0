use Rattle.df_journal_text.proofs.Names.{◌-◌, sym, arith, true≢false}
use Rattle.df_journal_text.proofs.Orders.{ascending_more, not_ascending}
use Rattle.df_journal_text.proofs.word_reader.are_ascending.Goals as goal

pub returns-then-not-is_lt : goal.returns-then-not-is_lt
returns-then-not-is_lt c = (
  λ t. absurd (true≢false (sym t)),
  λ a. absurd
      (not_ascending c.args.privileges.now (c.loop-i.i - 1) c.loop-i.i _ _ _ _ (omega (arith, c.loop-i.auto.i)) c.loop-i-test.true c.index-privileges-i.is
      c.index-privileges-i-in-loop-i.is c.cmp.ensures c.is_lt.ensures c.if-not-is_lt.true a),
)

pub loop-i-preserved : goal.loop-i-preserved
loop-i-preserved c =
    ascending_more c.args.privileges.now (c.loop-i.i - 1) c.loop-i.i _ _ _ _ (omega (arith, c.loop-i.auto.i)) c.loop-i-test.true c.index-privileges-i.is
    c.index-privileges-i-in-loop-i.is c.cmp.ensures c.is_lt.ensures c.if-not-is_lt.false c.loop-i.invariant
