use Rattle.df_handles.proofs.Names.{sym, ◌∙◌, arith}
use Rattle.std.proofs.lemmas.Bool.{true≢false}
use Rattle.df_handles.proofs.Slots.{shown_at, shown_more}
use Rattle.df_handles.proofs.same.same.Goals as goal

pub returns-then-not-is_same : goal.returns-then-not-is_same
returns-then-not-is_same c = (
  λ f. absurd (true≢false (sym f)),
  λ e.
      sym c.if-not-is_same.true
      ∙ c.same_slot-is_same.ensures.1 (shown_at c.args.a.now c.args.b.now c.loop-i.i c.index-a-i.result c.index-b-i.result (omega arith) (omega arith) c.index-a-i.is c.index-b-i.is e),
)

pub loop-i-preserved : goal.loop-i-preserved
loop-i-preserved c =
    shown_more c.args.a.now c.args.b.now c.loop-i.i c.index-a-i.result c.index-b-i.result (omega arith) (omega arith) c.index-a-i.is c.index-b-i.is
    (c.same_slot-is_same.ensures.0 c.if-not-is_same.false) c.loop-i.invariant
