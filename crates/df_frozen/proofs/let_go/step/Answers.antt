use Rattle.std.proofs.Common.{◌-◌, ◌∙◌, ap, sym, arith}
use Rattle.df_frozen.specs.code.LetGo.{listed, cost}
use Rattle.df_frozen.specs.Value.{plain}
use Rattle.df_frozen.proofs.Steps.{cost-only, cost-gone, cost-only_inner, cost-opened, listed-last}
use Rattle.df_frozen.proofs.let_go.step.Goals as goal

pub returns-then-last-eq0 : goal.returns-then-last-eq0
returns-then-last-eq0 c =
    cost-only _ _ c.pop_inner-value.result c.pop_inner-value.ensures (omega (arith, c.requires, c.inner_len-last.ensures, c.if-last-eq0.true))

pub end-requires-in-0 : goal.end-requires-in-0
end-requires-in-0 c =
    listed-last (listed c.args.waiting) _ (c.inner_len-last.result - 1) c.pop_inner.result (sym c.replace_inner-value.ensures.values ∙ c.pop_inner.ensures) (omega (arith, c.requires, c.inner_len-last.ensures))

pub returns-in-0 : goal.returns-in-0
returns-in-0 c =
    cost-gone (listed c.args.waiting) _ (c.inner_len-last.result - 1) _ _ (omega (arith, c.if-last-eq0.false)) (omega (arith, c.requires, c.inner_len-last.ensures)) c.replace_inner-value.ensures.value (sym c.replace_inner-value.ensures.values ∙ c.pop_inner.ensures)

pub returns-in-1 : goal.returns-in-1
returns-in-1 c =
    let last = c.inner_len-last.result - 1 in
    rw (c.replace_inner.ensures.values, c.replace_inner-value.ensures.values) (cost-only_inner (listed c.args.waiting) _ last c.replace_inner-value.result (plain c.pop_inner-only.result) (omega (arith, c.if-last-eq0.false)) (omega (arith, c.requires, c.inner_len-last.ensures)) c.replace_inner-value.ensures.value c.pop_inner-only.ensures)

pub returns-in_default : goal.returns-in_default
returns-in_default c =
    let opened = cost-opened (listed c.args.waiting) (c.inner_len-last.result - 1) c.replace_inner-value.result (omega (arith, c.if-last-eq0.false)) (omega (arith, c.requires, c.inner_len-last.ensures)) c.replace_inner-value.ensures.value (omega (arith, c.inner_len.ensures, c.in_default)) in
    omega (arith, c.hang.ensures, ap cost c.replace_inner-value.ensures.values, opened)
