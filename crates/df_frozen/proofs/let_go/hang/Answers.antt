use Rattle.std.proofs.Common.{◌-◌, ◌∙◌, ap, arith, set, get_or}
use Rattle.df_frozen.specs.code.LetGo.{listed, cost}
use Rattle.df_frozen.specs.Value.{plain}
use Rattle.df_frozen.proofs.Steps.{cost-hung}
use Rattle.df_frozen.proofs.let_go.hang.Goals as goal

pub returns : goal.returns
returns c =
    let end = c.inner_len-end.result - 1 in
    let last = plain c.replace_inner-last.result in
    let first = plain c.replace_inner-first.result in
    let parent = c.replace_inner.new.self in
    let emptied = c.replace_inner-last.ensures.values in
    let filled = c.replace_inner-2.ensures.values ∙ ap (λ l. set l end first) (c.replace_inner-first.ensures.values ∙ ap (λ l. set l 0 (plain parent)) emptied) in
    let is_first = c.replace_inner-first.ensures.value ∙ ap (λ l. get_or l 0 (plain parent)) emptied in
    ap cost filled ∙ cost-hung (listed c.args.waiting) (listed c.args.value) c.args.place end last first parent c.requires.later c.requires.within c.requires.free (omega (arith, c.requires.more, c.inner_len-end.ensures)) (omega (arith, c.requires.more, c.inner_len-end.ensures)) c.replace_inner-last.ensures.value c.replace_inner.ensures.values is_first
