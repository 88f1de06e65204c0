use Rattle.df_lint.proofs.Names.{ℕ, List, Bool, Right, Plus, Minus, PlusAuth, MinusAuth, lint_line}
use Rattle.df_lint.proofs.Lines.{four_lines}
use Rattle.df_lint.proofs.text.append_tag.Goals as goal

pub returns : goal.returns
returns c =
    let line : Right → Bool → List ℕ = λ r b. lint_line c.args.root (record { tag = c.args.tag.now; right = r }) b in
    four_lines c.args.to.now.items (line Plus c.args.cell.plus) (line Minus c.args.cell.minus) (line PlusAuth c.args.cell.plus_auth) (line MinusAuth c.args.cell.minus_auth)
    c.append_line.new.to.items c.append_line-2.new.to.items c.append_line-3.new.to.items c.append_line-4.new.to.items
    c.in_ok-append_line.ensures c.in_ok-append_line-2.ensures c.in_ok-append_line-3.ensures c.in_ok-append_line-4.ensures
