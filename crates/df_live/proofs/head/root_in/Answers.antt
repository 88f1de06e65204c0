use Rattle.df_live.proofs.Names.{◌≡◌, ◌+◌, ◌<◌, ◌^◌, rules, root_text}
use Rattle.df_journal_text.proofs.Frames.{unended}
use Rattle.df_live.specs.declared.lines.Taken.TheVariants as taken
use Rattle.df_live.proofs.head.root_in.Goals as goal

pub returns-in-Ok-clause-read : goal.returns-in-Ok-clause-read
returns-in-Ok-clause-read c =
    let small : c.args.number + 1 < 2 ^ 32 = search rules in
    let line : c.args.taken ≡ taken.Line = search rules in
    (small, c.in-Ok.ensures.0, (line, unended c.args.line.now (root_text c.args.number c.in-Ok.root) c.in-Ok.ensures.1))
