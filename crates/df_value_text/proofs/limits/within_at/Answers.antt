use Rattle.df_value_text.proofs.Names.{plain}
use Rattle.df_value_text.proofs.LimitLaws.{read_within, tells_found, tells_within}
use Rattle.df_value_text.proofs.ValueAnswers.{found_value}
use Rattle.df_value_text.proofs.limits.within_at.Goals as goal

pub frozen-requires : goal.frozen-requires
frozen-requires c = read_within c.args.bytes.now c.args.at c.in-Ok.end (plain c.in-Ok.value) c.requires.within c.in-Ok.ensures.exact.1

pub returns-in-Err : goal.returns-in-Err
returns-in-Err c = rw c.from.ensures (tells_within c.args.bytes.now c.args.at c.in-Err.fault c.requires.within c.in-Err.ensures.exact)

pub returns-in-Ok-frozen : goal.returns-in-Ok-frozen
returns-in-Ok-frozen c =
    let limits = read_within c.args.bytes.now c.args.at c.in-Ok.end (plain c.in-Ok.value) c.requires.within c.in-Ok.ensures.exact.1 in
    tells_found c.args.bytes.now c.args.at (c.in-Ok-frozen.frozen, c.in-Ok.end)
    (found_value c.args.bytes.now c.args.at c.in-Ok.end (plain c.in-Ok.value) c.in-Ok-frozen.frozen c.in-Ok-frozen.ensures limits
    c.in-Ok.ensures.exact)
