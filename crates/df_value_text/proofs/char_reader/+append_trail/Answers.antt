use Rattle.std.proofs.Common.{◌<◌, sym, ◌∙◌, arith}
use Rattle.df_value_text.proofs.WordsSteps.{trail_on}
use Rattle.df_value_text.proofs.char_reader.+append_trail.Goals as goal

pub returns-clause-exact : goal.returns-clause-exact
returns-clause-exact t c =
    let some : 0 < c.args.count = omega (arith, c.if-count-eq0.false) in
    rw (trail_on c.args.bytes.now c.args.text.now.items c.push.new.self.items c.args.at c.args.count c.args.least c.args.most some
    (sym c.stands_between.ensures ∙ c.if-not-stands_between.false) c.in_ok-push.ensures.items) c.append_trail.ensures.exact
