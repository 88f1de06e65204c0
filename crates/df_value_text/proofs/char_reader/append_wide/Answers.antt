use Rattle.std.proofs.Common.{length, ◌<◌, sym, ◌∙◌, arith}
use Rattle.df_value_text.proofs.WordsSteps.{wide_on}
use Rattle.df_value_text.proofs.char_reader.append_wide.Goals as goal

pub returns-clause-exact : goal.returns-clause-exact
returns-clause-exact c =
    let within : c.args.at < length c.args.bytes.now = omega (arith, c.requires, c.if-at-bytes.false) in
    rw (wide_on c.args.bytes.now c.args.text.now.items c.push.new.self.items c.args.at c.trail_length.result c.least_second.result c.most_second.result within
    (sym c.is_lead.ensures ∙ c.if-not-is_lead.false) c.in_ok-push.ensures.items c.trail_length.ensures c.least_second.ensures c.most_second.ensures)
    c.append_trail.ensures.exact
