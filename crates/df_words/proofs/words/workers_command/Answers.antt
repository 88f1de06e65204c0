use Rattle.std.proofs.Common.{◌<◌, length, rules}
use Rattle.df_words.proofs.Workers.{workers_asked}
use Rattle.df_words.proofs.words.workers_command.Goals as goal

pub returns-in-Some : goal.returns-in-Some
returns-in-Some c =
    let long : 0 < length c.args.config.now = search rules in
    let long_too : 0 < length c.args.ticks.now = search rules in
    workers_asked c.args.config.now c.args.ticks.now c.args.count.now c.in-Some.workers c.in-Some.ensures long long_too
