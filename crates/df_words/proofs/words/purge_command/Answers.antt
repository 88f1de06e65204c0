use Rattle.std.proofs.Common.{◌<◌, length, rules}
use Rattle.df_words.proofs.Labels.{purge_asked}
use Rattle.df_words.proofs.words.purge_command.Goals as goal

pub returns : goal.returns
returns c =
    let long : 0 < length c.args.journal.now = search rules in
    purge_asked c.args.label.now c.args.journal.now c.in_ok-label.label c.in_ok-label.ensures long
