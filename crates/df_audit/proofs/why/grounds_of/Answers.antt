use Rattle.df_audit.proofs.Names.{length}
use Rattle.df_audit.proofs.Grounds.{are_within}
use Rattle.df_audit.proofs.why.grounds_of.Goals as goal

pub returns-clause-within : goal.returns-clause-within
returns-clause-within c = are_within c.grounds.result (λ v. v.items) c.args.start.now _ c.args.place (length c.args.notes.now) c.requires.place
    c.grounds.ensures.exact
