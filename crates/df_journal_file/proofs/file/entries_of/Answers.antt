use Rattle.df_journal_file.proofs.Names.{Noted, ap, map, map-id, sym, ◌∙◌}
use Rattle.std.proofs.lemmas.Iterator.Consumers.{YieldsList-end}
use Rattle.std.proofs.lemmas.Iterator.Adapters.{YieldsList-from_vec}
use Rattle.df_journal_file.proofs.file.entries_of.Goals as goal

pub returns : goal.returns
returns c =
    let vec = YieldsList-from_vec c.args.noted.items (cc) (cc) in
    let end = YieldsList-end vec c.noted.yielded c.noted.n-iterator c.noted.yielded_by _ c.next.new.self c.in-None.is c.next.ensures.steps in
    c.noted.invariant ∙ ap (map (λ (n : Noted). n.entry)) (sym (map-id c.noted.yielded) ∙ end.0)
