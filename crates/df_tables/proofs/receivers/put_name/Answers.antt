use Rattle.df_tables.proofs.Names.{◌++◌, List, Option, ap, sym, ◌∙◌, option_to_list, append-nil, slice_get_past, UnitName, names_of, Unit}
use Rattle.df_tables.proofs.receivers.put_name.Goals as goal

pub returns-in-None : goal.returns-in-None
returns-in-None c =
    let to : List UnitName = c.args.to.now.items in
    sym (ap (λ (o : Option Unit). to ++ names_of (option_to_list o)) (slice_get_past c.args.rows.now c.args.place c.in-None.ensures.lookup.3) ∙ append-nil to)
