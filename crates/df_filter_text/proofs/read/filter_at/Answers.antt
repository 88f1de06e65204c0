use Rattle.df_filter_text.proofs.Names.{◌≡◌, List, drop, Ok, subst, Clause, filter_at}
use Rattle.df_filter_text.proofs.Whole.{made_is, is_made, read_fits}
use Rattle.df_filter_text.proofs.read.filter_at.Goals as goal

pub unreachable-requires : goal.unreachable-requires
unreachable-requires c =
    let fits = read_fits (drop c.args.at c.args.bytes.now) c.in_ok-clauses.ensures.1 in
    is_made c.in_ok-clauses.clauses.items c.in-Err.field-0 c.new.result fits c.new.ensures c.in-Err.is

pub returns : goal.returns
returns c =
    let bytes = drop c.args.at c.args.bytes.now in
    let fits = read_fits bytes c.in_ok-clauses.ensures.1 in
    let is = made_is c.in_ok-clauses.clauses.items c.in-Ok.filter c.new.result fits c.new.ensures c.in-Ok.is in
    (c.in_ok-clauses.ensures.0, subst (λ (f : List Clause). filter_at bytes ≡ Ok (f, drop c.in_ok-clauses.end c.args.bytes.now)) is c.in_ok-clauses.ensures.1)
