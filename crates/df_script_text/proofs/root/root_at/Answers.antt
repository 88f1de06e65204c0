use Rattle.df_script_text.proofs.Names.{◌≡◌, codes, drop, refl, rules, IsHeadLine}
use Rattle.df_script_text.proofs.Stops.{open_stop, run_at}
use Rattle.df_script_text.proofs.root.root_at.Goals as goal

pub returns-in_default-clause-stops : goal.returns-in_default-clause-stops
returns-in_default-clause-stops c =
    let rest = drop c.args.at c.args.bytes.now in
    (refl, (rest, open_stop (IsHeadLine c.args.number) rest c.in_default.ensures))

pub returns-then-eq-clause-read : goal.returns-then-eq-clause-read
returns-then-eq-clause-read c =
    let is : c.in-Some.line.now ≡ codes "run" = search rules in
    run_at c.args.bytes.now c.args.at c.in-Some.line.now c.in-Some.next is c.in-Some.ensures
