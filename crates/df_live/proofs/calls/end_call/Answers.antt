use Rattle.df_live.proofs.Names.{◌<◌, length, refl, rules, subst, sym, RefusesCall}
use Rattle.df_script_text.proofs.ScriptLines.{made_small}
use Rattle.df_live.specs.declared.lines.Taken.TheVariants as taken
use Rattle.df_live.proofs.calls.end_call.Goals as goal

pub returns-in-Ok-clause-refused : goal.returns-in-Ok-clause-refused
returns-in-Ok-clause-refused c =
    let some : 0 < length c.args.line.now = search rules in
    let small = made_small c.args.line.now c.in-Ok.call c.in-Ok.ensures.0 c.in-Ok.ensures.1 in
    subst (RefusesCall c.args.number taken.End c.args.line.now) (sym c.unended.ensures) (refl, some, small)
