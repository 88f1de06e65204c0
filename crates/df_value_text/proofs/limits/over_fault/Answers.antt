use Rattle.df_value_text.proofs.Names.{arith, length-take-le}
use Rattle.df_value_text.proofs.LimitLaws.{is_cut, tells_fault, tells_value}
use Rattle.df_value_text.proofs.limits.over_fault.Goals.{in-Ok, in-Err}
use Rattle.df_value_text.proofs.limits.over_fault.Goals as goal

pub value_at-requires : goal.value_at-requires
value_at-requires c =
    let cut = is_cut c.args.bytes.now c.args.at c.args.over c.min-end.result c.requires.start c.requires.below c.requires.first c.min-end.ensures in
    omega (arith, cut.start, cut.before, length-take-le c.min-end.result c.args.bytes.now cut.within)

pub returns : goal.returns
returns c =
    let cut = is_cut c.args.bytes.now c.args.at c.args.over c.min-end.result c.requires.start c.requires.below c.requires.first c.min-end.ensures in
    elim c.match-value_at.branch [
      | in-Ok w ↦ rw (w.result-is) (tells_value cut _ _ w.in-Ok.ensures.exact)
      | in-Err w ↦ rw (w.result-is, w.up_to.ensures) (tells_fault cut w.in-Err.fault w.in-Err.ensures.exact)
    ]
