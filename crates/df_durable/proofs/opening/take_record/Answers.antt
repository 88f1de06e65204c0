use Rattle.df_durable.proofs.Names.{◌<◌, ◌^◌, ℕ, List, length, length-drop, arith, ap, subst, TakesEntry}
use Rattle.df_image.proofs.Fronts.{front_broken, front_closed, front_more, front_wrong}
use Rattle.df_durable.proofs.opening.take_record.Goals as goal

pub returns-in-Closed-clause-more : goal.returns-in-Closed-clause-more
returns-in-Closed-clause-more c =
    let f = c.in-Closed.ensures in front_closed c.args.image.now c.args.kept.now.core c.args.kept.now.gate c.requires.front f.0 f.1 f.2 f.3

pub returns-in-Broken-clause-breaks : goal.returns-in-Broken-clause-breaks
returns-in-Broken-clause-breaks c =
    let f = c.in-Broken.ensures in front_broken c.args.image.now c.args.kept.now.core c.args.kept.now.gate c.requires.front f.0 f.1 f.2

pub returns-then-not-branch-clause-breaks : goal.returns-then-not-branch-clause-breaks
returns-then-not-branch-clause-breaks c =
    let image = c.args.image.now in
    let kept = c.args.kept.now in
    let f = c.in-Whole.ensures in
    let small : length f.0 < 2 ^ 64 = omega (arith, c.requires.short, ap (λ (l : List ℕ). length l) f.1, length-drop kept.gate image) in
    front_wrong image kept.core kept.gate c.requires.front f.0 f.1 c.in-Whole.text.now f.2 small
    (subst (TakesEntry kept.core c.in-Whole.text.now c.take_entry.new.core) c.if-not-branch.true c.in_ok-take_entry.ensures)

pub returns-clause-more : goal.returns-clause-more
returns-clause-more c =
    let kept = c.args.kept.now in
    let f = c.in-Whole.ensures in (
      omega arith,
      front_more c.args.image.now kept.core kept.gate c.requires.front f.0 f.1 c.in-Whole.text.now f.2 c.take_entry.new.core
          (subst (TakesEntry kept.core c.in-Whole.text.now c.take_entry.new.core) c.if-not-branch.false c.in_ok-take_entry.ensures),
    )
