use Rattle.df_durable.proofs.Names.{◌+◌, ◌<◌, ◌^◌, ℕ, List, length, arith, ap, sym, subst, IsFront, State}
use Rattle.df_image.specs.Reading.{TellsStart}
use Rattle.df_image.proofs.Fronts.{first_broken, first_front, first_wrong}
use Rattle.df_durable.proofs.opening.first_of.Goals as goal

pub returns-in-Broken-clause-breaks : goal.returns-in-Broken-clause-breaks
returns-in-Broken-clause-breaks c = let f = c.in-Broken.ensures in first_broken c.args.image.now f.0 f.1 f.2

pub returns-in-None-clause-breaks : goal.returns-in-None-clause-breaks
returns-in-None-clause-breaks c =
    let f = c.in-Whole.ensures in
    let small : length f.0 < 2 ^ 64 = omega (arith, c.requires.short, ap (λ (l : List ℕ). length l) f.1) in
    let none = subst (TellsStart c.in-Whole.text.now) c.in-None.is c.in_ok-start_of.ensures in
    first_wrong c.args.image.now c.in-Whole.text.now f.0 f.1 f.2 small none.none

pub returns-clause-front : goal.returns-clause-front
returns-clause-front c =
    let f = c.in-Whole.ensures in
    let small : length f.0 < 2 ^ 64 = omega (arith, c.requires.short, ap (λ (l : List ℕ). length l) f.1) in
    let one = subst (TellsStart c.in-Whole.text.now) c.in-Some.is c.in_ok-start_of.ensures in
    subst (λ (s : State). IsFront c.args.image.now s (9 + length c.in-Whole.text.now)) (sym c.in_ok-core.ensures)
    (first_front c.args.image.now c.in-Whole.text.now f.0 f.1 f.2 small c.in-Some.start one.fits one.is)
