use Rattle.std.proofs.Common.{rules, ◌∙◌, ap₂, w64}
use Rattle.std.specs.Prelude.{FitsSigned}
use Rattle.std.proofs.lemmas.Int.{to_z-of_z}
use Rattle.df_book.specs.Submitting.{lesser}
use Rattle.df_book.proofs.Quantities.{left_fits, left_is}
use Rattle.df_book.proofs.plan.Plan.trade.Goals as goal

pub overflow_sub-self : goal.overflow_sub-self
overflow_sub-self c =
    let fits : FitsSigned w64 c.args.self.now.left = search rules in
    let qty : FitsSigned w64 c.args.rest.now.qty = search rules in
    let traded = c.lesser-qty.ensures ∙ ap₂ lesser (to_z-of_z w64 c.args.self.now.left fits) (to_z-of_z w64 c.args.rest.now.qty qty) in
    left_fits c.args.self.now.left c.args.rest.now.qty c.lesser-qty.result fits traded c.requires.some c.requires.may_rest.qty

pub returns-clause-left : goal.returns-clause-left
returns-clause-left c =
    let fits : FitsSigned w64 c.args.self.now.left = search rules in
    let qty : FitsSigned w64 c.args.rest.now.qty = search rules in
    let traded = c.lesser-qty.ensures ∙ ap₂ lesser (to_z-of_z w64 c.args.self.now.left fits) (to_z-of_z w64 c.args.rest.now.qty qty) in
    left_is c.args.self.now.left c.args.rest.now.qty c.lesser-qty.result fits traded c.requires.some c.requires.may_rest.qty
