use Rattle.df_lint.proofs.Names.{ℕ, List, ap, subst, sym, ◌∙◌, arith, Contains}
use Rattle.df_lint.proofs.Attaching.{givers_more, givers_same}
use Rattle.df_lint.proofs.Growing.{places_only}
use Rattle.df_lint.proofs.spread.givers.Goals as goal
use Rattle.df_lint.proofs.spread.givers.Goals.{then-attaches_at+in_ok-push, else-attaches_at}

pub loop-place-preserved : goal.loop-place-preserved
loop-place-preserved c =
    let rows = c.args.rows.now.items in
    let place = c.loop-place.place in
    let before = c.loop-place.places.items in
    let found = c.loop-place.invariant in
    elim c.if-attaches_at.branch [
      | then-attaches_at+in_ok-push w ↦ (
          let more = ap (λ v. v.items) w.places-is ∙ w.in_ok-push.ensures.items in
          record {
            all = λ k lt a. subst (λ (xs : List ℕ). Contains xs k) (sym more) (givers_more rows before place found.all k lt a);
            only = λ k m. places_only before place found.only k (subst (λ (xs : List ℕ). Contains xs k) more m);
          })
      | else-attaches_at w ↦ (
          let same = ap (λ v. v.items) w.places-is in
          let none = sym c.attaches_at.ensures ∙ w.if-attaches_at.false in
          record {
            all = λ k lt a. subst (λ (xs : List ℕ). Contains xs k) (sym same) (givers_same rows before place none found.all k lt a);
            only = λ k m. let below = found.only k (subst (λ (xs : List ℕ). Contains xs k) same m) in omega arith;
          })
    ]

pub returns-clause-only : goal.returns-clause-only
returns-clause-only c = λ k m. let below = c.loop-place.invariant.only k m in omega arith
