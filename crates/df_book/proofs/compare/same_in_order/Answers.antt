use Rattle.std.proofs.Common.{IsTrue, ◌<◌, length, refl, sym, ap, subst, ◌∙◌, arith}
use Rattle.std.proofs.lemmas.Bool.{false≢true}
use Rattle.std.proofs.lemmas.Option.{none-some, same_Some}
use Rattle.df_book.specs.code.Earliest.{shown}
use Rattle.df_book.specs.code.Places.{by_arrival}
use Rattle.df_book.proofs.Sooner.{begun, ended, found, fronts, value_in, went}
use Rattle.df_book.proofs.compare.same_in_order.Goals as goal

pub loop-place-init : goal.loop-place-init
loop-place-init c = begun _ (by_arrival c.args.a.now) (by_arrival c.args.b.now) c.requires.a_in_order c.requires.b_in_order

pub returns-in-None-None : goal.returns-in-None-None
returns-in-None-None c = (
  λ t.
      ended _ c.loop-place.a_from c.loop-place.b_from c.args.a.now c.args.b.now c.requires.a_in_order c.requires.b_in_order c.loop-place.invariant
      (sym c.earliest.ensures ∙ ap shown c.in-None-None.is-0) (sym c.earliest-in-loop-place.ensures ∙ ap shown c.in-None-None.is-1),
  λ e. refl,
)

pub returns-then-not-same_at : goal.returns-then-not-same_at
returns-then-not-same_at c = (
  λ t. absurd (false≢true t),
  λ e.
      let front = fronts _ c.loop-place.a_from c.loop-place.b_from c.args.a.now c.args.b.now c.requires.a_in_order c.requires.b_in_order c.loop-place.invariant e in
      let equal = sym (ap value_in (sym c.earliest.ensures ∙ ap shown c.in-Some-Some.is-0)) ∙ front ∙ ap value_in (sym c.earliest-in-loop-place.ensures ∙ ap shown c.in-Some-Some.is-1) in
      subst IsTrue c.if-not-same_at.true (c.same_at.ensures.1 (same_Some _ _ equal)),
)

pub overflow_add-a_from : goal.overflow_add-a_from
overflow_add-a_from c =
    let next = found _ c.loop-place.a_from c.args.a.now c.in-Some-Some.place.now c.in-Some-Some.rest.now c.requires.a_in_order (sym c.earliest.ensures ∙ ap shown c.in-Some-Some.is-0) in
    let below : c.in-Some-Some.place.now.arrival < 18_446_744_073_709_551_615 = next.below in
    omega arith

pub overflow_add-b_from : goal.overflow_add-b_from
overflow_add-b_from c =
    let next = found _ c.loop-place.b_from c.args.b.now c.in-Some-Some.other.now c.in-Some-Some.other_rest.now c.requires.b_in_order (sym c.earliest-in-loop-place.ensures ∙ ap shown c.in-Some-Some.is-1) in
    let below : c.in-Some-Some.other.now.arrival < 18_446_744_073_709_551_615 = next.below in
    omega arith

pub loop-place-smaller : goal.loop-place-smaller
loop-place-smaller c =
    let next = found _ c.loop-place.a_from c.args.a.now c.in-Some-Some.place.now c.in-Some-Some.rest.now c.requires.a_in_order (sym c.earliest.ensures ∙ ap shown c.in-Some-Some.is-0) in
    let longer = ap length next.is in
    omega arith

pub loop-place-preserved : goal.loop-place-preserved
loop-place-preserved c =
    let first = found _ c.loop-place.a_from c.args.a.now c.in-Some-Some.place.now c.in-Some-Some.rest.now c.requires.a_in_order (sym c.earliest.ensures ∙ ap shown c.in-Some-Some.is-0) in
    let second = found _ c.loop-place.b_from c.args.b.now c.in-Some-Some.other.now c.in-Some-Some.other_rest.now c.requires.b_in_order (sym c.earliest-in-loop-place.ensures ∙ ap shown c.in-Some-Some.is-1) in
    went _ _ _ _ _ (by_arrival c.args.a.now) (by_arrival c.args.b.now) c.loop-place.invariant first second (c.same_at.ensures.0 (subst IsTrue (sym c.if-not-same_at.false) refl))

pub returns-in_default : goal.returns-in_default
returns-in_default c = (
  λ t. absurd (false≢true t),
  λ e.
      let front = fronts _ c.loop-place.a_from c.loop-place.b_from c.args.a.now c.args.b.now c.requires.a_in_order c.requires.b_in_order c.loop-place.invariant e in
      absurd
      (none-some _ (sym (ap value_in (sym c.earliest.ensures ∙ ap shown c.in_default.is-0)) ∙ front ∙ ap value_in (sym c.earliest-in-loop-place.ensures ∙ ap shown c.in_default.is-1))),
)

pub returns-in_default-2 : goal.returns-in_default-2
returns-in_default-2 c = (
  λ t. absurd (false≢true t),
  λ e.
      let front = fronts _ c.loop-place.a_from c.loop-place.b_from c.args.a.now c.args.b.now c.requires.a_in_order c.requires.b_in_order c.loop-place.invariant e in
      absurd
      (none-some _
      (sym (sym (ap value_in (sym c.earliest.ensures ∙ ap shown c.in_default.is-0)) ∙ front ∙ ap value_in (sym c.earliest-in-loop-place.ensures ∙ ap shown c.in_default.is-1)))),
)
