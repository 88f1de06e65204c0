use Rattle.df_workers.proofs.Names.{◌≡◌, false, refl, arith, slice_get, nat_tests, brain_of, came_then, is_over}
use Rattle.std.specs.Prelude.{Some}
use Rattle.std.proofs.lemmas.Option.{slice_get_read}
use Rattle.df_workers.proofs.Gathered.{get_below}
use Rattle.df_workers.proofs.Serving.{sharing_passed, sharing_served, then_over, unless_going}
use Rattle.df_workers.proofs.worker.serve_share.Goals as goal
use Rattle.df_workers.proofs.worker.serve_share.Goals.{then-place-share+else-is_over, else-place-share}

pub loop-place-preserved : goal.loop-place-preserved
loop-place-preserved g c =
    let brain = brain_of g.B.StepFunction.next g.B.StepFunction.instance in
    let units = c.args.share.now.units.now in
    let l = c.loop-place in
    elim c.if-place-share.branch [
      | then-place-share+else-is_over w ↦
          (let going : is_over
          (came_then l.came w.serve.result) ≡ false = (let a = w.is_over.ensures in let b = w.if-is_over in let h = w.then-came.ensures in cc) in
          let at : slice_get units l.place ≡ Some c.unit-item.result = slice_get_read units _ l.place c.unit-item.result refl c.loop-place-test.true
          c.unit-item.is in
          rw (w.pass-is, w.came-is, w.then-came.ensures)
          (sharing_served brain c.args.hub.now c.args.max c.args.share.now.workers c.args.number units c.args.pass.now.seen l.place l.pass l.came
          l.invariant
          c.unit-item.result at w.serve.new.pass w.serve.result w.serve.ensures.free w.serve.ensures.begins w.serve.ensures.grew w.serve.ensures.served going
          (then_over l.came w.serve.result l.invariant.going going)))
      | else-place-share w ↦ rw (w.pass-is, w.came-is)
          (sharing_passed brain c.args.hub.now c.args.max c.args.share.now.workers c.args.number units c.args.pass.now.seen l.place l.pass l.came l.invariant
          (λ e. let f = w.if-place-share in let z : ⊥ = grind (arith, nat_tests) in z))
    ]

pub returns-clause-served : goal.returns-clause-served
returns-clause-served g c = unless_going c.loop-place.came (λ k u at own.
    c.loop-place.invariant.served k u (let b = get_below c.args.share.now.units.now k u at in let e = c.loop-place-test.false in omega (arith, b, e)) at own)
