use Rattle.df_lint.proofs.Names.{◌≡◌, refl, sym, ◌∙◌, ap, ◌<◌, length, true, false, arith, slice_set, length-set, cell_at, passed}
use Rattle.df_lint.proofs.Cells.{grows_kept, grows_now, pass_more, read_at, same_more}
use Rattle.df_lint.proofs.cell.pass_on.Goals.{then-gives, else-gives}
use Rattle.df_lint.proofs.cell.pass_on.Goals as goal

pub loop-place-preserved : goal.loop-place-preserved
loop-place-preserved c =
    let gs = c.args.giver.now in
    let old = c.args.taker.now.items in
    let now = c.loop-place.taker.items in
    let i = c.loop-place.place in
    let g = cell_at gs i in
    let had = c.index-had.result.now in
    let before = c.loop-place.invariant in
    let next = slice_set now i c.passed.result in
    let lt = c.loop-place-test.true in
    let many = before.many in
    let short : i < length now = omega arith in
    let at = read_at now i had short c.index-had.ensures in
    let more : next ≡ slice_set now i (passed g had) = ap (slice_set now i) c.passed.ensures in
    record {
      many = length-set now i c.passed.result ∙ before.many;
      passed = pass_more gs old now next i g had c.requires lt refl at before.passed more;
      gains = λ e. elim c.if-gives.branch [
        | then-gives w ↦ grows_now gs old now next i g had c.requires before.many lt at before.passed more (sym c.gives.ensures ∙ cc)
        | else-gives w ↦ grows_kept old now next i g had at more (before.gains (cc))
      ];
      same = λ e. elim c.if-gives.branch [
        | then-gives w ↦ absurd (let z : true ≡ false = cc in let y : ⊥ = cc in y)
        | else-gives w ↦ same_more old now next i g had at more (sym c.gives.ensures ∙ cc) (before.same (cc))
      ];
    }
