use Rattle.df_value_text.proofs.Names.{◌≡◌, ◌<◌, ◌≤◌, length, arith, ◌⊎◌, inl, inr, length-take-le, refl, IsWithinLimits, Plain, plain}
use Rattle.df_value_text.proofs.LimitLaws.{small_within}
use Rattle.df_value_text.proofs.ValueAnswers.{found_value, near_read}
use Rattle.df_value_text.proofs.limits.light_at.Goals.{else-end-cut-via-then-end-cut+else-cut-bytes, else-end-cut-via-else-end-cut}
use Rattle.df_value_text.proofs.limits.light_at.Goals as goal

pub slice_bounds-is_light-end : goal.slice_bounds-is_light-end
slice_bounds-is_light-end c =
    let within : c.min-cut.result ≤ length c.args.bytes.now = omega arith in
    omega (arith, c.in-Ok.ensures.exact.0, length-take-le c.min-cut.result c.args.bytes.now within)

pub returns : goal.returns
returns c =
    let bytes = c.args.bytes.now in
    let p : Plain = plain c.in-Ok.value in
    let within : c.min-cut.result ≤ length bytes = omega arith in
    let size = length-take-le c.min-cut.result bytes within in
    let room : (c.in-Ok.end < c.min-cut.result) ⊎ (c.min-cut.result ≡ length bytes) = elim c.else-end-cut.branch [
      | else-end-cut-via-then-end-cut+else-cut-bytes w ↦ inr (omega (arith, w.if-end-cut.true, w.if-cut-bytes.false))
      | else-end-cut-via-else-end-cut w ↦ inl (omega (arith, w.if-end-cut.false, c.in-Ok.ensures.exact.0, size))
    ] in
    let read = near_read bytes c.args.at c.min-cut.result c.in-Ok.end p within (omega arith) room c.in-Ok.ensures.exact in
    let limits : IsWithinLimits p = elim (c.is_light.ensures c.if-not-is_light.false) [
      | inl h ↦ h
      | inr never ↦ small_within bytes c.args.at c.in-Ok.end p c.requires read never
    ] in
    found_value bytes c.args.at c.in-Ok.end p p refl limits read
