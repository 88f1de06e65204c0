use Rattle.std.proofs.Common.{◌≡◌, ℕ, List, take, drop, length, sym, ◌∙◌, subst, ap, arith}
use Rattle.std.specs.Int.{w64, to_be_bytes}
use Rattle.df_disk.specs.Found.{BeginsWith}
use Rattle.df_disk.proofs.Heads.{whole}
use Rattle.df_disk.proofs.records.found_behind.Goals as goal

pub returns : goal.returns
returns c =
    let tail = c.args.tail.now in
    let count = c.count_of-count.result in
    let spelled : to_be_bytes w64 count ≡ take 8 tail = c.count_of-count.ensures ∙ c.split_at.ensures.front in
    let body : c.split_at.result.1.now ≡ drop 8 tail = c.split_at.ensures.back in
    let longer = ap (λ (l : List ℕ). length l) body in
    subst (λ (b : List ℕ). BeginsWith (take count b) tail) (sym body) (whole tail count spelled (omega (arith, c.if-body-count.false, longer)))
