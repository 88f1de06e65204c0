use Rattle.std.proofs.Common.{◌≡◌, ℕ, ◌+◌, List, drop, get_or, subst, arith}
use Rattle.std.proofs.lemmas.List.{take_rest}
use Rattle.df_disk.specs.Found.{IsBehind}
use Rattle.df_disk.proofs.Heads.{behind_open, opened_at}
use Rattle.df_disk.proofs.records.found_at.Goals as goal

pub returns : goal.returns
returns c =
    let image = c.args.image.now in
    let place = c.args.gate in
    let open_gate : get_or image place 0 ≡ 1 = omega (arith, c.if-image-gate-ne-OPEN.false) in
    behind_open (drop place image) (drop (place + 1) image) c.found_behind.result (opened_at image place c.requires open_gate)
    (subst (λ (l : List ℕ). IsBehind l c.found_behind.result) (take_rest image (place + 1)) c.found_behind.ensures)
