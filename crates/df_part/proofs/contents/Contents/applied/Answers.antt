use Rattle.std.proofs.Common.{◌≡◌, IfOk, List, subst, sym}
use Rattle.df_part.specs.declared.part.Part.{Part}
use Rattle.df_part.proofs.Shares.{idle_edit}
use Rattle.df_part.proofs.contents.Contents.applied.Goals as goal

pub returns-then-is_idle : goal.returns-then-is_idle
returns-then-is_idle c =
    let same = idle_edit c.args.edit.now c.args.self.now (c.is_idle.ensures.0 c.if-is_idle.true) in
    subst (λ (ps : List Part). IfOk c.copy.result (λ x. x ≡ ps)) (sym same) c.copy.ensures
