use Rattle.df_audit.proofs.Names.{IfOk-weaker, on_ok_weaker}
use Rattle.df_audit.proofs.Passes.{judged_kept}
use Rattle.df_audit.proofs.pass.take_kept.Goals as goal

pub returns : goal.returns
returns c =
    IfOk-weaker c.judged.result _ _
    (λ passed judged core agrees. judged_kept core c.args.has_notes c.args.kept c.compare-compared.result c.compare-compared.new.tables
    (IfOk-weaker c.compare-compared.result _ _ (λ compared told. told core agrees) c.compare-compared.ensures.compares)
    (on_ok_weaker c.compare-compared.result (λ made. made core agrees) c.compare-compared.ensures.made) passed judged)
    c.judged.ensures
