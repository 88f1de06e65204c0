use Rattle.df_audit.proofs.Names.{refl}
use Rattle.df_audit.proofs.Passes.{purge_made}
use Rattle.df_audit.proofs.right.purge_text.Goals as goal

pub returns-in-Ok-Some-clause-tells : goal.returns-in-Ok-Some-clause-tells
returns-in-Ok-Some-clause-tells c =
    let made = rw c.in-Ok-Some.field-0-is at c.in-Ok-Some.ensures in
    rw (c.right.ensures.finding, c.right.ensures.text)
    (made.0, made.1, purge_made _ c.args.label.now made.0 c.in-Ok-Some.made.count c.in-Ok-Some.made.text.items (λ n. refl) (λ roots. refl) made.2)
