use Rattle.df_local.proofs.Names.{◌∙◌, named_in}
use Rattle.df_handles.proofs.Views.{named_once}
use Rattle.df_local.proofs.named_parts.NamedParts.of_handle.Goals as goal

pub returns : goal.returns
returns c =
    (λ i. named_in c.args.input.now (c.as_slice.ensures i) c.args.name.now (c.as_slice-2.ensures i))
    ∙ named_once c.args.input.now c.args.name.now c.args.handle.now
