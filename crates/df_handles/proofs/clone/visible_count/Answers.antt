use Rattle.df_handles.proofs.Names.{◌≡◌, List, length, subst, Part}
use Rattle.df_handles.proofs.Views.{visible_once}
use Rattle.df_handles.proofs.clone.visible_count.Goals as goal

pub returns : goal.returns
returns c =
    let P : List Part → Type 0 = λ parts. c.visible_count_in.result ≡ length parts in
    subst P (rw (c.as_slice.ensures, c.as_slice-2.ensures) (visible_once c.args.input.now c.args.handle.now)) c.visible_count_in.ensures
