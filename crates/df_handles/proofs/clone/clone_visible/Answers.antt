use Rattle.df_handles.proofs.Names.{◌≡◌, List, ◌++◌, OnOk, subst, Part, cloned}
use Rattle.df_handles.proofs.Views.{visible_once}
use Rattle.df_handles.proofs.clone.clone_visible.Goals as goal

pub returns : goal.returns
returns c =
    let P : List Part → Type 0 = λ parts. OnOk c.clone_visible_in.result (c.clone_visible_in.new.to.items ≡ c.args.to.now.items ++ cloned c.args.output.now c.args.label.now parts) in
    subst P (rw (c.as_slice.ensures, c.as_slice-2.ensures) (visible_once c.args.input.now c.args.handle.now)) c.clone_visible_in.ensures
