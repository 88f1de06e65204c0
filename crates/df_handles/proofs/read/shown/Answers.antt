use Rattle.df_handles.proofs.Names.{◌≡◌, List, subst}
use Rattle.std.specs.Prelude.{IfOk}
use Rattle.df_unit.specs.declared.parts.PartRead.{PartRead}
use Rattle.df_handles.proofs.Views.{shown_once}
use Rattle.df_handles.proofs.read.shown.Goals as goal

pub returns : goal.returns
returns c =
    let P : List PartRead → Type 0 = λ parts. IfOk c.shown_in.result (λ v. v.items ≡ parts) in
    subst P (rw (c.as_slice.ensures, c.as_slice-2.ensures) (shown_once c.args.input.now c.args.name.now c.args.handle.now)) c.shown_in.ensures
