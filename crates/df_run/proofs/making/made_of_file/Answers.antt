use Rattle.df_run.proofs.Names.{List, ℕ, [], ◌∷◌, refl, subst, BlamesBytes, IsText}
use Rattle.df_run.proofs.Floors.{first_stops}
use Rattle.df_run.proofs.making.made_of_file.Goals as goal
use Rattle.df_run.specs.declared.status.Status.TheVariants as status

pub returns-in-Err-clause-stops : goal.returns-in-Err-clause-stops
returns-in-Err-clause-stops g c = first_stops c.args.command.now _ _ _ _ c.in-Err.status (c.in-Err.ensures.stops c.args.command.now)

pub returns-in-Ok-output_of-clause-makes : goal.returns-in-Ok-output_of-clause-makes
returns-in-Ok-output_of-clause-makes g c =
    let o = c.in-Ok-output_of.output in
    let text = subst (λ (bs : List ℕ). IsText c.args.command.now (bs ∷ []) o.end o.text.items) c.as_slice.ensures.value c.in-Ok-output_of.ensures.gives in
    (c.in-Ok.bytes.items ∷ [], (c.in-Ok.ensures.read, tt), text)

pub returns-in-Err-BadInput-clause-stops : goal.returns-in-Err-BadInput-clause-stops
returns-in-Err-BadInput-clause-stops g c =
    let refuses = rw c.in-Err-BadInput.field-0-is at c.in-Err-BadInput.ensures.refuses in
    let blames = subst (λ (bs : List ℕ). BlamesBytes c.args.command.now 1 bs c.in-Err-BadInput.line c.in-Err-BadInput.kind) c.as_slice.ensures.value refuses in
    first_stops c.args.command.now _ _ _ _ (status.BadInput 1 c.in-Err-BadInput.line c.in-Err-BadInput.kind)
    (refl, (c.in-Ok.bytes.items, c.in-Ok.ensures.read, blames))
