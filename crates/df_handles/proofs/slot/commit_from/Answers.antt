use Rattle.df_handles.proofs.Names.{◌∙◌, ap}
use Rattle.df_unit.specs.declared.commit.Commit.{Commit}
use Rattle.df_unit.specs.declared.entry.Effect.{Effect}
use Rattle.df_handles.proofs.slot.commit_from.Goals as goal

pub returns-clause-effect : goal.returns-clause-effect
returns-clause-effect c =
    let edit = c.adding.ensures ∙ (λ j. (c.deletions-deleted.ensures j, c.in-Ok.ensures.ok j)) in
    ap (λ (k : Commit). Effect.Commit k) (λ i. let made : Commit = record { event = c.replace-event.ensures.value i; edit = edit i } in made)
