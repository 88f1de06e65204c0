use Rattle.std.proofs.Common.{subst, Option}
use Rattle.df_local.specs.code.LocalState.{LocalState}
use Rattle.df_local_run.specs.code.Parts.{IsRun, present_of}
use Rattle.df_local_run.specs.Runs.{LeadTo}
use Rattle.df_local_run.proofs.RunsOn.{stays_run}
use Rattle.df_local_run.proofs.parts.RunParts.call.Goals as goal

pub returns-in-Some-clause-run : goal.returns-in-Some-clause-run
returns-in-Some-clause-run c =
    let p = c.copy_unit-copied.new.self in
    let before : IsRun p = c.copy_unit-copied.ensures.run c.requires.run in
    let run = subst (λ (o : Option LocalState). LeadTo p.entries.items p.base (present_of p.base o)) c.in-Some.is before.run in
    record {
      run = stays_run p.base c.in-Some.present c.make.new.unit p.entries.items c.make.new.entries.items c.args.call.now c.make.result
          run c.requires.local c.make.ensures.ok c.make.ensures.unit c.make.ensures.entries;
      copied = λ e. absurd (let z : ⊥ = cc in z);
    }
