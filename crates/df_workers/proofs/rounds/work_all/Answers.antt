use Rattle.df_workers.proofs.Names.{sym, subst, arg_send, param_send, sendable, IsFree, brain_of}
use denote.Exit.{no}
use denote.Param.{param}
use Rattle.df_hub.specs.contracts.hub.Hub as Hub
use Rattle.df_sendable.proofs.Hubs.{hub_sync}
use Rattle.df_workers.proofs.Crossing.{tools_sync, worker_send}
use Rattle.df_workers.proofs.Gathered.{have_worked}
use Rattle.df_workers.proofs.rounds.work_all.Goals as goal

pub for_each_mut-requires : goal.for_each_mut-requires
for_each_mut-requires g c κs =
    let brain = g.B.Brain in
    let steps = g.B.StepFunction in
    let sent = c.type_bounds.send-B in
    let seen = c.type_bounds.sync-B in
    let hub = hub_sync (param 0 g.row.B) brain steps sent seen in (
      param_send 1 _ (arg_send _ no _ (worker_send (param 0 g.row.B) brain steps sent seen)),
      (
        search (c.type_bounds.sync-R, sendable) depth 40,
        (
          record {
            shared =
                (tools_sync (param 1 g.row.R) (Hub.the_row (param 0 g.row.B) brain steps) (param 2 g.row.G) κs.1.1.1.1.1.1.0 κs.1.1.1.1.1.1.1.0
                κs.1.1.1.1.1.1.1.1.0 κs.1.1.1.1.1.1.1.1.1.0
                κs.1.1.1.1.1.1.1.1.1.1.0 κs.1.1.1.1.1.1.1.1.1.1.1.0 c.type_bounds.sync-R hub c.type_bounds.sync-G).shared;
          },
          (c.requires.workers, λ i p lt e. (subst (λ w. IsFree c.args.hub.now w.pass) (sym e) (c.requires.free i p.now lt), c.requires.workers)),
        ),
      ),
    )

pub returns : goal.returns
returns g c =
    have_worked (brain_of g.B.StepFunction.next g.B.StepFunction.instance) c.args.hub.now c.args.max c.args.share.now.workers c.args.share.now.units.now
    c.args.all.now c.for_each_mut.new.s
    c.for_each_mut.auto.s (λ k d lt. let at = (c.for_each_mut.ensures k d lt).1 in (at.argument.now, at.after_call.now, at.argument_is, at.left, at.call))
