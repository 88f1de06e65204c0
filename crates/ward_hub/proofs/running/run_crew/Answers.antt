use Rattle.ward_hub.proofs.Ran.{ran_opened}
use Rattle.ward_hub.proofs.running.run_crew.Goals as goal

pub returns-clause-ran : goal.returns-clause-ran
returns-clause-ran g c =
    ran_opened _ c.args.max c.args.crew c.open_turns.new.crew c.in_ok-open_turns.ensures.more c.run_on_hub.result c.run_on_hub.ensures.ran
