use Rattle.std.proofs.Common.{ℕ, List, subst}
use Rattle.df_keep.specs.Outcome.{DamagedIsExact, DoesScript, StartDiffersIsExact}
use Rattle.df_keep.specs.Script.{texts}
use Rattle.df_keep.proofs.Verdicts.{one_name}
use Rattle.df_keep.proofs.run.run_keep.Goals as goal

pub returns-in-Some-clause-usage : goal.returns-in-Some-clause-usage
returns-in-Some-clause-usage g c = (
  λ is. absurd (c.keep_named.ensures.named is),
  λ nothing. absurd (nothing c.in-Some.names.script.now c.in-Some.ensures),
)

pub returns-in-Some-clause-unused : goal.returns-in-Some-clause-unused
returns-in-Some-clause-unused g c = λ nothing. absurd (nothing c.in-Some.names.script.now c.in-Some.ensures)

pub returns-in-Some-clause-unused_disk : goal.returns-in-Some-clause-unused_disk
returns-in-Some-clause-unused_disk g c = λ nothing. absurd (nothing c.in-Some.names.script.now c.in-Some.ensures)

pub returns-in-Some-clause-damaged : goal.returns-in-Some-clause-damaged
returns-in-Some-clause-damaged g c = λ name named. subst (λ (n : List ℕ). DamagedIsExact (g.F.Shelf.bytes c.args.shelf.now n)
    (g.D.Disk.bytes c.args.disk.now) c.keep_named.result) (one_name (texts c.args.words.now) c.in-Some.names.script.now name c.in-Some.ensures named)
    c.keep_named.ensures.damaged

pub returns-in-Some-clause-start_differs : goal.returns-in-Some-clause-start_differs
returns-in-Some-clause-start_differs g c = λ name named. subst (λ (n : List ℕ). StartDiffersIsExact (g.F.Shelf.bytes c.args.shelf.now n)
    (g.D.Disk.bytes c.args.disk.now) c.keep_named.result) (one_name (texts c.args.words.now) c.in-Some.names.script.now name c.in-Some.ensures named)
    c.keep_named.ensures.start_differs

pub returns-in-Some-clause-does : goal.returns-in-Some-clause-does
returns-in-Some-clause-does g c = λ name named. subst (λ (n : List ℕ). DoesScript (g.F.Shelf.bytes c.args.shelf.now n)
    (g.D.Disk.bytes c.args.disk.now) c.keep_named.result) (one_name (texts c.args.words.now) c.in-Some.names.script.now name c.in-Some.ensures named)
    c.keep_named.ensures.does

pub returns-in-None-clause-bad_input : goal.returns-in-None-clause-bad_input
returns-in-None-clause-bad_input g c = λ name named. absurd (c.in-None.ensures name named)

pub returns-in-None-clause-too_long : goal.returns-in-None-clause-too_long
returns-in-None-clause-too_long g c = λ name named. absurd (c.in-None.ensures name named)

pub returns-in-None-clause-damaged : goal.returns-in-None-clause-damaged
returns-in-None-clause-damaged g c = λ name named. absurd (c.in-None.ensures name named)

pub returns-in-None-clause-start_differs : goal.returns-in-None-clause-start_differs
returns-in-None-clause-start_differs g c = λ name named. absurd (c.in-None.ensures name named)

pub returns-in-None-clause-does : goal.returns-in-None-clause-does
returns-in-None-clause-does g c = λ name named. absurd (c.in-None.ensures name named)
