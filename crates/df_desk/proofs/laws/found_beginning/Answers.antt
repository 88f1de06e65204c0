use Rattle.std.proofs.Common.{subst}
use Rattle.std.proofs.lemmas.List.{take-append-drop}
use mathlib.Core.List.{IsPrefix}
use Rattle.df_desk.proofs.laws.found_beginning.Goals as goal

pub returns : goal.returns
returns g c = subst (λ pass. IsPrefix pass.found pass.seen) c.pass.view_is (_, take-append-drop c.pass.inside.found _)
