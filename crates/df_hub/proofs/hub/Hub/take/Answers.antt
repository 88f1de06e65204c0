use Rattle.std.proofs.Common.{ap, ◌∙◌}
use Rattle.df_hub.proofs.hub.Hub.take.Goals as goal

pub returns-clause-begins : goal.returns-clause-begins
returns-clause-begins g c = rw c.take-crew.ensures.found c.take-crew.ensures.begins

pub returns-clause-origin : goal.returns-clause-origin
returns-clause-origin g c = c.take-crew.ensures.origin ∙ ap (λ d. d.origin) c.self.view_is
