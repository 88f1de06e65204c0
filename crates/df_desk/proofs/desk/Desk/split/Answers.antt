use Rattle.std.proofs.Common.{rules, false, ap, ◌∙◌}
use Rattle.df_desk.proofs.Steps.{splits}
use Rattle.df_desk.proofs.Passes.{is_settled}
use Rattle.df_desk.proofs.desk.Desk.split.Goals as goal

pub split_seat-seat-requires : goal.split_seat-seat-requires
split_seat-seat-requires g c =
    let sits = is_settled g.V.Journaled.list _ false _ _ _ c.pass.invariant (ap (λ p. p.holds) c.pass.view_is ∙ c.requires.1) in
    (search rules, search rules, splits g.V.Journaled.origin g.V.Journaled.list _ _ _ c.pass.invariant.latest (ap (λ m. m.0) sits))
