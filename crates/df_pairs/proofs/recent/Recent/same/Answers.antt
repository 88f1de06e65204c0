use Rattle.std.proofs.Common.{ap, ap₂, sym, ◌∙◌}
use Rattle.std.proofs.lemmas.Slice.Eq.{slice_eq-Decides}
use Rattle.std.proofs.lemmas.Bool.Decides.{Decides-int_eq}
use Rattle.df_pairs.specs.Spreads.{Window}
use Rattle.df_pairs.proofs.recent.Recent.same.Goals as goal

pub returns-then-self-other : goal.returns-then-self-other
returns-then-self-other c =
    let d = slice_eq-Decides Decides-int_eq c.self.inside.newest_first.items c.other.inside.newest_first.items c.eq.result c.eq.ensures in (
      λ t. sym c.self.view_is ∙ ap₂ (λ m s. record { most = m; spreads = s }) c.if-self-other.true (d.0 t) ∙ c.other.view_is,
      λ e. d.1 (ap (λ (w : Window). w.spreads) (c.self.view_is ∙ e ∙ sym c.other.view_is)),
    )
