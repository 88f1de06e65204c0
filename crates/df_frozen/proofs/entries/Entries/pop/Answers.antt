use Rattle.std.proofs.Common.{◌≡◌, ◌∷◌, [], ◌++◌, ◌∙◌, ap, subst}
use Rattle.std.specs.Prelude.{option_to_list}
use Rattle.df_frozen.specs.Entries.{names, IsAscending}
use Rattle.df_frozen.proofs.Named.{map-push, IsAscending-before}
use Rattle.df_frozen.proofs.entries.Entries.pop.Goals as goal

pub invariant_of-self : goal.invariant_of-self
invariant_of-self c =
    let rest = c.pop.new.self.items in
    let e : c.self.inside.entries.items ≡ rest ++ c.unwrap.result ∷ [] = c.pop.ensures.items ∙ ap (λ o. rest ++ option_to_list o) c.unwrap.ensures in
    IsAscending-before (names rest) c.unwrap.result.0 (subst IsAscending (ap names e ∙ map-push (λ x. x.0) rest c.unwrap.result) c.self.invariant)
