-- Privileges that a call brings to its unit.
use Rattle.std.specs.Prelude.{ℕ, List, [], ◌∷◌}
use Rattle.df_label.specs.declared.privilege.Privilege.{Privilege}
use Rattle.df_label.specs.declared.privilege.Right.TheVariants.{Plus, Minus, PlusAuth, MinusAuth}

-- all four privileges over a tag
abbrev pub all_over : List ℕ → List Privilege
all_over tag =
    record { tag = tag; right = Plus }
    ∷ record { tag = tag; right = Minus }
    ∷ record { tag = tag; right = PlusAuth }
    ∷ record { tag = tag; right = MinusAuth }
    ∷ []
