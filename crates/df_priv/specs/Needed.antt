-- What a change of a unit's label, or an attachment to a part, asks its unit to hold.
use Rattle.std.specs.Prelude.{ℕ, List}
use Rattle.df_label.specs.declared.privilege.Privilege.{Privilege}
use Rattle.df_label.specs.declared.privilege.Right.{Right}
use Rattle.df_label.specs.declared.privilege.Right.TheVariants.{Plus, Minus, PlusAuth, MinusAuth}
use Rattle.df_priv.specs.declared.need.Act.{Act}
use Rattle.df_priv.specs.declared.need.Act.TheVariants.{Add, Del}

-- adding a tag needs its plus, taking it out its minus
abbrev pub needed : Act → List ℕ → Privilege
needed Add t = record { tag = t; right = Plus }
needed Del t = record { tag = t; right = Minus }

-- the right to pass on a right
abbrev pub auth_of : Right → Right
auth_of Plus = PlusAuth
auth_of Minus = MinusAuth
auth_of PlusAuth = PlusAuth
auth_of MinusAuth = MinusAuth

-- attaching a right over a tag needs the right to pass it on, over that tag
abbrev pub needed_to_attach : Privilege → Privilege
needed_to_attach p = record { tag = p.tag; right = auth_of p.right }
