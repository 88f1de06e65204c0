use Rattle.std.specs.Prelude.{ℕ, Bool}
use Rattle.std.specs.declared.cmp.Ordering.{Ordering}
use Rattle.std.specs.Ordering.{nat_cmp, on, then_cmp, eq_by_cmp}
use Rattle.std.specs.Cmp.{IsTotalOrder, nat_cmp_total, on_total, then_total}
use Rattle.std.specs.Cmp.Lexicographic.{nat_list_cmp_total}
use Rattle.df_label.specs.Tag.{tag_cmp}
use Rattle.df_label.specs.declared.privilege.Right.{Right}
use Rattle.df_label.specs.declared.privilege.Right.TheVariants.{Plus, Minus, PlusAuth, MinusAuth}
use Rattle.df_label.specs.declared.privilege.Privilege.{Privilege}

-- the place of a right in their order
abbrev pub place_of : Right → ℕ
place_of Plus = 0
place_of Minus = 1
place_of PlusAuth = 2
place_of MinusAuth = 3

-- the order of rights
abbrev pub right_cmp : Right → Right → Ordering
right_cmp = on place_of nat_cmp

-- the order of privileges: by tag, then right
abbrev pub privilege_cmp : Privilege → Privilege → Ordering
privilege_cmp = then_cmp (on (λ p. p.tag) tag_cmp) (on (λ p. p.right) right_cmp)

-- whether two privileges are one
abbrev pub privilege_eq : Privilege → Privilege → Bool
privilege_eq = eq_by_cmp privilege_cmp

-- privileges are totally ordered
pub privilege_cmp_total : IsTotalOrder privilege_cmp
privilege_cmp_total =
    then_total (on_total (λ p. p.tag) nat_list_cmp_total)
    (on_total (λ p. p.right) (on_total place_of nat_cmp_total))
