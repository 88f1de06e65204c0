-- Privileges are totally ordered, and only equal privileges tie.
use Rattle.std.proofs.Common.{◌≡◌, ◌||◌, List, refl, ap, sym, arith}
use Rattle.std.specs.declared.cmp.Ordering.{Ordering}
use Rattle.std.specs.declared.cmp.Ordering.TheVariants.{Less, Equal, Greater}
use Rattle.std.specs.Bool.{Decides}
use Rattle.std.specs.Ordering.{is_eq, ordering_then}
use Rattle.std.proofs.lemmas.Bool.{true≢false}
use Rattle.std.specs.FinMap.{nat_cmp-IsAntisymmetric}
use Rattle.df_label.specs.Tag.{tag_cmp}
use Rattle.df_label.specs.Privilege.{place_of, right_cmp, privilege_cmp, privilege_eq, privilege_cmp_total}
use Rattle.df_label.specs.declared.privilege.Right.{Right}
use Rattle.df_label.specs.declared.privilege.Right.TheVariants.{Plus, Minus, PlusAuth, MinusAuth}
use Rattle.df_label.specs.declared.privilege.Privilege.{Privilege}
use Rattle.df_label.specs.Ascending.{IsAscending}
use Rattle.df_label.specs.Privileges.{contains, add}
use Rattle.df_label.proofs.SetFacts.{IsExactOrder, contains-insert, ascending_insert, eq_by_cmp-Decides}
use Rattle.df_label.proofs.TagSetFacts.{tag_cmp_exact}

-- no two rights stand at one place
place_of-exact : (r s : Right) → place_of r ≡ place_of s → r ≡ s
place_of-exact Plus Plus h = refl
place_of-exact Plus Minus h = absurd (omega arith)
place_of-exact Plus PlusAuth h = absurd (omega arith)
place_of-exact Plus MinusAuth h = absurd (omega arith)
place_of-exact Minus Plus h = absurd (omega arith)
place_of-exact Minus Minus h = refl
place_of-exact Minus PlusAuth h = absurd (omega arith)
place_of-exact Minus MinusAuth h = absurd (omega arith)
place_of-exact PlusAuth Plus h = absurd (omega arith)
place_of-exact PlusAuth Minus h = absurd (omega arith)
place_of-exact PlusAuth PlusAuth h = refl
place_of-exact PlusAuth MinusAuth h = absurd (omega arith)
place_of-exact MinusAuth Plus h = absurd (omega arith)
place_of-exact MinusAuth Minus h = absurd (omega arith)
place_of-exact MinusAuth PlusAuth h = absurd (omega arith)
place_of-exact MinusAuth MinusAuth h = refl

tied_both : (a b : Ordering) → ordering_then a b ≡ Equal → (a ≡ Equal) × (b ≡ Equal)
tied_both Less b h = absurd (true≢false (sym (ap is_eq h)))
tied_both Equal b h = (refl, h)
tied_both Greater b h = absurd (true≢false (sym (ap is_eq h)))

privilege_exact : (p q : Privilege) → privilege_cmp p q ≡ Equal → p ≡ q
privilege_exact p q h =
    let both : (tag_cmp p.tag q.tag ≡ Equal) × (right_cmp p.right q.right ≡ Equal) = tied_both (tag_cmp p.tag q.tag) (right_cmp p.right q.right) h in
    let tag : p.tag ≡ q.tag = tag_cmp_exact.exact p.tag q.tag both.0 in
    let right : p.right ≡ q.right = place_of-exact p.right q.right (nat_cmp-IsAntisymmetric (place_of p.right) (place_of q.right) both.1) in
    λ i. record { tag = tag i; right = right i }

pub privilege_cmp_exact : IsExactOrder privilege_cmp
privilege_cmp_exact = record { total = privilege_cmp_total; exact = privilege_exact }

-- ---- sets of privileges

pub contains-add : (ps : List Privilege) (p q : Privilege) → contains (add ps p) q ≡ (privilege_eq p q || contains ps q)
contains-add = contains-insert privilege_cmp privilege_cmp_exact

pub ascending-add : (ps : List Privilege) (p : Privilege) → IsAscending privilege_cmp ps → IsAscending privilege_cmp (add ps p)
ascending-add = ascending_insert privilege_cmp privilege_cmp_exact

pub privilege_eq-Decides : (p q : Privilege) → Decides (privilege_eq p q) (p ≡ q)
privilege_eq-Decides = eq_by_cmp-Decides privilege_cmp privilege_cmp_exact
