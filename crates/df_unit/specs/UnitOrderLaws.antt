-- The order of units is total, and two units are level exactly where they are one.
use Rattle.std.specs.Prelude.{◌≡◌, ℕ, List, [], Some, refl}
use Rattle.std.specs.Cmp.{IsEquivalence, IsPartialOrder, IsTotalOrder, both_tied, eq_by_cmp_equiv, nat_cmp_total, on_total, po, then_total, unsigned_ties}
use Rattle.std.specs.Cmp.Lexicographic.{lists_ties, lists_total, nat_list_cmp_total, texts_ties}
use Rattle.std.specs.Ordering.{eq_by_cmp, nat_cmp, on, ordering_then, then_cmp}
use Rattle.std.specs.declared.cmp.Ordering.{Ordering}
use Rattle.std.specs.declared.cmp.Ordering.TheVariants.{Less, Equal, Greater}
use Rattle.std.proofs.Common.{subst, sym}
use Rattle.df_label.specs.Tag.{tag_cmp}
use Rattle.df_label.specs.TagSet.{tag_set_cmp}
use Rattle.df_unit.specs.Name.{same}
use Rattle.df_unit.specs.UnitOrder.{path_cmp, unit_cmp}
use Rattle.df_unit.specs.declared.name.UnitName.{UnitName}
use Rattle.df_unit.specs.declared.name.UnitName.TheVariants.{Root, Managed}

-- what is compared, the first that differs decides

kind : UnitName → ℕ
kind (Root p) = 0
kind (Managed p n s) = 1

path : UnitName → List ℕ
path (Root p) = p
path (Managed p n s) = p

number : UnitName → ℕ
number (Root p) = 0
number (Managed p n s) = n

tags : UnitName → List (List ℕ)
tags (Root p) = []
tags (Managed p n s) = s

abbrev by_turns : UnitName → UnitName → Ordering
by_turns = then_cmp (on kind nat_cmp) (then_cmp (on path path_cmp)
    (then_cmp (on number nat_cmp) (on tags tag_set_cmp)))

then_Equal : (o : Ordering) → ordering_then o Equal ≡ o
then_Equal Less = refl
then_Equal Equal = refl
then_Equal Greater = refl

is_by_turns : (u v : UnitName) → by_turns u v ≡ unit_cmp u v
unfolding kind path number tags
is_by_turns (Root p) (Root q) = then_Equal (path_cmp p q)
is_by_turns (Root p) (Managed q m t) = refl
is_by_turns (Managed p n s) (Root q) = refl
is_by_turns (Managed p n s) (Managed q m t) = refl

-- the order is total
pub unit_cmp_total : IsTotalOrder unit_cmp
unit_cmp_total =
    subst IsTotalOrder (λ i u v. is_by_turns u v i)
    (then_total (on_total kind nat_cmp_total)
    (then_total (on_total path nat_list_cmp_total)
    (then_total (on_total number nat_cmp_total)
    (on_total tags (lists_total nat_list_cmp_total)))))

-- two units are level exactly where they are one
pub unit_cmp_ties : (u v : UnitName) → same u v ≡ eq_by_cmp unit_cmp u v
unit_cmp_ties (Root p) (Root q) = texts_ties p q
unit_cmp_ties (Root p) (Managed q m t) = refl
unit_cmp_ties (Managed p n s) (Root q) = refl
unit_cmp_ties (Managed p n s) (Managed q m t) =
    both_tied _ _ (path_cmp p q) (ordering_then (nat_cmp n m) (tag_set_cmp s t)) (texts_ties p q)
    (both_tied _ _ (nat_cmp n m) (tag_set_cmp s t) (unsigned_ties n m)
    (lists_ties tag_cmp texts_ties s t))

pub same_equiv : IsEquivalence same
same_equiv =
    subst IsEquivalence (λ i u v. sym (unit_cmp_ties u v) i) (eq_by_cmp_equiv unit_cmp_total)

pub unit_cmp_po : IsPartialOrder same (λ u v. Some (unit_cmp u v))
unit_cmp_po = po unit_cmp_total unit_cmp_ties
